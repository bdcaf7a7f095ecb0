-- The parts of a named value: a vector within a value as a list.
use Rattle.std.proofs.Common.{◌≡◌, ◌∙◌, refl, ap, Vec, string_bytes}
use Rattle.std.specs.declared.alloc.Global.{Global}
use mathlib.Core.Former.{Count}
use Rattle.ob_carry.specs.declared.fields_by_name.NamedField.{NamedField}
use Rattle.ob_carry.specs.declared.fields_by_name.NamedValue.{NamedValue, Row_of-NamedValue, end_of-NamedValue, more_of-NamedValue, items-the_row-NamedValue, items_hidden-the_row-NamedValue-0, Row_of-NamedField, end_of-NamedField, more_of-NamedField, items-the_row-NamedField, items_hidden-the_row-NamedField-1}
use Rattle.ob_carry.specs.declared.fields_by_name.NamedValue.TheVariants as Variants
use Rattle.ob_carry.specs.View.{named_in, elements_in, fields_in, elements_of, fields_of}
use Rattle.ob_meaning.specs.ByNameValue as Named

elements_row : (n : Count) (row : Row_of-NamedValue n) → elements_in row ≡ elements_of (items-the_row-NamedValue n row)
elements_row n end_of-NamedValue = refl
elements_row n (more_of-NamedValue v rest) = ap (Named.value (named_in v)) (elements_row _ rest)

abbrev elements_row_of : NamedValue → (n : Count) × Row_of-NamedValue n
elements_row_of (Variants.Elements' shape row) = (_, row)
elements_row_of _ = (_, end_of-NamedValue)

pub named_in-elements : (elements : Vec NamedValue Global) → named_in (Variants.Elements elements) ≡ Named.Elements (elements_of elements.items)
named_in-elements elements =
    let row = elements_row_of (Variants.Elements elements) in
    ap Named.Elements (elements_row row.0 row.1 ∙ ap elements_of (items_hidden-the_row-NamedValue-0 elements))

fields_row : (n : Count) (row : Row_of-NamedField n) → fields_in row ≡ fields_of (items-the_row-NamedField n row)
fields_row n end_of-NamedField = refl
fields_row n (more_of-NamedField name v rest) = ap (Named.named (string_bytes name) (named_in v)) (fields_row _ rest)

abbrev fields_row_of : NamedValue → (n : Count) × Row_of-NamedField n
fields_row_of (Variants.Fields' shape row) = (_, row)
fields_row_of _ = (_, end_of-NamedField)

pub named_in-fields : (fields : Vec NamedField Global) → named_in (Variants.Fields fields) ≡ Named.Named (fields_of fields.items)
named_in-fields fields =
    let row = fields_row_of (Variants.Fields fields) in
    ap Named.Named (fields_row row.0 row.1 ∙ ap fields_of (items_hidden-the_row-NamedField-1 fields))
