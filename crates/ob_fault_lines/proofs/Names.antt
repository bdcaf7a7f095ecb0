-- The names of values in their places.
use Rattle.std.proofs.Common.{◌≡◌, ◌∙◌, ◌<◌, ◌≤◌, ap, sym, ℕ, List, [], Option, Some, None, length, get_or, option_map, slice_get, string_bytes}
use Rattle.std.proofs.lemmas.Option.{slice_get-get_or, slice_get-map, slice_get_past}
use Rattle.std.specs.Option.{option_map_or}
use Rattle.ob_carry.specs.Carried.{Entry}
use Rattle.ob_carry.specs.View.{entries_of, entry_of}
use Rattle.ob_carry.specs.declared.fields_by_name.NamedField.{NamedField}
use Rattle.ob_fault_lines.specs.CompileFaultLines.{name_in}

module _ (values : List NamedField) (position : ℕ) where
  pub name_there : (field : NamedField) → position < length values → field ≡ get_or values position field → string_bytes field.name ≡ name_in (entries_of values) position
  name_there field within is =
      let found : slice_get values position ≡ Some field = slice_get-get_or values position field within ∙ ap Some (sym is) in
      let entry : slice_get (entries_of values) position ≡ Some (entry_of field) = slice_get-map entry_of values position ∙ ap (option_map entry_of) found in
      sym (ap (λ (o : Option Entry). option_map_or (λ (e : Entry). e.name) o []) entry)

  pub no_name : length values ≤ position → [] ≡ name_in (entries_of values) position
  no_name beyond =
      let none : slice_get (entries_of values) position ≡ None = slice_get-map entry_of values position ∙ ap (option_map entry_of) (slice_get_past values position beyond) in
      sym (ap (λ (o : Option Entry). option_map_or (λ (e : Entry). e.name) o []) none)
