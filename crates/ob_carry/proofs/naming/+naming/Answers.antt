use Rattle.std.proofs.Common.{◌≡◌, ◌∙◌, Some, ap, arith, string_bytes, sym}
use Rattle.ob_carry.proofs.Rows.{named_in-elements, named_in-fields}
use Rattle.ob_carry.specs.View.{elements_of, fields_of}
use Rattle.ob_carry.proofs.NamedParts.{array_made, fields_end, fields_step, named_end, named_step, no_fields, record_made}
use Rattle.ob_carry.proofs.naming.+naming.Goals as goal
use Rattle.ob_checked.specs.Types.{fields_by, type_in, types_of}
use Rattle.ob_checked.specs.View.{table_of}
use Rattle.ob_store.proofs.Parts.{value_in-parts}
use Rattle.ob_store.specs.View.{value_in, values_in}
use Rattle.ob_meaning.specs.ByPositionValue as Positions

pub fields_named-returns-then-parts-declared : goal.fields_named-returns-then-parts-declared
fields_named-returns-then-parts-declared t c =
    no_fields (types_of (table_of c.args.types.now)) c.args.declared.now c.new.result.items c.args.parts.now c.if-parts-declared.true

pub named-returns-in_ok-elements-in-Some : goal.named-returns-in_ok-elements-in-Some
named-returns-in_ok-elements-in-Some t c =
    let all = c.in_ok-elements-in-Some.elements in
    array_made (type_in (table_of c.args.types.now) c.args.data_type) _ (type_in (table_of c.args.types.now) c.in-Some.element) (elements_of all.items)
    (values_in c.as_slice.result.now) _ (value_in c.args.value.now) (named_in-elements all)
    (ap value_in c.in-Parts.is ∙ value_in-parts c.in-Parts.parts ∙ ap (λ ws. Positions.Parts (values_in ws)) (sym c.as_slice.ensures.value))
    c.in-Some.ensures c.in_ok-elements-in-Some.ensures

pub named-returns-in_ok-fields-in-Some-fields_of : goal.named-returns-in_ok-fields-in-Some-fields_of
named-returns-in_ok-fields-in-Some-fields_of t c =
    let all = c.in_ok-fields-in-Some-fields_of.fields in
    let declared = c.as_slice-in-Some-fields_of in
    let parts = c.as_slice-in-Some-fields_of-2 in
    let ts = types_of (table_of c.args.types.now) in
    record_made (type_in (table_of c.args.types.now) c.args.data_type) (fields_by ts declared.result.now) (fields_of all.items)
    (values_in parts.result.now) _ (value_in c.args.value.now) (named_in-fields all)
    (ap value_in c.in-Parts.is ∙ value_in-parts c.in-Parts.parts ∙ ap (λ ws. Positions.Parts (values_in ws)) (sym parts.ensures.value))
    (ap (λ fs. Some (fields_by ts fs)) declared.ensures ∙ c.in-Some-fields_of.ensures)
    c.in_ok-fields-in-Some-fields_of.ensures

pub elements_named-loop-part-preserved : goal.elements_named-loop-part-preserved
elements_named-loop-part-preserved t c =
    named_step (type_in (table_of c.args.types.now) c.args.element) c.loop-part.elements.items _ c.args.parts.now c.loop-part.part-index c.in_ok-named.field-0 c.part-item.result
    c.loop-part-test.true c.part-item.is c.in_ok-push.ensures.items c.loop-part.invariant c.in_ok-named.ensures

pub elements_named-returns : goal.elements_named-returns
elements_named-returns t c =
    named_end (type_in (table_of c.args.types.now) c.args.element) c.loop-part.elements.items c.args.parts.now c.loop-part.part-index c.loop-part-test.false c.loop-part.invariant

pub fields_named-loop-position-preserved : goal.fields_named-loop-position-preserved
fields_named-loop-position-preserved t c =
    let f = c.index-declared-position.result in
    let name : string_bytes c.in_ok-name.name ≡ string_bytes f.0 = c.in_ok-name.ensures.ok ∙ c.deref.ensures in
    fields_step (types_of (table_of c.args.types.now)) c.args.declared.now c.loop-position.fields.items _ c.args.parts.now c.loop-position.position f
    (record { name = c.in_ok-name.name; value = c.in_ok-value.value }) c.index-parts-position.result
    (omega (arith, c.if-parts-declared.false, c.loop-position-test.true)) c.index-declared-position.is c.loop-position-test.true c.index-parts-position.is
    c.in_ok-push.ensures.items c.loop-position.invariant name c.in_ok-value.ensures

pub fields_named-returns : goal.fields_named-returns
fields_named-returns t c =
    fields_end (types_of (table_of c.args.types.now)) c.args.declared.now c.loop-position.fields.items c.args.parts.now c.loop-position.position
    c.loop-position-test.false c.if-parts-declared.false c.loop-position.invariant
