use Rattle.std.proofs.Common.{◌∙◌, Some, ap, arith, sym}
use Rattle.ob_checked.specs.Types.{fields_by, type_in, types_of}
use Rattle.ob_checked.specs.View.{table_of}
use Rattle.ob_meaning.specs.ByNameValue as Meanings
use Rattle.ob_carry.specs.Values.{IsValueOf}
use Rattle.ob_carry.specs.View.{elements_of, fields_of, named_in}
use Rattle.ob_carry.proofs.Fitted.{array_made, count_of_elements, count_of_fields, element_among, elements_step, field_among, fields_step, names_differ, names_same, record_made}
use Rattle.ob_carry.proofs.Rows.{named_in-elements, named_in-fields}
use Rattle.ob_carry.proofs.fitting.+fitting.Goals as goal

pub elements_fitted-returns-then-elements-length : goal.elements_fitted-returns-then-elements-length
elements_fitted-returns-then-elements-length t c = λ h.
    let count = count_of_elements (λ v. IsValueOf (type_in (table_of c.args.types.now) c.args.element) v) c.args.length c.args.elements.now h in
    c.if-elements-length.true count

pub elements_fitted-returns-in-None : goal.elements_fitted-returns-in-None
elements_fitted-returns-in-None t c = λ h.
    let fit = rw c.in-None.is at c.in_ok-part.ensures in
    fit (element_among (λ v. IsValueOf (type_in (table_of c.args.types.now) c.args.element) v) c.args.length c.args.elements.now c.loop-value.value-index c.value-item.result
    c.loop-value-test.true c.value-item.is h)

pub elements_fitted-loop-value-preserved : goal.elements_fitted-loop-value-preserved
elements_fitted-loop-value-preserved t c =
    elements_step (type_in (table_of c.args.types.now) c.args.element) c.args.elements.now c.loop-value.value-index c.value-item.result c.loop-value.parts.items _ c.in-Some.part
    c.loop-value-test.true c.value-item.is c.in_ok-push-in-Some.ensures.items c.loop-value.invariant (rw c.in-Some.is at c.in_ok-part.ensures)

pub fields_fitted-returns-then-fields-declared : goal.fields_fitted-returns-then-fields-declared
fields_fitted-returns-then-fields-declared t c = λ h.
    c.if-fields-declared.true (count_of_fields (types_of (table_of c.args.types.now)) c.args.declared.now c.args.fields.now h)

pub fields_fitted-returns-then-ne : goal.fields_fitted-returns-then-ne
fields_fitted-returns-then-ne t c = λ h.
    let among =
    field_among (types_of (table_of c.args.types.now)) c.args.declared.now c.args.fields.now c.loop-position.position c.index-declared-position.result c.index-fields-position.result
    (omega arith) c.index-declared-position.is c.loop-position-test.true c.index-fields-position.is h in
    names_differ c.as_str.result.now c.as_str-in-loop-position.result.now c.if-ne.ensures
    (c.as_str-in-loop-position.ensures.value ∙ among.0 ∙ sym c.as_str.ensures.value)

pub fields_fitted-returns-in-None : goal.fields_fitted-returns-in-None
fields_fitted-returns-in-None t c = λ h.
    let among =
    field_among (types_of (table_of c.args.types.now)) c.args.declared.now c.args.fields.now c.loop-position.position c.index-declared-position.result c.index-fields-position.result
    (omega arith) c.index-declared-position.is c.loop-position-test.true c.index-fields-position.is h in
    let fit = rw c.in-None.is at c.in_ok-part.ensures in
    fit among.1

pub fields_fitted-loop-position-preserved : goal.fields_fitted-loop-position-preserved
fields_fitted-loop-position-preserved t c =
    fields_step (types_of (table_of c.args.types.now)) c.args.declared.now c.args.fields.now c.loop-position.position c.index-declared-position.result c.index-fields-position.result
    c.loop-position.parts.items _ c.in-Some.part (omega arith) c.index-declared-position.is c.loop-position-test.true c.index-fields-position.is c.in_ok-push-in-Some.ensures.items
    (sym c.as_str-in-loop-position.ensures.value ∙ names_same c.as_str.result.now c.as_str-in-loop-position.result.now c.if-ne.ensures ∙ c.as_str.ensures.value)
    c.loop-position.invariant (rw c.in-Some.is at c.in_ok-part.ensures)

pub fitted-returns-in_ok-parts-in-Some : goal.fitted-returns-in_ok-parts-in-Some
fitted-returns-in_ok-parts-in-Some t c =
    array_made (type_in (table_of c.args.types.now) c.args.data_type) c.in-Some.length (type_in (table_of c.args.types.now) c.in-Some.element) (elements_of c.as_slice.result.now)
    (named_in c.args.value.now) c.in_ok-parts-in-Some.parts _
    (ap named_in c.in-Elements.is ∙ named_in-elements c.in-Elements.elements ∙ ap (λ vs. Meanings.Elements (elements_of vs)) (sym c.as_slice.ensures.value))
    c.in-Some.ensures c.in_ok-parts-in-Some.ensures c.with_parts.ensures

pub fitted-returns-in_ok-parts-in-Some-fields_of : goal.fitted-returns-in_ok-parts-in-Some-fields_of
fitted-returns-in_ok-parts-in-Some-fields_of t c =
    let declared = c.as_slice-in-Some-fields_of in
    let given = c.as_slice-in-Some-fields_of-2 in
    let ts = types_of (table_of c.args.types.now) in
    record_made (type_in (table_of c.args.types.now) c.args.data_type) (fields_by ts declared.result.now) (fields_of given.result.now)
    (named_in c.args.value.now) c.in_ok-parts-in-Some-fields_of.parts _
    (ap named_in c.in-Fields.is ∙ named_in-fields c.in-Fields.fields ∙ ap (λ fs. Meanings.Named (fields_of fs)) (sym given.ensures.value))
    (ap (λ fs. Some (fields_by ts fs)) declared.ensures ∙ c.in-Some-fields_of.ensures)
    c.in_ok-parts-in-Some-fields_of.ensures c.with_parts-in-Some-fields_of.ensures
