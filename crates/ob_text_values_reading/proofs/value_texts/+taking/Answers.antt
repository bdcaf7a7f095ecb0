use Rattle.std.proofs.Common.{◌∷◌, sym, subst}
use Rattle.ob_meaning.specs.ByNameValue.{Value}
use Rattle.ob_carry.proofs.Rows.{named_in-elements, named_in-fields}
use Rattle.ob_text_values_reading.proofs.Taken.{array_taken, array_within, elements_end, fields_end, no_element, no_equal, no_field, no_field_value, no_name, none_taken, not_ended, one_element_more, one_elements_rest, one_field_more, one_fields_rest, record_taken, record_within, some_fields_found}
use Rattle.ob_text_values_reading.specs.Taking.{Ends, TakesValue}
use Rattle.ob_text_values_reading.proofs.value_texts.+taking.Goals as goal

pub take_array-returns-then-limit-eq0 : goal.take_array-returns-then-limit-eq0
take_array-returns-then-limit-eq0 n c = λ v rest h. (array_within h).some c.if-limit-eq0.true

pub take_array-returns-in_default : goal.take_array-returns-in_default
take_array-returns-in_default n c = λ v rest h. let a = array_within h in (rw c.in_default.is at c.in_ok-rest.ensures) a.vs rest a.takes

pub take_array-returns-then-is_end : goal.take_array-returns-then-is_end
take_array-returns-then-is_end n c =
    subst (λ (v : Value). TakesValue c.args.limit (91 ∷ c.args.text.now) v c.in-Some.rest.now) (sym (named_in-elements c.take_elements.new.elements))
    (array_taken _ _ _ _ c.if-limit-eq0.false (rw c.in-Some.is at c.in_ok-rest.ensures) (c.is_end.ensures.0 c.if-is_end.true))

pub take_array-returns : goal.take_array-returns
take_array-returns n c = λ v rest h.
    let a = array_within h in
    let same = one_elements_rest a.takes (rw c.in-Some.is at c.in_ok-rest.ensures) in
    not_ended (c.is_end.ensures.1 (subst Ends same a.ends)) c.if-is_end.false

pub take_elements-returns-in_default : goal.take_elements-returns-in_default
take_elements-returns-in_default n c = no_element _ _ _ _ c.loop-value.invariant (rw c.in_default.is at c.in_ok-value.ensures)

pub take_elements-loop-value-preserved : goal.take_elements-loop-value-preserved
take_elements-loop-value-preserved n c = one_element_more _ _ _ _ _ _ c.loop-value.invariant (rw c.in-Some.is at c.in_ok-value.ensures) _ _ c.in_ok-push.ensures.items c.in-Some-behind_byte.ensures

pub take_elements-returns-in-None : goal.take_elements-returns-in-None
take_elements-returns-in-None n c =
    elements_end _ _ _ _ _ _ _ _ c.loop-value.invariant (rw c.in-Some.is at c.in_ok-value.ensures) c.in_ok-push.ensures.items c.in-None.ensures c.behind_byte-in-None.ensures

pub take_field-returns-in_default : goal.take_field-returns-in_default
take_field-returns-in_default n c = no_equal _ _ _ c.split_mark.ensures.alone c.in_default.ensures c.args.limit

pub take_field-returns-then-not-is_name : goal.take_field-returns-then-not-is_name
take_field-returns-then-not-is_name n c =
    no_name _ _ _ _ c.split_mark.ensures.alone c.in-Some.ensures (λ h. not_ended (c.is_name.ensures.1 h) c.if-not-is_name.true) c.args.limit

pub take_field-returns-in_default-2 : goal.take_field-returns-in_default-2
take_field-returns-in_default-2 n c = no_field_value _ _ _ _ c.args.limit c.split_mark.ensures.alone c.in-Some.ensures (rw c.in_default-2.is at c.in_ok-value.ensures)

pub take_fields-returns-in_default : goal.take_fields-returns-in_default
take_fields-returns-in_default n c = no_field _ _ _ _ c.loop-field.invariant (rw c.in_default.is at c.in_ok-field.ensures)

pub take_fields-loop-field-preserved : goal.take_fields-loop-field-preserved
take_fields-loop-field-preserved n c = one_field_more _ _ _ _ _ c.in-Some.field c.loop-field.invariant (rw c.in-Some.is at c.in_ok-field.ensures) _ _ c.in_ok-push.ensures.items c.in-Some-behind_byte.ensures

pub take_fields-returns-in-None : goal.take_fields-returns-in-None
take_fields-returns-in-None n c =
    fields_end _ _ _ _ _ c.in-Some.field _ _ c.loop-field.invariant (rw c.in-Some.is at c.in_ok-field.ensures) c.in_ok-push.ensures.items c.in-None.ensures c.behind_byte-in-None.ensures

pub take_record-returns-then-limit-eq0 : goal.take_record-returns-then-limit-eq0
take_record-returns-then-limit-eq0 n c = λ v rest h. (record_within h).some c.if-limit-eq0.true

pub take_record-returns-in_default : goal.take_record-returns-in_default
take_record-returns-in_default n c = λ v rest h. let a = record_within h in (rw c.in_default.is at c.in_ok-rest.ensures) a.fs rest a.takes

pub take_record-returns-then-is_end : goal.take_record-returns-then-is_end
take_record-returns-then-is_end n c =
    subst (λ (v : Value). TakesValue c.args.limit (123 ∷ c.args.text.now) v c.in-Some.rest.now) (sym (named_in-fields c.take_some_fields.new.fields))
    (record_taken _ _ _ _ c.if-limit-eq0.false (rw c.in-Some.is at c.in_ok-rest.ensures) (c.is_end.ensures.0 c.if-is_end.true))

pub take_record-returns : goal.take_record-returns
take_record-returns n c = λ v rest h.
    let a = record_within h in
    let same = one_fields_rest a.takes (rw c.in-Some.is at c.in_ok-rest.ensures) in
    not_ended (c.is_end.ensures.1 (subst Ends same a.ends)) c.if-is_end.false

pub take_some_fields-returns-in-Some : goal.take_some_fields-returns-in-Some
take_some_fields-returns-in-Some n c = rw c.requires (none_taken _ _ _ c.in-Some.ensures)

pub take_some_fields-returns-in-None : goal.take_some_fields-returns-in-None
take_some_fields-returns-in-None n c = some_fields_found _ _ _ _ c.in-None.ensures c.take_fields.ensures

pub take_value-returns : goal.take_value-returns
take_value-returns n c = c.take_scalar.ensures c.args.limit
