use Rattle.std.proofs.Common.{◌≡◌, ◌∙◌, ◌<◌, ◌++◌, ap, get_or, length, rules, string_bytes}
use Rattle.ob_checked.specs.Types.{fields_in, type_in, types_of}
use Rattle.ob_checked.specs.View.{table_of}
use Rattle.ob_meaning.specs.ByPositionValue as Values
use Rattle.ob_store.proofs.Parts.{value_in-parts}
use Rattle.ob_store.specs.View.{value_in, values_in}
use Rattle.ob_text_words.proofs.Appended.{left, more, no_more, some_more}
use Rattle.ob_text_record.proofs.Texts.{element_step, field_step, text_of_array, text_of_record}
use Rattle.ob_text_record.specs.Values.{value_text}
use Rattle.ob_text_record.proofs.printed_values.+writing.Goals as goal

pub push_array-loop-position-preserved : goal.push_array-loop-position-preserved
push_array-loop-position-preserved n c =
    let v = c.index-parts-position.result in
    let at : v ≡ get_or c.args.parts.now c.loop-position.position v = search rules in
    record {
      so_far =
          element_step (type_in (table_of c.args.types.now) c.args.element) c.args.parts.now c.loop-position.position v _ _ _ _ c.loop-position-test.true at
          c.in_ok-push_separator.ensures.ok c.in_ok-push_value.ensures.ok c.loop-position.invariant.so_far;
      kept = more _ (more _ c.loop-position.invariant.kept c.in_ok-push_separator.ensures.ok) c.in_ok-push_value.ensures.ok;
    }

pub push_array-returns-in_err-push_separator-clause-left : goal.push_array-returns-in_err-push_separator-clause-left
push_array-returns-in_err-push_separator-clause-left n c =
    left c.from_residual-in_err-push_separator.result (some_more c.loop-position.invariant.kept c.in_err-push_separator.ensures.left)

pub push_array-returns-in_err-push_value-clause-left : goal.push_array-returns-in_err-push_value-clause-left
push_array-returns-in_err-push_value-clause-left n c =
    left c.from_residual-in_err-push_value.result
    (some_more (more _ c.loop-position.invariant.kept c.in_ok-push_separator.ensures.ok) c.in_err-push_value.ensures.left)

pub push_record-loop-position-preserved : goal.push_record-loop-position-preserved
push_record-loop-position-preserved n c =
    let v = c.index-parts-position.result in
    let i = c.loop-position.position in
    let f = c.in-Some.field-0.now in
    let here : v ≡ get_or c.args.parts.now i v = search rules in
    let below : i < length c.as_slice.result.now = search rules in
    let at : f ≡ get_or c.as_slice.result.now i f = search rules in
    let name : c.deref.result.now ≡ string_bytes f.0 = c.deref.ensures in
    let pushed : string_bytes c.push_value.new.text ≡ string_bytes c.push_str-in-loop-position-2.new.self ++ value_text (type_in (table_of c.args.types.now) f.1) (value_in v) = search rules in
    record {
      so_far =
          field_step (types_of (table_of c.args.types.now)) (fields_in c.args.fields.now) c.args.parts.now i f v _ _ _ _ _ _
          (rw c.as_slice.ensures at below) (rw c.as_slice.ensures at at) c.loop-position-test.true here
          c.in_ok-push_separator.ensures.ok (rw name at c.in_ok-push_str-2.ensures.bytes) c.in_ok-push_str-3.ensures.bytes
          pushed c.loop-position.invariant.so_far;
      kept =
          more _
          (more _ (more _ (more _ c.loop-position.invariant.kept c.in_ok-push_separator.ensures.ok) c.in_ok-push_str-2.ensures.bytes) c.in_ok-push_str-3.ensures.bytes)
          c.in_ok-push_value.ensures.ok;
    }

pub push_record-returns-in_err-push_separator-clause-left : goal.push_record-returns-in_err-push_separator-clause-left
push_record-returns-in_err-push_separator-clause-left n c =
    left c.from_residual-in_err-push_separator.result (some_more c.loop-position.invariant.kept c.in_err-push_separator.ensures.left)

pub push_record-returns-in_err-push_str-2-clause-left : goal.push_record-returns-in_err-push_str-2-clause-left
push_record-returns-in_err-push_str-2-clause-left n c =
    left c.from_residual-in_err-push_str-2.result
    (no_more (more _ c.loop-position.invariant.kept c.in_ok-push_separator.ensures.ok) c.in_err-push_str-2.ensures.bytes)

pub push_record-returns-in_err-push_str-3-clause-left : goal.push_record-returns-in_err-push_str-3-clause-left
push_record-returns-in_err-push_str-3-clause-left n c =
    left c.from_residual-in_err-push_str-3.result
    (no_more (more _ (more _ c.loop-position.invariant.kept c.in_ok-push_separator.ensures.ok) c.in_ok-push_str-2.ensures.bytes) c.in_err-push_str-3.ensures.bytes)

pub push_record-returns-in_err-push_value-clause-left : goal.push_record-returns-in_err-push_value-clause-left
push_record-returns-in_err-push_value-clause-left n c =
    left c.from_residual-in_err-push_value.result
    (some_more
    (more _ (more _ (more _ c.loop-position.invariant.kept c.in_ok-push_separator.ensures.ok) c.in_ok-push_str-2.ensures.bytes) c.in_ok-push_str-3.ensures.bytes)
    c.in_err-push_value.ensures.left)

pub push_value-returns-in-Some-clause-ok : goal.push_value-returns-in-Some-clause-ok
push_value-returns-in-Some-clause-ok n c =
    let parts : value_in c.args.value.now ≡ Values.Parts (values_in c.in-Parts.parts.items) = ap value_in c.in-Parts.is ∙ value_in-parts c.in-Parts.parts in
    let slice : c.as_slice.result.now ≡ c.in-Parts.parts.items = c.as_slice.ensures.value in
    rw (parts, text_of_array _ _ _ (values_in c.in-Parts.parts.items) c.in-Some.ensures, ← slice) c.push_array.ensures.ok

pub push_value-returns-in-Some-fields_of-clause-ok : goal.push_value-returns-in-Some-fields_of-clause-ok
push_value-returns-in-Some-fields_of-clause-ok n c =
    let parts : value_in c.args.value.now ≡ Values.Parts (values_in c.in-Parts.parts.items) = ap value_in c.in-Parts.is ∙ value_in-parts c.in-Parts.parts in
    let slice : c.as_slice-in-Some-fields_of.result.now ≡ c.in-Parts.parts.items = c.as_slice-in-Some-fields_of.ensures.value in
    rw (parts, text_of_record _ _ (values_in c.in-Parts.parts.items) c.in-Some-fields_of.ensures, ← slice) c.push_record.ensures.ok
