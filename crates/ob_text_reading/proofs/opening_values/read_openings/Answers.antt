use Rattle.std.proofs.Common.{◌≡◌, ◌<◌, ◌∙◌, ap, sym, arith, get_or, length, map}
use Rattle.std.proofs.Math.ListN.{get_or-map}
use Rattle.std.proofs.lemmas.List.{length-map}
use Rattle.ob_checked.specs.View.{table_of, variable_of}
use Rattle.ob_store.specs.View.{variables_in}
use Rattle.ob_text_reading.proofs.Opened.{no_line_left, none_opened, opened_more, opened_within, variables_in-push, wrong_line}
use Rattle.ob_text_values_reading.specs.RecordTexts.{lines_behind}
use Rattle.ob_text_reading.proofs.opening_values.read_openings.Goals as goal

pub loop-variable-init : goal.loop-variable-init
loop-variable-init c = none_opened _ _ _ (ap variables_in c.requires.empty)

pub overflow_add-number : goal.overflow_add-number
overflow_add-number c = omega (arith, opened_within _ _ _ _ _ _ c.loop-variable.invariant, c.requires.few)

pub returns-in_default-clause-fault : goal.returns-in_default-clause-fault
returns-in_default-clause-fault c =
    let v = variable_of (table_of c.args.types.now) c.variable-item.result in
    let vs = map (variable_of (table_of c.args.types.now)) c.args.variables.now in
    let below : c.loop-variable.variable-index < length vs = rw length-map c.loop-variable-test.true in
    let at : v ≡ get_or vs c.loop-variable.variable-index v =
    ap (variable_of (table_of c.args.types.now)) c.variable-item.is ∙ sym (get_or-map (variable_of (table_of c.args.types.now)) c.args.variables.now c.loop-variable.variable-index c.variable-item.result) in
    no_line_left _ _ _ _ _ _ c.loop-variable.invariant v below at (ap lines_behind c.in_default.is)

pub returns-in_default-2-clause-fault : goal.returns-in_default-2-clause-fault
returns-in_default-2-clause-fault c =
    let v = variable_of (table_of c.args.types.now) c.variable-item.result in
    let vs = map (variable_of (table_of c.args.types.now)) c.args.variables.now in
    let below : c.loop-variable.variable-index < length vs = rw length-map c.loop-variable-test.true in
    let at : v ≡ get_or vs c.loop-variable.variable-index v =
    ap (variable_of (table_of c.args.types.now)) c.variable-item.is ∙ sym (get_or-map (variable_of (table_of c.args.types.now)) c.args.variables.now c.loop-variable.variable-index c.variable-item.result) in
    wrong_line _ _ _ _ _ _ c.loop-variable.invariant v below at _ _ (ap lines_behind c.in-Some.is ∙ c.split_line.ensures) (rw c.in_default-2.is at c.in_ok-value.ensures)

pub loop-variable-preserved : goal.loop-variable-preserved
loop-variable-preserved c =
    let v = variable_of (table_of c.args.types.now) c.variable-item.result in
    let vs = map (variable_of (table_of c.args.types.now)) c.args.variables.now in
    let below : c.loop-variable.variable-index < length vs = rw length-map c.loop-variable-test.true in
    let at : v ≡ get_or vs c.loop-variable.variable-index v =
    ap (variable_of (table_of c.args.types.now)) c.variable-item.is ∙ sym (get_or-map (variable_of (table_of c.args.types.now)) c.args.variables.now c.loop-variable.variable-index c.variable-item.result) in
    opened_more _ _ _ _ _ _ c.loop-variable.invariant v below at _ _ _ _ (ap lines_behind c.in-Some.is ∙ c.split_line.ensures) (rw c.in-Some-2.is at c.in_ok-value.ensures)
    (variables_in-push _ c.in-Some-2.value _ c.in_ok-push_value.ensures)
