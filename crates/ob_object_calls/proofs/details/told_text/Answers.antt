use Rattle.std.proofs.Common.{◌≡◌, ◌∙◌, List, [], ap, map, string_bytes}
use Rattle.std.proofs.lemmas.Result.{IfOk-weaker}
use Rattle.ob_object_compile.specs.View.{object_in}
use Rattle.ob_object_calls.proofs.SequenceByCode.{asked_in}
use Rattle.ob_object_calls.proofs.TellsParts.{with_turns, without_turns}
use Rattle.ob_object_calls.specs.DetailedRun.{changes_told}
use Rattle.ob_text_words.specs.declared.script_call.ScriptCall.{ScriptCall}
use Rattle.ob_object_calls.proofs.details.told_text.Goals as goal

pub returns-then-details : goal.returns-then-details
returns-then-details c =
    let d = c.args.details in
    let o = object_in c.args.object.now in
    let calls = asked_in c.args.calls.now in
    let processes = map (λ (x : ScriptCall). x.process) c.args.calls.now in
    let changes = map string_bytes c.deref.result.now in
    let is : changes ≡ changes_told d.state o calls = ap (map string_bytes) c.deref.ensures.value ∙ c.in_ok-changes.ensures in
    IfOk-weaker c.text_with_turns.result _ _ (λ text h. with_turns d o calls processes (string_bytes text) changes is c.if-details.true h) c.text_with_turns.ensures

pub returns : goal.returns
returns c =
    let d = c.args.details in
    let o = object_in c.args.object.now in
    let calls = asked_in c.args.calls.now in
    let processes = map (λ (x : ScriptCall). x.process) c.args.calls.now in
    let changes = map string_bytes c.deref-2.result.now in
    let is : changes ≡ changes_told d.state o calls = ap (map string_bytes) c.deref-2.ensures.value ∙ c.in_ok-changes.ensures in
    IfOk-weaker c.text_beside.result _ _ (λ text h. without_turns d o calls processes (string_bytes text) changes is c.if-details.false h) c.text_beside.ensures
