use Rattle.std.proofs.Common.{◌∙◌, ap, map, sym}
use Rattle.std.proofs.lemmas.Result.{IfOk-weaker}
use Rattle.ob_object_compile.specs.View.{object_in}
use Rattle.ob_object_calls.proofs.SequenceByCode.{asked_in}
use Rattle.ob_object_calls.specs.DetailLines.{all_changes_at}
use Rattle.ob_object_calls.specs.DetailedRun.{told}
use Rattle.ob_object_calls.proofs.details.changes_asked.Goals as goal

pub returns : goal.returns
returns c =
    let o = object_in c.args.object.now in
    IfOk-weaker c.changes_in_turn.result _ _
    (λ changes h. h ∙ sym (ap (λ b. told b (all_changes_at o.program o.engine.budget o.opening (asked_in c.args.calls.now))) c.if-not-is_asked.false))
    c.changes_in_turn.ensures
