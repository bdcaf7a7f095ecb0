use Rattle.std.proofs.Common.{◌≡◌, ◌∙◌, ap, sym}
use Rattle.std.specs.Prelude.{slice_get, Some}
use Rattle.std.proofs.lemmas.Option.{slice_get-get_or}
use Rattle.ob_desk_floor.proofs.Submissions.{one_submission_more}
use Rattle.ob_desk_floor.proofs.floor.submit_all.Goals as goal

pub loop-script-preserved : goal.loop-script-preserved
loop-script-preserved g c =
    let a = c.args.machine.now in
    let script = c.script-item.result in
    let at : slice_get c.args.scripts.now c.loop-script.script-index ≡ Some script = slice_get-get_or c.args.scripts.now c.loop-script.script-index script c.loop-script-test.true ∙ ap Some (sym c.script-item.is) in
    one_submission_more (g.E.Engine.meaning a.engine) a c.loop-script.machine c.submit.new.self c.args.scripts.now c.loop-script.script-index script c.in_ok-call.call at c.in_ok-call.ensures c.loop-script.invariant c.in_ok-submit.ensures.submitted
