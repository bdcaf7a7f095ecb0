use Rattle.std.proofs.Common.{◌∙◌, ap}
use Rattle.ob_code_correct.specs.CodeMeaning.{EngineParts}
use Rattle.ob_object_compile.specs.View.{asked_of, object_in}
use Rattle.ob_object_live.proofs.Named.{begins_at}
use Rattle.ob_object_live.proofs.live_requests.live_object.Goals as goal

pub returns-clause-begun : goal.returns-clause-begun
returns-clause-begun c =
    let p = c.into_parts-processes in
    begins_at (asked_of c.args.asked) (object_in c.in_ok-object.object) c.in_ok-begin.field-0 _ _ _ _ _ c.in_ok-object.ensures.object
    p.ensures.program p.ensures.processes (c.budget.ensures.turns ∙ ap (λ (e : EngineParts). e.budget) p.ensures.engine)
    p.ensures.opening p.ensures.carried c.in_ok-begin.ensures
