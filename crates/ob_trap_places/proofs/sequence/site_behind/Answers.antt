use Rattle.std.proofs.Common.{ap, sym, ◌∙◌}
use Rattle.std.proofs.lemmas.Result.{IfOk-weaker}
use Rattle.ob_checked.specs.CheckedModule.{program_in}
use Rattle.ob_mean.specs.View.{call_of, reply_of}
use Rattle.ob_meaning.specs.ByPositionObject.{Effect}
use Rattle.ob_trap_places.specs.TrapOfCall as Sites
use Rattle.ob_trap_places.proofs.Sited.{answers_unsited, trap_keeps}
use Rattle.ob_trap_places.proofs.sequence.site_behind.Goals as goal

pub returns-in-Answers : goal.returns-in-Answers
returns-in-Answers c before gives =
    sym (answers_unsited (program_in c.args.checked.now) (call_of c.args.call.now) c.args.budget before _ (ap (λ (e : Effect). e.reply) gives ∙ ap reply_of c.in-Answers.is))

pub returns-in-Trapped : goal.returns-in-Trapped
returns-in-Trapped c =
    let program = program_in c.args.checked.now in
    let call = call_of c.args.call.now in
    IfOk-weaker c.site_of_call.result _ _
    (λ found h before gives.
    h ∙ ap (Sites.site_of_call program call c.args.budget)
    (sym (ap (λ (e : Effect). e.state) gives) ∙ trap_keeps program call c.args.budget before _ (ap (λ (e : Effect). e.reply) gives ∙ ap reply_of c.in-Trapped.is)))
    c.site_of_call.ensures
