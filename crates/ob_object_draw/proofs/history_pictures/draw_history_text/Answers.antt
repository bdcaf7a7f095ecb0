use Rattle.std.proofs.Common.{string_bytes}
use Rattle.std.proofs.lemmas.Result.{err_from_is_err_and, IfErr-weaker, IfOk-weaker}
use Rattle.ob_object_draw.proofs.Told.{fault_by, no_module, none_by, picture_by}
use Rattle.ob_object_draw.proofs.history_pictures.draw_history_text.Goals as goal

pub returns-in_err-checked-clause-none : goal.returns-in_err-checked-clause-none
returns-in_err-checked-clause-none c =
    let p = err_from_is_err_and c.from_residual.result c.from_residual.ensures.1 in
    rw (p.1, p.2)
    (λ out output drawn. no_module c.args.module.now c.in_err-checked.field-0.0 c.in_err-checked.ensures.none c.in_err-checked.ensures.memory out drawn.program drawn.is_module)

pub returns-clause-picture : goal.returns-clause-picture
returns-clause-picture c =
    IfOk-weaker c.draw_checked.result _ _
    (λ text. picture_by c.args.module.now c.args.history.now c.args.search.now.budget c.args.search.now.most c.args.calls _ c.in_ok-checked.ensures.program c.in_ok-checked.ensures.alone (string_bytes text))
    c.draw_checked.ensures.picture

pub returns-clause-fault : goal.returns-clause-fault
returns-clause-fault c =
    IfErr-weaker c.draw_checked.result _ _
    (fault_by c.args.module.now c.args.history.now c.args.search.now.budget c.args.search.now.most c.args.calls _ c.in_ok-checked.ensures.program c.in_ok-checked.ensures.alone)
    c.draw_checked.ensures.fault

pub returns-clause-none : goal.returns-clause-none
returns-clause-none c =
    IfErr-weaker c.draw_checked.result _ _
    (none_by c.args.module.now c.args.history.now c.args.search.now.budget c.args.search.now.most c.args.calls _ c.in_ok-checked.ensures.program c.in_ok-checked.ensures.alone)
    c.draw_checked.ensures.fault
