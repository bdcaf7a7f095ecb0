use Rattle.std.proofs.Common.{map}
use Rattle.std.proofs.lemmas.Result.{err_from_is_err_and}
use Rattle.ob_checked.specs.CheckedModule.{program_in}
use Rattle.ob_interface.specs.View.{signature_of}
use Rattle.ob_object_draw.proofs.Pictured.{pictured, range_fault}
use Rattle.ob_object_draw.proofs.Seen.{fault_read}
use Rattle.ob_object_draw.proofs.history_pictures.draw_checked.Goals as goal

pub returns-in_err-heard-clause-fault : goal.returns-in_err-heard-clause-fault
returns-in_err-heard-clause-fault c =
    let p = err_from_is_err_and c.from_residual.result c.from_residual.ensures.1 in
    rw (p.1, p.2)
    (fault_read (program_in c.args.checked.now) c.args.text.now c.args.search.now.budget c.args.search.now.most c.args.calls c.in_err-heard.field-0.0
    (c.in_err-heard.ensures.fault c.args.search.now.most) c.in_err-heard.ensures.unsearched)

pub returns-in_err-shown-clause-fault : goal.returns-in_err-shown-clause-fault
returns-in_err-shown-clause-fault c =
    let p = err_from_is_err_and c.from_residual-in_err-shown.result c.from_residual-in_err-shown.ensures.1 in
    rw (p.1, p.2) (c.in_err-shown.ensures.fault c.args.calls)

pub returns-in_err-draw_shown-clause-fault : goal.returns-in_err-draw_shown-clause-fault
returns-in_err-draw_shown-clause-fault c =
    let p = err_from_is_err_and c.from_residual-in_err-draw_shown.result c.from_residual-in_err-draw_shown.ensures.1 in
    rw (p.1, p.2)
    (range_fault (program_in c.args.checked.now) c.args.text.now c.args.search.now.budget c.args.calls _ c.in_ok-shown.ensures.shown c.args.search.now.most
    c.in_err-draw_shown.field-0.0 c.in_err-draw_shown.ensures.fault)

pub returns-clause-picture : goal.returns-clause-picture
returns-clause-picture c =
    pictured (program_in c.args.checked.now) c.args.text.now c.args.search.now.budget c.args.calls _ c.in_ok-shown.ensures.shown
    (map signature_of c.exports.result.now) _ c.exports.ensures c.in_ok-draw_shown.ensures.picture
