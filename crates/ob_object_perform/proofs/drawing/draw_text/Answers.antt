use Rattle.std.proofs.Common.{◌∙◌, ap, map, string_bytes}
use Rattle.std.proofs.lemmas.Result.{err_from_is_err_and}
use Rattle.ob_checked.specs.CheckedModule.{program_in}
use Rattle.ob_interface.specs.View.{signature_of}
use Rattle.ob_object_perform.proofs.Pictures.{drawn, range_refuses, run_refuses}
use Rattle.ob_object_perform.specs.Texts.{texts_of}
use Rattle.ob_text_record.specs.Record.{record_of}
use Rattle.ob_picture_chart.specs.ChartView.{moment_of}
use Rattle.ob_object_perform.proofs.drawing.draw_text.Goals as goal

pub returns-in_err-checked-clause-refused : goal.returns-in_err-checked-clause-refused
returns-in_err-checked-clause-refused c =
    let p = err_from_is_err_and c.from_residual.result c.from_residual.ensures.1 in
    rw (p.1, p.2) (run_refuses (texts_of c.args.texts) c.args.calls c.in_err-checked.field-0.0 c.in_err-checked.ensures.refused)

pub returns-in_err-draw-clause-refused : goal.returns-in_err-draw-clause-refused
returns-in_err-draw-clause-refused c =
    let p = err_from_is_err_and c.from_residual-in_err-draw.result c.from_residual-in_err-draw.ensures.1 in
    rw (p.1, p.2)
    (range_refuses (texts_of c.args.texts) c.args.calls (program_in c.in_ok-checked.checked) (record_of c.in_ok-checked.record) c.in_ok-checked.makers.items
    c.in_ok-checked.ensures.run (map moment_of c.deref-2.result.now)
    (ap (map moment_of) c.deref-2.ensures.value ∙ rw (c.deref.ensures.value, c.events.ensures.value) at c.in_ok-moments.ensures) c.in_err-draw.field-0.0 c.in_err-draw.ensures.fault)

pub returns-clause-picture : goal.returns-clause-picture
returns-clause-picture c =
    drawn (texts_of c.args.texts) c.args.calls (program_in c.in_ok-checked.checked) (record_of c.in_ok-checked.record) c.in_ok-checked.makers.items
    c.in_ok-checked.ensures.run (map moment_of c.deref-2.result.now)
    (ap (map moment_of) c.deref-2.ensures.value ∙ rw (c.deref.ensures.value, c.events.ensures.value) at c.in_ok-moments.ensures) (map signature_of c.exports.result.now) c.deref-3.result.now
    (string_bytes c.in_ok-draw.field-0) c.exports.ensures c.deref-3.ensures.value c.in_ok-draw.ensures.shown c.in_ok-draw.ensures.picture
