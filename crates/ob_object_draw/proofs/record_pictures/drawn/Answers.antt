-- The chart is that of the record's moments.
use Rattle.std.proofs.Common.{◌≡◌, ◌∙◌, List, ap, length, map, option_map, subst}
use Rattle.std.proofs.lemmas.Result.{err_from_is_err_and}
use Rattle.ob_checked.specs.CheckedModule.{program_in}
use Rattle.ob_checked.specs.Exports.{signatures}
use Rattle.ob_interface.specs.View.{signature_of}
use Rattle.ob_object_draw.proofs.Drawn.{drawn}
use Rattle.ob_object_draw.specs.RecordPictures.{moments_of}
use Rattle.ob_picture_chart.specs.Charts.{begun}
use Rattle.ob_picture_chart.specs.Faults.{IsRangeFault}
use Rattle.ob_picture_chart.specs.Moments.{Moment}
use Rattle.ob_picture_chart.specs.ChartView.{chart_in, mark_of, moment_of}
use Rattle.ob_text_reading.specs.RecordContents.{told_of}
use Rattle.ob_object_draw.proofs.record_pictures.drawn.Goals as goal

pub returns-clause-picture : goal.returns-clause-picture
returns-clause-picture c =
    let tells = told_of c.args.read.now in
    let same : map moment_of c.deref-2.result.now ≡ moments_of tells =
    ap (map moment_of) c.deref-2.ensures.value ∙ rw (c.deref.ensures.value, c.events.ensures.value) at c.in_ok-moments.ensures in
    drawn (signatures (program_in c.args.checked.now)) (map signature_of c.exports.result.now) tells (option_map mark_of c.args.mark) c.args.calls (map moment_of c.deref-2.result.now)
    (chart_in c.in_ok-chart.chart) _ c.exports.ensures same (rw c.deref-3.ensures.value at c.in_ok-chart.ensures.chart) c.in_ok-chart.ensures.shown c.in_ok-picture.ensures

pub returns-in_err-chart-clause-fault : goal.returns-in_err-chart-clause-fault
returns-in_err-chart-clause-fault c =
    let same : map moment_of c.deref-2.result.now ≡ moments_of (told_of c.args.read.now) =
    ap (map moment_of) c.deref-2.ensures.value ∙ rw (c.deref.ensures.value, c.events.ensures.value) at c.in_ok-moments.ensures in
    let p = err_from_is_err_and c.from_residual-in_err-chart.result c.from_residual-in_err-chart.ensures.1 in
    rw (p.1, p.2)
    (subst (λ (seen : List Moment). IsRangeFault (length (begun seen)) c.args.calls c.in_err-chart.field-0.0) same c.in_err-chart.ensures.fault)
