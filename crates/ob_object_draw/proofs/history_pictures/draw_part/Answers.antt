-- The chart is that of the moments of the events that are shown.
use Rattle.std.proofs.Common.{◌≡◌, ◌∙◌, List, ap, length, map, option_map, subst, sym, take}
use Rattle.std.proofs.lemmas.List.{take-map}
use Rattle.std.proofs.lemmas.Result.{err_from_is_err_and}
use Rattle.ob_interface.specs.Call.{ObjectCall, Reply}
use Rattle.ob_interface.specs.View.{signature_of}
use Rattle.ob_object_draw.proofs.Charted.{charted}
use Rattle.ob_picture_chart.specs.Charts.{begun}
use Rattle.ob_picture_chart.specs.Faults.{IsRangeFault}
use Rattle.ob_picture_chart.specs.Moments.{Moment, placed_from}
use Rattle.ob_picture_chart.specs.ChartView.{chart_in, mark_of, moment_of}
use Rattle.wf_history.specs.History.{Event}
use Rattle.wf_history.specs.View.{event_of}
use Rattle.wf_history.specs.declared.event.CallId.{CallId}
use Rattle.ob_object_draw.proofs.history_pictures.draw_part.Goals as goal

abbrev Events : Type 0
Events = List (Event ObjectCall Reply)

pub returns-in_err-chart-clause-fault : goal.returns-in_err-chart-clause-fault
returns-in_err-chart-clause-fault c =
    let s = c.args.shown.now in
    let count = s.part.count in
    let order = s.part.order.items in
    let events = c.events.result.now in
    let same : map moment_of c.deref-2.result.now ≡ placed_from order 0 (take count s.events) =
    ap (map moment_of) c.deref-2.ensures.value
    ∙ c.in_ok-moments.ensures
    ∙ ap (λ (ids : List CallId). placed_from ids 0 (map event_of (take count events))) c.deref.ensures.value
    ∙ ap (λ (es : Events). placed_from order 0 es) (sym (take-map event_of count events) ∙ ap (λ (es : Events). take count es) c.events.ensures.value) in
    let p = err_from_is_err_and c.from_residual-in_err-chart.result c.from_residual-in_err-chart.ensures.1 in
    rw (p.1, p.2)
    (subst (λ (seen : List Moment). IsRangeFault (length (begun seen)) c.args.calls c.in_err-chart.field-0.0) same c.in_err-chart.ensures.fault)

pub returns-clause-picture : goal.returns-clause-picture
returns-clause-picture c =
    let s = c.args.shown.now in
    let count = s.part.count in
    let order = s.part.order.items in
    let events = c.events.result.now in
    let same : map moment_of c.deref-2.result.now ≡ placed_from order 0 (take count s.events) =
    ap (map moment_of) c.deref-2.ensures.value
    ∙ c.in_ok-moments.ensures
    ∙ ap (λ (ids : List CallId). placed_from ids 0 (map event_of (take count events))) c.deref.ensures.value
    ∙ ap (λ (es : Events). placed_from order 0 es) (sym (take-map event_of count events) ∙ ap (λ (es : Events). take count es) c.events.ensures.value) in
    charted (map signature_of c.args.exports.now) s.processes (take count s.events) order c.args.calls (option_map mark_of c.args.mark) (map moment_of c.deref-2.result.now)
    (chart_in c.in_ok-chart.chart) _ same (rw c.deref-3.ensures.value at c.in_ok-chart.ensures.chart) c.in_ok-chart.ensures.shown c.in_ok-picture.ensures
