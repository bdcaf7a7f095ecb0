-- A call that stands nowhere before gets its place.
use Rattle.std.proofs.Common.{◌∙◌, ap, sym, List}
use Rattle.std.proofs.lemmas.List.{take_all}
use Rattle.ob_picture_chart.proofs.Orders.{noted_new, noted_old}
use Rattle.ob_picture_chart.specs.Moments.{place_in}
use Rattle.ob_picture_chart.specs.Places.{noted_in}
use Rattle.ob_picture_chart.specs.declared.order_places.Noted.{Noted}
use Rattle.wf_history.specs.declared.event.CallId.{CallId}
use Rattle.ob_picture_chart.proofs.order.noted.Goals as goal
use Rattle.ob_picture_chart.proofs.order.noted.Goals.{then-get-eq0+in_ok-note, else-get-eq0}

pub loop-index-preserved : goal.loop-index-preserved
loop-index-preserved c =
    let ids = c.args.ids.now in
    let places = c.loop-index.places in
    elim c.if-get-eq0.branch [
      | then-get-eq0+in_ok-note w ↦ λ (q : CallId).
          ap (λ (n : Noted). noted_in n q) w.places-is
          ∙ noted_new ids c.loop-index.index _ c.loop-index-test.true (noted_in places) (noted_in w.note.new.self) c.loop-index.invariant (sym c.get.ensures ∙ w.if-get-eq0.true) w.in_ok-note.ensures q
      | else-get-eq0 w ↦ λ (q : CallId).
          ap (λ (n : Noted). noted_in n q) w.places-is
          ∙ noted_old ids c.loop-index.index _ c.loop-index-test.true (noted_in places) c.loop-index.invariant (λ e. w.if-get-eq0.false (c.get.ensures ∙ e)) q
    ]

pub returns : goal.returns
returns c =
    let ids = c.args.ids.now in
    λ (id : CallId). c.loop-index.invariant id ∙ ap (λ (xs : List CallId). place_in xs id) (take_all c.loop-index.index ids c.loop-index-test.false)
