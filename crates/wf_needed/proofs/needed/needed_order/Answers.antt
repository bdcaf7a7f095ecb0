-- From the order to its calls, and back; or all of it, where no call is open.
use Rattle.std.proofs.Common.{◌∙◌, List, ap, subst, sym}
use Rattle.std.proofs.lemmas.Option.{MatchOption-at_none, MatchOption-at_some}
use Rattle.std.proofs.lemmas.Result.{IfOk-weaker}
use Rattle.ob_interface.specs.Call.{ObjectCall, Reply}
use Rattle.wf_history.specs.History.{Event, IsHistory}
use Rattle.wf_history.specs.Legal.{HasBegun, IsLegal}
use Rattle.wf_history.specs.declared.event.CallId.{CallId}
use Rattle.wf_needed.proofs.Legality.{begun_of, ended_needed, kept_left, kept_legal, kept_needed, listed_ids, order_replays}
use Rattle.wf_needed.proofs.needed.needed_order.Goals as goal
use Rattle.wf_needed.specs.Listed.{AreListed, NoneIsOpen, ids_of}
use Rattle.wf_needed.specs.Needed.{NoneIsNeedless, nothing}

pub listed_all-requires-clause-history : goal.listed_all-requires-clause-history
listed_all-requires-clause-history g c = subst (λ (es : List (Event ObjectCall Reply)). IsHistory es) (sym c.events.ensures.value) c.events.ensures.in_turn

pub listed_all-requires-clause-begun : goal.listed_all-requires-clause-begun
listed_all-requires-clause-begun g c = λ k id at.
    let b = begun_of c.args.history.now c.events.ensures.in_turn (g.O.Object.effect c.args.object.now) c.requires.1.made k id at in
    (b.0, subst (λ (es : List (Event ObjectCall Reply)). HasBegun es id b.0) (sym c.events.ensures.value) b.1)

pub thinned-requires : goal.thinned-requires
thinned-requires g c =
    let ids = listed_ids c.args.order.now c.in_ok-all.field-0 c.in-Some.all c.in-Some.is c.in_ok-all.ensures.ids in
    let are = MatchOption-at_some _ _ c.in-Some.all c.in-Some.is c.in_ok-all.ensures.listed in (
      c.requires.0,
      order_replays c.args.history.now c.events.ensures.in_turn (g.O.Object.effect c.args.object.now) (g.O.Object.opening c.args.object.now) c.args.order.now c.in-Some.all.items ids
          (subst (λ (es : List (Event ObjectCall Reply)). AreListed es c.in-Some.all.items) c.events.ensures.value are) c.requires.0 c.requires.1,
    )

pub returns-clause-legal : goal.returns-clause-legal
returns-clause-legal g c =
    let ids = listed_ids c.args.order.now c.in_ok-all.field-0 c.in-Some.all c.in-Some.is c.in_ok-all.ensures.ids in
    let all = MatchOption-at_some _ _ c.in-Some.all c.in-Some.is c.in_ok-all.ensures.listed in
    let are = subst (λ (es : List (Event ObjectCall Reply)). AreListed es c.in-Some.all.items) c.events.ensures.value all in
    let replays = c.in_ok-kept.ensures.replays in
    IfOk-weaker c.names_of.result _ _
    (λ needed names. (
      replays.0,
      kept_legal c.args.history.now c.events.ensures.in_turn (g.O.Object.effect c.args.object.now) (g.O.Object.opening c.args.object.now) c.args.order.now c.in-Some.all.items ids are
          c.in_ok-kept.kept.items c.in_ok-kept.ensures.left_out needed.items (names ∙ ap ids_of c.as_slice.ensures.value) c.requires.0 replays.0 c.requires.1 replays.1,
    ))
    c.names_of.ensures

pub returns-clause-needed : goal.returns-clause-needed
returns-clause-needed g c =
    let ids = listed_ids c.args.order.now c.in_ok-all.field-0 c.in-Some.all c.in-Some.is c.in_ok-all.ensures.ids in
    let all = MatchOption-at_some _ _ c.in-Some.all c.in-Some.is c.in_ok-all.ensures.listed in
    let are = subst (λ (es : List (Event ObjectCall Reply)). AreListed es c.in-Some.all.items) c.events.ensures.value all in
    IfOk-weaker c.names_of.result _ _
    (λ needed names. kept_needed c.args.history.now c.events.ensures.in_turn (g.O.Object.effect c.args.object.now) (g.O.Object.opening c.args.object.now) c.args.order.now c.in-Some.all.items ids are
    c.in_ok-kept.kept.items c.in_ok-kept.ensures.left_out needed.items (names ∙ ap ids_of c.as_slice.ensures.value) c.in_ok-kept.ensures.needed)
    c.names_of.ensures

pub returns-clause-left_out : goal.returns-clause-left_out
returns-clause-left_out g c =
    let ids = listed_ids c.args.order.now c.in_ok-all.field-0 c.in-Some.all c.in-Some.is c.in_ok-all.ensures.ids in
    let all = MatchOption-at_some _ _ c.in-Some.all c.in-Some.is c.in_ok-all.ensures.listed in
    let are = subst (λ (es : List (Event ObjectCall Reply)). AreListed es c.in-Some.all.items) c.events.ensures.value all in
    IfOk-weaker c.names_of.result _ _
    (λ needed names. kept_left c.args.history.now c.events.ensures.in_turn (g.O.Object.effect c.args.object.now) (g.O.Object.opening c.args.object.now) c.args.order.now c.in-Some.all.items ids are
    c.in_ok-kept.kept.items c.in_ok-kept.ensures.left_out needed.items (names ∙ ap ids_of c.as_slice.ensures.value))
    c.names_of.ensures

pub returns-in_default-clause-legal : goal.returns-in_default-clause-legal
returns-in_default-clause-legal g c = (
  c.requires.0,
  subst (λ (ids : List CallId). IsLegal (g.O.Object.effect c.args.object.now) (g.O.Object.opening c.args.object.now) c.args.history.now ids c.requires.0) (sym (c.in_ok-whole.ensures.items_if_clones_equal (λ x y e. e))) c.requires.1,
)

pub returns-in_default-clause-needed : goal.returns-in_default-clause-needed
returns-in_default-clause-needed g c =
    let nothing_open = MatchOption-at_none _ _ c.in_default.is c.in_ok-all.ensures.listed in
    let ended = subst (λ (es : List (Event ObjectCall Reply)). NoneIsOpen es c.args.order.now) c.events.ensures.value nothing_open in
    subst (λ (ids : List CallId). NoneIsNeedless (g.O.Object.effect c.args.object.now) (g.O.Object.opening c.args.object.now) c.args.history.now ids) (sym (c.in_ok-whole.ensures.items_if_clones_equal (λ x y e. e)))
    (ended_needed (g.O.Object.effect c.args.object.now) (g.O.Object.opening c.args.object.now) c.args.history.now c.args.order.now ended)

pub returns-in_default-clause-left_out : goal.returns-in_default-clause-left_out
returns-in_default-clause-left_out g c = nothing (c.in_ok-whole.ensures.items_if_clones_equal (λ x y e. e))
