-- How a search begins, and what it answers.
use Rattle.std.proofs.Common.{◌≡◌, sym, ap, ◌∙◌, subst, ℕ, ◌+◌, ◌<◌, ◌≤◌, List, [], ◌∷◌, ◌++◌, length, true, Option, option_map, Some, None, inl, inr}
use Rattle.std.proofs.lemmas.List.{length-replicate}
use Rattle.std.specs.List.{Contains}
use Rattle.ob_interface.specs.Call.{ObjectCall, Reply}
use Rattle.wf_history.specs.declared.event.CallId.{CallId}
use Rattle.wf_history.specs.History.{Event}
use Rattle.wf_history.specs.Legal.{IsLegal}
use Rattle.wf_history.proofs.Positions.{place_of}
use Rattle.wf_order.specs.declared.kept_rows.Rows.{Rows}
use Rattle.wf_order.specs.declared.search.Frame.{Frame}
use Rattle.wf_order.specs.Rows.{AreRows, begun_rows, total}
use Rattle.wf_order.specs.Search.{ids_of, IsArrival, IsLed, IsSearch, try_cost, work}
use Rattle.wf_order.specs.Steps.{Configuration, start_at}
use Rattle.wf_order.specs.Verdict.{AreApart, HasMore}
use Rattle.wf_order.proofs.Bounds.{start_work}
use Rattle.wf_order.proofs.Searching.{begun_search, empty_legal, led_on, leads_none}

module _ {M : Type 0} (Effect : ObjectCall → M → M → Reply → Type 0) (history : List (Event ObjectCall Reply)) (processes : ℕ) (rows : Rows) (are : AreRows history processes rows) (opening : M)
    (found more : List (Configuration M)) (stack new : List Frame) (none : found ≡ []) (empty : stack ≡ []) where
  abbrev start : Configuration M
  start = start_at processes opening

  pub start_legal : (path : List CallId) → IsArrival Effect history start found more stack new (Some path) → IsLegal Effect opening history path opening
  start_legal path a =
      let is : path ≡ [] = a.0 ∙ ap (λ (l : List Frame). ids_of l) empty in
      subst (λ (l : List CallId). IsLegal Effect opening history l opening) (sym is) (empty_legal Effect history processes rows are opening a.1)

  pub start_search : total (begun_rows rows) ≤ length history → IsArrival Effect history start found more stack new None →
      IsSearch Effect history processes (IsLed Effect history true start) start more new × (length more + work processes rows more new ≤ try_cost processes (length history + 1))
  start_search few a =
      elim a.1 [
        | inl old ↦
            let p = place_of [] start (subst (λ (l : List (Configuration M)). Contains l start) none old.0) in
            let e = p.1 in absurd (cc)
        | inr first ↦
            let more_is : more ≡ start ∷ [] = first.0 ∙ ap (λ (l : List (Configuration M)). l ++ start ∷ []) none in
            let new_is : new ≡ first.1 ∷ [] = first.2 ∙ ap (λ (l : List Frame). l ++ first.1 ∷ []) empty in
            let place : first.1.place ≡ 0 = first.3 ∙ ap length none in
            let work_is = start_work history processes rows are few opening first.1 place first.4 in
            subst (λ (l : List (Configuration M)). IsSearch Effect history processes (IsLed Effect history true start) start l new × (length l + work processes rows l new ≤ try_cost processes (length history + 1))) (sym more_is)
            (subst (λ (l : List Frame). IsSearch Effect history processes (IsLed Effect history true start) start (start ∷ []) l × (length (start ∷ []) + work processes rows (start ∷ []) l ≤ try_cost processes (length history + 1))) (sym new_is)
            (begun_search Effect history processes (IsLed Effect history true start) (led_on Effect history true start) start (leads_none Effect history start) (length-replicate processes 0) a.0 first.1 place first.4 first.5, work_is))
      ]

-- an arrival, at what it was and with what it answered
pub arrival_at : {M V : Type 0} (Effect : ObjectCall → M → M → Reply → Type 0) (history : List (Event ObjectCall Reply)) (found more : List (Configuration M)) (stack new : List Frame) (items : V → List CallId)
    (c d : Configuration M) (to o : Option V) → c ≡ d → to ≡ o → IsArrival Effect history c found more stack new (option_map items to) → IsArrival Effect history d found more stack new (option_map items o)
arrival_at {M} {V} Effect history found more stack new items c d to o e f a =
    subst (λ (x : Configuration M). IsArrival Effect history x found more stack new (option_map items o)) e
    (subst (λ (x : Option V). IsArrival Effect history c found more stack new (option_map items x)) f a)

-- the rows are of as many processes as the start
pub start_rows : {M : Type 0} (history : List (Event ObjectCall Reply)) (processes : ℕ) (rows : Rows) (opening : M) (c : Configuration M) → c ≡ start_at processes opening → AreRows history processes rows → AreRows history (length c.counts) rows
start_rows {M} history processes rows opening c e are =
    subst (λ (n : ℕ). AreRows history n rows) (sym (ap (λ (x : Configuration M). length x.counts) e ∙ length-replicate processes 0)) are

-- what was found is more than was to be looked at
pub many : {M : Type 0} (Effect : ObjectCall → M → M → Reply → Type 0) (history : List (Event ObjectCall Reply)) (processes most : ℕ) (opening : M) (found : List (Configuration M)) (stack : List Frame) →
    IsSearch Effect history processes (IsLed Effect history true (start_at processes opening)) (start_at processes opening) found stack → AreApart found → most < length found → HasMore Effect opening history processes most
many Effect history processes most opening found stack h apart more = record { reached = found; apart = apart; path = h.reached; more = more }
