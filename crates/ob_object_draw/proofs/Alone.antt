-- What is shown of a history are always the same of its events.
use Rattle.std.proofs.Common.{◌≡◌, ◌∙◌, ℕ, ◌+◌, ◌<◌, ◌≤◌, List, [], ◌∷◌, Option, Some, None, ap, arith, inl, inr, length, max, refl, subst, sym, take}
use Rattle.std.proofs.lemmas.Bool.{cases_lt}
use Rattle.std.proofs.lemmas.List.{take-take}
use Rattle.std.proofs.lemmas.List.Elements.{Contains-append_cases, Contains-push_cases}
use Rattle.std.specs.List.{Contains}
use Rattle.ob_interface.specs.Call.{ObjectCall, Reply}
use Rattle.ob_interface.specs.Export.{Signature}
use Rattle.ob_object_run.specs.LegalOrder.{CallEnds}
use Rattle.ob_object_search.specs.Searched.{budget_of}
use Rattle.ob_object_draw.specs.HistoryPictures.{begun_with}
use Rattle.ob_object_draw.specs.Parts.{IsShown, ShowsPart}
use Rattle.ob_object_calls.proofs.Beginnings.{one_state}
use Rattle.ob_object_calls.specs.Beginnings.{BeginsPlaced}
use Rattle.ob_meaning.specs.ByPositionStore.{Activation}
use Rattle.ob_text_reading.proofs.Whole.{one_told}
use Rattle.ob_text_reading.specs.HistoryLines as Lines
use Rattle.ob_text_reading.specs.HistoryLines.{AreEventLines, HistoryTold, IsHistoryText}
use Rattle.ob_picture_chart.specs.Charts.{begun}
use Rattle.ob_picture_chart.specs.Moments.{place_in, placed_from}
use Rattle.ob_text_reading.specs.RecordLines.{Line}
use Rattle.ob_typing.specs.Program.{Program}
use Rattle.wf_lookup.specs.Beginnings.{begun_calls, needed, process_count}
use Rattle.wf_history.specs.History.{Event, Begin, Applied, End, IsHistory}
use Rattle.wf_history.specs.declared.event.CallId.{CallId}
use Rattle.wf_order.proofs.Beginnings.{legal_taken, taken_few}
use Rattle.wf_lookup.proofs.Turns.{take_whole}
use Rattle.wf_lookup.specs.Beginnings.{AreOfProcesses, IsOfProcesses}
use Rattle.wf_order.specs.Verdict.{HasLegal}

abbrev Events : Type 0
Events = List (Event ObjectCall Reply)

-- by whatever order, the same calls begin with the events

begun_placed : (order : List CallId) (made : ℕ) (events : Events) → begun (placed_from order made events) ≡ begun_calls events
begun_placed order made [] = refl
begun_placed order made (Begin id call ∷ events) = ap (λ (ids : List CallId). id ∷ ids) (begun_placed order made events)
begun_placed order made (Applied ids ∷ events) = begun_placed order made events
begun_placed order made (End id reply ∷ events) = begun_placed order (max (place_in order id) made) events

pub same_begun : (events : Events) (order other : List CallId) → begun_with events order ≡ begun_with events other
same_begun events order other = ap (λ (ids : List CallId). length ids) (begun_placed order 0 events ∙ sym (begun_placed other 0 events))

-- the events that a text tells are a history

lines_whole : {signatures : List Signature} {before all : Events} {ls : List Line} → AreEventLines signatures before ls all → IsHistory before → IsHistory all
lines_whole Lines.over whole = whole
lines_whole (Lines.event {line = line} {e = e} next rest) whole = lines_whole rest next.next.place
lines_whole (Lines.applied says rest) whole = lines_whole rest whole
lines_whole (Lines.order says tails) whole = whole

text_whole : (program : Program) (text : List ℕ) (tells : HistoryTold) → IsHistoryText program text tells → IsHistory tells.events
text_whole program text tells h = lines_whole h.tells (λ process. refl)

-- and none of their processes is above those that they need

needed_within : (events : Events) (e : Event ObjectCall Reply) → Contains events e → needed e ≤ process_count events
needed_within [] e h = let lt = h.1 in omega (arith, lt)
needed_within (x ∷ events) e h =
    elim (Contains-append_cases (x ∷ []) events e h) [
      | inl here ↦
          elim (Contains-push_cases [] x e here) [
            | inl none ↦ let lt = none.1 in omega (arith, lt)
            | inr same ↦ subst (λ (y : Event ObjectCall Reply). needed y ≤ max (needed x) (process_count events)) same (omega arith)
          ]
      | inr there ↦ let within = needed_within events e there in omega (arith, within)
    ]

of_needed : (e : Event ObjectCall Reply) (processes : ℕ) → needed e ≤ processes → IsOfProcesses processes e
of_needed (Begin id call) processes within = omega (arith, within)
of_needed (Applied ids) processes within = tt
of_needed (End id reply) processes within = omega (arith, within)

of_count : (events : Events) → AreOfProcesses (process_count events) events
of_count events e h = of_needed e (process_count events) (needed_within events e h)

-- so many of them are shown by whatever order

module _ (Effect : ObjectCall → Activation → Activation → Reply → Type 0) (opening : Activation) (events : Events) (whole : IsHistory events) where
  abbrev Has : Events → Type 0
  Has = HasLegal Effect opening

  has_front : (n : ℕ) → Has events → Has (take n events)
  has_front = legal_taken Effect events whole (process_count events) (of_count events) opening

  not_later : (place later : ℕ) → place < later → Has (take later events) → ¬ Has (take (place + 1) events) → ⊥
  not_later place later less has none =
      none
      (subst Has (take-take (place + 1) later events (omega (arith, less)))
      (legal_taken Effect (take later events) (take_whole later events whole) (process_count events)
      (taken_few Effect events whole (process_count events) (of_count events) opening later) opening (place + 1) has))

  one_count : (n m : ℕ) (order other : List CallId) (c d : Option CallId) → IsShown Effect opening events n order c → IsShown Effect opening events m other d → n ≡ m
  one_count n m order other None None s t = s.2 ∙ sym t.2
  one_count n m order other None (Some id) s t = absurd (t.none (has_front (t.place + 1) (order, s.0, s.1)))
  one_count n m order other (Some id) None s t = absurd (s.none (has_front (s.place + 1) (other, t.0, t.1)))
  one_count n m order other (Some id) (Some jd) s t =
      elim (cases_lt s.place t.place) [
        | inl lt ↦ absurd (not_later s.place t.place lt (other, t.last, t.legal) s.none)
        | inr ge ↦
            elim (cases_lt t.place s.place) [
              | inl lt ↦ absurd (not_later t.place s.place lt (order, s.last, s.legal) t.none)
              | inr le ↦
                  let behind = s.behind in
                  let other_behind = t.behind in
                  omega (arith, ge, le, behind, other_behind)
            ]
      ]

module _ (program : Program) (text : List ℕ) (asked : Option ℕ) where
  abbrev ShownAt : HistoryTold → Activation → ℕ → List CallId → Option CallId → Type 0
  ShownAt t opening = IsShown (CallEnds program (budget_of asked t.budget)) opening t.events

  pub same_count : (n m : ℕ) (order other : List CallId) (c d : Option CallId) → (p : ShowsPart BeginsPlaced CallEnds program text asked n order c) →
      ShowsPart BeginsPlaced CallEnds program text asked m other d → n ≡ m
  same_count n m order other c d p q =
      let t = p.start.tells in
      let same = one_told program q.start.is_history p.start.is_history in
      let begins = subst (λ (x : HistoryTold). BeginsPlaced program x.carried q.start.opening) same q.start.begins in
      let opening = one_state program t.carried q.start.opening p.start.opening begins p.start.begins in
      one_count (CallEnds program (budget_of asked t.budget)) p.start.opening t.events (text_whole program text t p.start.is_history) n m order other c d p.shown
      (subst (λ (o : Activation). ShownAt t o m other d) opening (subst (λ (x : HistoryTold). ShownAt x q.start.opening m other d) same q.shown))
