-- Own events: each process's Begin and End events stay in turn, and so the history is one.
use Rattle.std.proofs.Common.{◌≡◌, ◌≢◌, ℕ, ◌+◌, ◌-◌, ◌*◌, ◌<◌, Bool, true, false, List, [], ◌∷◌, ◌++◌, length, refl, sym, ap, ◌∙◌, subst, arith, cond}
use Rattle.std.specs.Prelude.{Option, Some, None, nat_lt}
use Rattle.std.proofs.lemmas.Bool.{eq-eqb}
use Rattle.std.proofs.lemmas.Bool.Decides.{nat_tests}
use Rattle.std.proofs.lemmas.List.{append-nil}
use Rattle.ll_cell.specs.Cell.{Cell, is_linked, block_of}
use Rattle.ob_interface.specs.Call.{ObjectCall, Reply}
use Rattle.wf_history.specs.History.{Event, Begin, Applied, End, OwnEvent, Begins, Ends, in_turn, own_event, own_events, IsHistory}
use Rattle.wf_history.proofs.Turns.{own_events-push, one_begins, one_ends, history-applied, history-begins, history-ends}
use Rattle.wf_table.specs.declared.process.Label.{Label}
use Rattle.wf_table.specs.declared.process.Label.TheVariants.{Next, Post, Try, Body, Commit, Read, Give}
use Rattle.wf_table.specs.declared.process.Sizes.{Sizes}
use Rattle.wf_table.specs.declared.engine_turn.EngineTurn.{EngineTurn}
use Rattle.wf_table.specs.declared.engine_turn.EngineTurn.TheVariants.{On, Returned, Trapped, Stuck}
use Rattle.wf_table.specs.Meaning.{Meaning}
use Rattle.wf_table.specs.StepTable.{Process, row, after_body, body_turn, call_at, open_call, own_block, to}
use Rattle.wf_table.specs.Object.{event_at, history_after, applied_ids, begun_of}
use Rattle.wf_table.specs.Ranges.{IsInRange}
use Rattle.wf_table.specs.Labels.{at_next}
use Rattle.wf_table.specs.Scripts.{TakesTurns, own_count}
use Rattle.wf_table.proofs.Moves.{same_begun}

abbrev Events : Type 0
Events = List (Event ObjectCall Reply)

-- an event that is not another process's
abbrev pub IsOwn : ℕ → Event ObjectCall Reply → Type 0
IsOwn p (Begin id call) = id.process ≡ p
IsOwn p (Applied ids) = Unit {0}
IsOwn p (End id reply) = id.process ≡ p

other_event : (p k : ℕ) (event : Event ObjectCall Reply) → k ≢ p → IsOwn p event → own_event k event ≡ []
other_event p k (Begin id call) d own = grind (arith, nat_tests, own, d)
other_event p k (Applied ids) d own = refl
other_event p k (End id reply) d own = grind (arith, nat_tests, own, d)

abbrev pub AllOwn : ℕ → Option (Event ObjectCall Reply) → Type 0
AllOwn p None = Unit {0}
AllOwn p (Some event) = IsOwn p event

pub others_turn : {Run : Type 0} (history : Events) (p k : ℕ) (event : Option (Event ObjectCall Reply)) (o : Process Run) → k ≢ p → AllOwn p event → TakesTurns history k o → TakesTurns (history_after history event) k o
others_turn history p k None o d own h = h
others_turn history p k (Some event) o d own h = record { turns = own_events-push k history event ∙ ap (λ (es : List OwnEvent). own_events k history ++ es) (other_event p k event d own) ∙ append-nil (own_events k history) ∙ h.turns }

-- the count of own events where the call stays open
counted : (l after : Label) (begun begun' : ℕ) → at_next l ≡ false → at_next after ≡ false → begun' ≡ begun → own_count after begun' ≡ own_count l begun
counted l after begun begun' a b e = grind (arith, nat_tests, a, b, e)

one_more_begins : (k : ℕ) → in_turn 1 (2 * k) ++ Begins (k + 1) ∷ [] ≡ in_turn 1 (2 * (k + 1 - 1) + 1)
one_more_begins k = let a : k + 1 ≡ 1 + k = omega arith in let b : 1 + k - 1 ≡ k = omega arith in rw (a, b) (one_begins 1 k)

one_more_ends : (k : ℕ) → 0 < k → in_turn 1 (2 * (k - 1) + 1) ++ Ends k ∷ [] ≡ in_turn 1 (2 * k)
one_more_ends k lt =
    let a : 1 + (k - 1) ≡ k = omega (arith, lt) in
    let b : 2 * (k - 1) + 2 ≡ 2 * k = omega (arith, lt) in
    subst (λ (n : ℕ). in_turn 1 (2 * (k - 1) + 1) ++ Ends k ∷ [] ≡ in_turn 1 n) b (subst (λ (n : ℕ). in_turn 1 (2 * (k - 1) + 1) ++ Ends n ∷ [] ≡ in_turn 1 (2 * (k - 1) + 2)) a (one_ends 1 (k - 1)))

-- its own events, as a process sees them
own_begin : (p n : ℕ) (call : ObjectCall) → own_event {Reply = Reply} p (Begin (record { process = p; number = n }) call) ≡ Begins n ∷ []
own_begin p n call = let same = eq-eqb p p refl in rw same refl

own_end : (p n : ℕ) (reply : Reply) → own_event {Call = ObjectCall} p (End (record { process = p; number = n }) reply) ≡ Ends n ∷ []
own_end p n reply = let same = eq-eqb p p refl in rw same refl

module _ {Run : Type 0} where
  pub all_own : (l : Label) (m : Meaning Run) (z : Sizes) (c : Cell) (ps : List (Process Run)) (p : ℕ) (q : Process Run) → AllOwn p (event_at l m z c ps p q)
  all_own Next m z c ps p q = elim (nat_lt q.begun (length q.calls)) as (λ b. AllOwn p (cond b (Some (Begin (record { process = p; number = q.begun + 1 }) (call_at q q.begun))) None)) [ true ↦ refl | false ↦ tt ]
  all_own Commit m z c ps p q = elim (is_linked c p) as (λ b. AllOwn p (cond b (Some (Applied (applied_ids z (block_of c c.root) (own_block c p) (begun_of ps)))) None)) [ true ↦ tt | false ↦ tt ]
  all_own Give m z c ps p q = refl
  all_own l m z c ps p q = tt

  -- no event of its own, and no call begins or ends
  turns_stay : (history : Events) (p : ℕ) (q after : Process Run) → own_count after.label after.begun ≡ own_count q.label q.begun → TakesTurns history p q → TakesTurns history p after
  turns_stay history p q after same h = record { turns = h.turns ∙ ap (in_turn 1) (sym same) }

  body_next : (z : Sizes) (t : EngineTurn) (q : Process Run) → q.label ≡ Body → at_next (after_body z t q).label ≡ false
  body_next z On q is = ap at_next is
  body_next z Returned q is = refl
  body_next z (Trapped k) q is = grind (arith, nat_tests)
  body_next z Stuck q is = ap at_next is

  -- a row but NEXT, COMMIT and GIVE leads to no NEXT
  inner_next : (l : Label) (m : Meaning Run) (z : Sizes) (c : Cell) (p : ℕ) (q : Process Run) → l ≢ Next → l ≢ Give → q.label ≡ l → at_next (row l m z c p q).process.label ≡ false
  inner_next Next m z c p q n g is = absurd (n refl)
  inner_next Give m z c p q n g is = absurd (g refl)
  inner_next Body m z c p q n g is = body_next z (body_turn m z c p q).turn (record q { run = (body_turn m z c p q).run }) is
  inner_next l m z c p q n g is = let k = ap at_next is in grind (arith, nat_tests, k)

  inner_turns : (l : Label) (m : Meaning Run) (z : Sizes) (c : Cell) (p : ℕ) (q : Process Run) (history : Events) → l ≢ Next → l ≢ Give → at_next l ≡ false → q.label ≡ l → TakesTurns history p q → TakesTurns history p (row l m z c p q).process
  inner_turns l m z c p q history n g out is h = turns_stay history p q (row l m z c p q).process (counted q.label (row l m z c p q).process.label q.begun (row l m z c p q).process.begun (ap at_next is ∙ out) (inner_next l m z c p q n g is) (same_begun l m z c p q out)) h

  -- what a process has shown at NEXT, and within a call
  resting : (p : ℕ) (q : Process Run) (history : Events) → q.label ≡ Next → TakesTurns history p q → own_events p history ≡ in_turn 1 (2 * q.begun)
  resting p q history is turns = turns.turns ∙ ap (λ (l : Label). in_turn 1 (own_count l q.begun)) is

  calling : (p : ℕ) (q : Process Run) (history : Events) → at_next q.label ≡ false → TakesTurns history p q → own_events p history ≡ in_turn 1 (2 * (q.begun - 1) + 1)
  calling p q history out turns = turns.turns ∙ ap (λ (b : Bool). in_turn 1 (cond b (2 * q.begun) (2 * (q.begun - 1) + 1))) out

  pub own_turns : (l : Label) (m : Meaning Run) (z : Sizes) (c : Cell) (ps : List (Process Run)) (p : ℕ) (q : Process Run) (history : Events) → q.label ≡ l → IsInRange z q → TakesTurns history p q → TakesTurns (history_after history (event_at l m z c ps p q)) p (row l m z c p q).process
  own_turns Next m z c ps p q history is h turns =
      let event = Begin (record { process = p; number = q.begun + 1 }) (call_at q q.begun) in
      let next : Process Run = record q { label = Post; begun = q.begun + 1; registers = record q.registers { i = 0 }; list = m.lay (call_at q q.begun) } in
      elim (nat_lt q.begun (length q.calls)) as (λ b. TakesTurns (history_after history (cond b (Some event) None)) p (cond b next q)) [
        | true ↦ record { turns = own_events-push p history event ∙ ap (λ (es : List OwnEvent). own_events p history ++ es) (own_begin p (q.begun + 1) (call_at q q.begun)) ∙ ap (λ (es : List OwnEvent). es ++ Begins (q.begun + 1) ∷ []) (resting p q history is turns) ∙ one_more_begins q.begun }
        | false ↦ turns
      ]
  own_turns Commit m z c ps p q history is h turns =
      let event = Applied (applied_ids z (block_of c c.root) (own_block c p) (begun_of ps)) in
      let out : at_next q.label ≡ false = ap at_next is in
      elim (is_linked c p) as (λ b. TakesTurns (history_after history (cond b (Some event) None)) p (cond b (to Read q) (to Try q))) [
        | true ↦ record { turns = own_events-push p history event ∙ append-nil (own_events p history) ∙ turns.turns ∙ ap (in_turn 1) (sym (counted q.label Read q.begun q.begun out refl refl)) }
        | false ↦ turns_stay history p q (to Try q) (counted q.label Try q.begun q.begun out refl refl) turns
      ]
  own_turns Give m z c ps p q history is h turns =
      let event = End (record { process = p; number = q.begun }) (m.reply (open_call q) q.replies) in
      record { turns = own_events-push p history event ∙ ap (λ (es : List OwnEvent). own_events p history ++ es) (own_end p q.begun (m.reply (open_call q) q.replies)) ∙ ap (λ (es : List OwnEvent). es ++ Ends q.begun ∷ []) (calling p q history (ap at_next is) turns) ∙ one_more_ends q.begun (h.opened (ap at_next is)) }
  own_turns l m z c ps p q history is h turns = inner_turns l m z c p q history (λ e. absurd (cc)) (λ e. absurd (cc)) refl is turns

  pub event_in_turn : (l : Label) (m : Meaning Run) (z : Sizes) (c : Cell) (ps : List (Process Run)) (p : ℕ) (q : Process Run) (history : Events) → q.label ≡ l → IsInRange z q → TakesTurns history p q → IsHistory history → IsHistory (history_after history (event_at l m z c ps p q))
  event_in_turn Next m z c ps p q history is h turns whole =
      let event = Begin (record { process = p; number = q.begun + 1 }) (call_at q q.begun) in
      elim (nat_lt q.begun (length q.calls)) as (λ b. IsHistory (history_after history (cond b (Some event) None))) [
        | true ↦ history-begins history (record { process = p; number = q.begun + 1 }) (call_at q q.begun) q.begun (resting p q history is turns) refl whole
        | false ↦ whole
      ]
  event_in_turn Commit m z c ps p q history is h turns whole =
      let ids = applied_ids z (block_of c c.root) (own_block c p) (begun_of ps) in
      elim (is_linked c p) as (λ b. IsHistory (history_after history (cond b (Some (Applied ids)) None))) [
        | true ↦ history-applied history ids whole
        | false ↦ whole
      ]
  event_in_turn Give m z c ps p q history is h turns whole =
      let began = h.opened (ap at_next is) in
      history-ends history (record { process = p; number = q.begun }) (m.reply (open_call q) q.replies) (q.begun - 1) (calling p q history (ap at_next is) turns) (omega (arith, began)) whole
  event_in_turn l m z c ps p q history is h turns whole = whole
