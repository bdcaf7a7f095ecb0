-- One event more keeps a history a history, where it is its process's next one.
use Rattle.std.proofs.Common.{◌≡◌, refl, sym, ap, subst, ◌∙◌, ℕ, ◌+◌, ◌*◌, zero, suc, Bool, true, false, cond, List, [], ◌∷◌, ◌++◌, length, arith, append_assoc, eq-eqb}
use Rattle.std.proofs.lemmas.Grind.{common_steps}
use Rattle.std.proofs.lemmas.Bool.{eqb-true}
use Rattle.std.proofs.lemmas.List.{append-nil}
use Rattle.std.proofs.Math.Dec.{eqb}
use Rattle.wf_history.specs.declared.event.CallId.{CallId}
use Rattle.wf_history.specs.History.{Event, Begin, Applied, End, OwnEvent, Begins, Ends, in_turn, own_event, own_events, own_call, own_calls, IsHistory}

pub length-in_turn : (number count : ℕ) → length (in_turn number count) ≡ count
length-in_turn number zero = refl
length-in_turn number (suc zero) = refl
length-in_turn number (suc (suc count)) = ap (λ (k : ℕ). suc (suc k)) (length-in_turn (number + 1) count)

pub one_begins : (number k : ℕ) → in_turn number (2 * k) ++ Begins (number + k) ∷ [] ≡ in_turn number (2 * k + 1)
one_begins number zero = grind (arith, common_steps)
one_begins number (suc k) =
    let twice : 2 * suc k ≡ suc (suc (2 * k)) = omega arith in
    let more : 2 * suc k + 1 ≡ suc (suc (2 * k + 1)) = omega arith in
    let same : number + suc k ≡ (number + 1) + k = omega arith in
    rw (more, twice, same) (ap (λ (es : List OwnEvent). Begins number ∷ Ends number ∷ es) (one_begins (number + 1) k))

pub one_ends : (number k : ℕ) → in_turn number (2 * k + 1) ++ Ends (number + k) ∷ [] ≡ in_turn number (2 * k + 2)
one_ends number zero = grind (arith, common_steps)
one_ends number (suc k) =
    let twice : 2 * suc k + 1 ≡ suc (suc (2 * k + 1)) = omega arith in
    let more : 2 * suc k + 2 ≡ suc (suc (2 * k + 2)) = omega arith in
    let same : number + suc k ≡ (number + 1) + k = omega arith in
    rw (more, twice, same) (ap (λ (es : List OwnEvent). Begins number ∷ Ends number ∷ es) (one_ends (number + 1) k))

-- turns so far, and the next
next_turn : (turns more : List OwnEvent) (count : ℕ) → turns ++ more ≡ in_turn 1 count → turns ++ more ≡ in_turn 1 (length (turns ++ more))
next_turn turns more count e = e ∙ ap (in_turn 1) (sym (length-in_turn 1 count) ∙ sym (ap length e))

-- where nothing of the process is added
same_turns : (turns : List OwnEvent) → turns ≡ in_turn 1 (length turns) → turns ++ [] ≡ in_turn 1 (length (turns ++ []))
same_turns turns h = rw (append-nil turns) h

-- where an event is the process's own, and where it isn't
own_or_not : (turns : List OwnEvent) (own : Bool) (next : OwnEvent) (count : ℕ) → turns ≡ in_turn 1 (length turns) → (own ≡ true → turns ++ next ∷ [] ≡ in_turn 1 count) → turns ++ cond own (next ∷ []) [] ≡ in_turn 1 (length (turns ++ cond own (next ∷ []) []))
own_or_not turns true next count h own = next_turn turns (next ∷ []) count (own refl)
own_or_not turns false next count h own = same_turns turns h

module _ {Call Reply : Type 0} where
  pub own_events-push : (process : ℕ) (events : List (Event Call Reply)) (event : Event Call Reply) → own_events process (events ++ event ∷ []) ≡ own_events process events ++ own_event process event
  own_events-push process [] event = append-nil (own_event process event)
  own_events-push process (e ∷ events) event = ap (λ (es : List OwnEvent). own_event process e ++ es) (own_events-push process events event) ∙ sym (append_assoc (own_event process e) (own_events process events) (own_event process event))

  pub own_calls-push : (process : ℕ) (events : List (Event Call Reply)) (event : Event Call Reply) → own_calls process (events ++ event ∷ []) ≡ own_calls process events ++ own_call process event
  own_calls-push process [] event = append-nil (own_call process event)
  own_calls-push process (e ∷ events) event = ap (λ (calls : List Call). own_call process e ++ calls) (own_calls-push process events event) ∙ sym (append_assoc (own_call process e) (own_calls process events) (own_call process event))

  pub history-applied : (history : List (Event Call Reply)) (ids : List CallId) → IsHistory history → IsHistory (history ++ Applied ids ∷ [])
  history-applied history ids h process = rw (own_events-push process history (Applied ids)) (same_turns (own_events process history) (h process))

  pub history-begins : (history : List (Event Call Reply)) (id : CallId) (call : Call) (k : ℕ) → own_events id.process history ≡ in_turn 1 (2 * k) → id.number ≡ k + 1 → IsHistory history → IsHistory (history ++ Begin id call ∷ [])
  history-begins history id call k turns number h process =
      rw (own_events-push process history (Begin id call))
      (own_or_not (own_events process history) (eqb id.process process) (Begins id.number) (2 * k + 1) (h process)
      (λ e. let same = eqb-true id.process process e in let count : id.number ≡ 1 + k = omega (arith, number) in rw (count, ← same, turns) (one_begins 1 k)))

  pub history-ends : (history : List (Event Call Reply)) (id : CallId) (reply : Reply) (k : ℕ) → own_events id.process history ≡ in_turn 1 (2 * k + 1) → id.number ≡ k + 1 → IsHistory history → IsHistory (history ++ End id reply ∷ [])
  history-ends history id reply k turns number h process =
      rw (own_events-push process history (End id reply))
      (own_or_not (own_events process history) (eqb id.process process) (Ends id.number) (2 * k + 2) (h process)
      (λ e. let same = eqb-true id.process process e in let count : id.number ≡ 1 + k = omega (arith, number) in rw (count, ← same, turns) (one_ends 1 k)))

-- one call more of a process, as its turns show it
module _ {Call Reply : Type 0} (process k : ℕ) (history : List (Event Call Reply)) where
  abbrev named : CallId
  named = record { process = process; number = k + 1 }

  pub turn_begins : (call : Call) → own_events process history ≡ in_turn 1 (2 * k) → own_events process (history ++ Begin named call ∷ []) ≡ in_turn 1 (2 * k + 1)
  turn_begins call turns =
      let number : k + 1 ≡ 1 + k = omega arith in
      own_events-push process history (Begin named call)
      ∙ ap (λ (b : Bool). own_events process history ++ cond b (Begins (k + 1) ∷ []) []) (eq-eqb process process refl)
      ∙ ap (λ (es : List OwnEvent). es ++ Begins (k + 1) ∷ []) turns
      ∙ ap (λ (n : ℕ). in_turn 1 (2 * k) ++ Begins n ∷ []) number
      ∙ one_begins 1 k

  pub turn_ends : (reply : Reply) → own_events process history ≡ in_turn 1 (2 * k + 1) → own_events process (history ++ End named reply ∷ []) ≡ in_turn 1 (2 * (k + 1))
  turn_ends reply turns =
      let number : k + 1 ≡ 1 + k = omega arith in
      let count : 2 * k + 2 ≡ 2 * (k + 1) = omega arith in
      own_events-push process history (End named reply)
      ∙ ap (λ (b : Bool). own_events process history ++ cond b (Ends (k + 1) ∷ []) []) (eq-eqb process process refl)
      ∙ ap (λ (es : List OwnEvent). es ++ Ends (k + 1) ∷ []) turns
      ∙ ap (λ (n : ℕ). in_turn 1 (2 * k + 1) ++ Ends n ∷ []) number
      ∙ one_ends 1 k
      ∙ ap (in_turn 1) count

-- a call of process 0 that begins and ends, in a history in which it has made so many
module _ {Call Reply : Type 0} (history : List (Event Call Reply)) (done : ℕ) (id : CallId) (is : id ≡ record { process = 0; number = done + 1 }) (turns : own_events 0 history ≡ in_turn 1 (2 * done)) (whole : IsHistory history) where
  pub begun_whole : (call : Call) → IsHistory (history ++ Begin id call ∷ [])
  begun_whole call =
      subst (λ (i : CallId). IsHistory (history ++ Begin i call ∷ [])) (sym is) (history-begins history (named 0 done history) call done turns refl whole)

  module _ (call : Call) (begun : List (Event Call Reply)) (pushed : begun ≡ history ++ Begin id call ∷ []) where
    begun_turns : own_events 0 begun ≡ in_turn 1 (2 * done + 1)
    begun_turns =
        ap (own_events 0) pushed ∙ ap (λ (i : CallId). own_events 0 (history ++ Begin i call ∷ [])) is ∙ turn_begins 0 done history call turns

    pub ended_whole : (reply : Reply) → IsHistory (begun ++ End id reply ∷ [])
    ended_whole reply =
        subst (λ (i : CallId). IsHistory (begun ++ End i reply ∷ [])) (sym is)
        (history-ends begun (named 0 done history) reply done begun_turns refl
        (subst (λ (es : List (Event Call Reply)). IsHistory es) (sym pushed) (begun_whole call)))

    pub ended_turns : (reply : Reply) → own_events 0 (begun ++ End id reply ∷ []) ≡ in_turn 1 (2 * (done + 1))
    ended_turns reply =
        ap (λ (i : CallId). own_events 0 (begun ++ End i reply ∷ [])) is ∙ turn_ends 0 done begun reply begun_turns
