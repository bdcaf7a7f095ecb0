-- In a history an id begins once, and as a call of its process's script.
use Rattle.std.proofs.Common.{◌≡◌, ℕ, zero, suc, ◌+◌, ◌-◌, ◌<◌, ◌≤◌, Bool, true, false, List, [], ◌∷◌, ◌++◌, length, get_or, take, refl, sym, ap, ◌∙◌, arith, cond, subst, eqb}
use Rattle.std.specs.List.{range_with_len, Contains}
use Rattle.std.proofs.lemmas.Bool.{eq-eqb, false≢true}
use Rattle.std.proofs.lemmas.List.{get_or-take, length-take}
use Rattle.std.proofs.lemmas.List.FromFn.{length-range_with_len, get_or-range_with_len}
use Rattle.ob_interface.specs.Call.{ObjectCall, Reply}
use Rattle.wf_history.specs.declared.event.CallId.{CallId}
use Rattle.wf_history.specs.History.{Event, Begin, Applied, End, OwnEvent, Begins, Ends, in_turn, own_event, own_events, own_call, own_calls, IsHistory}

-- the numbers of the calls that begin
numbers : List OwnEvent → List ℕ
numbers [] = []
numbers (Begins n ∷ events) = n ∷ numbers events
numbers (Ends n ∷ events) = numbers events

numbers_in_turn : (a count : ℕ) → (k : ℕ) × (numbers (in_turn a count) ≡ range_with_len a k)
unfolding numbers
numbers_in_turn a zero = (0, refl)
numbers_in_turn a (suc zero) = (1, refl)
numbers_in_turn a (suc (suc count)) = let rest = numbers_in_turn (a + 1) count in (suc rest.0, ap (λ (ns : List ℕ). a ∷ ns) rest.1)

-- the call stands among the calls in the place of its number among the numbers
record Stands (events : List OwnEvent) (calls : List ObjectCall) (n : ℕ) (call : ObjectCall) : Type 0 where
  place : ℕ
  within : place < length (numbers events)
  number : get_or (numbers events) place 0 ≡ n
  among : place < length calls
  is : (d : ObjectCall) → get_or calls place d ≡ call

first : (b : Bool) (n : ℕ) (call : ObjectCall) (events : List OwnEvent) (calls : List ObjectCall) → b ≡ true → Stands (cond b (Begins n ∷ []) [] ++ events) (cond b (call ∷ []) [] ++ calls) n call
unfolding numbers
first true n call events calls e = record { place = 0; within = omega arith; number = refl; among = omega arith; is = λ d. refl }
first false n call events calls e = absurd (false≢true e)

later_begin : (b : Bool) (k n : ℕ) (other call : ObjectCall) (events : List OwnEvent) (calls : List ObjectCall) → Stands events calls n call → Stands (cond b (Begins k ∷ []) [] ++ events) (cond b (other ∷ []) [] ++ calls) n call
unfolding numbers
later_begin true k n other call events calls h = record { place = suc h.place; within = omega (arith, h.within); number = h.number; among = omega (arith, h.among); is = h.is }
later_begin false k n other call events calls h = h

later_end : (b : Bool) (k n : ℕ) (call : ObjectCall) (events : List OwnEvent) (calls : List ObjectCall) → Stands events calls n call → Stands (cond b (Ends k ∷ []) [] ++ events) calls n call
unfolding numbers
later_end true k n call events calls h = record { place = h.place; within = h.within; number = h.number; among = h.among; is = h.is }
later_end false k n call events calls h = h

stands_at : (history : List (Event ObjectCall Reply)) (id : CallId) (call : ObjectCall) (i : ℕ) → i < length history → get_or history i (Begin id call) ≡ Begin id call → Stands (own_events id.process history) (own_calls id.process history) id.number call
stands_at [] id call i lt e = absurd (omega (arith, lt))
stands_at (x ∷ xs) id call zero lt e =
    subst (λ (event : Event ObjectCall Reply). Stands (own_event id.process event ++ own_events id.process xs) (own_call id.process event ++ own_calls id.process xs) id.number call) (sym e)
    (first (eqb id.process id.process) id.number call (own_events id.process xs) (own_calls id.process xs) (eq-eqb id.process id.process refl))
stands_at (Begin other c ∷ xs) id call (suc i) lt e = later_begin (eqb other.process id.process) other.number id.number c call (own_events id.process xs) (own_calls id.process xs) (stands_at xs id call i (omega (arith, lt)) e)
stands_at (Applied ids ∷ xs) id call (suc i) lt e = stands_at xs id call i (omega (arith, lt)) e
stands_at (End other reply ∷ xs) id call (suc i) lt e = later_end (eqb other.process id.process) other.number id.number call (own_events id.process xs) (own_calls id.process xs) (stands_at xs id call i (omega (arith, lt)) e)

module _ (history : List (Event ObjectCall Reply)) (turns : IsHistory history) where
  number_is : (p n place : ℕ) → place < length (numbers (own_events p history)) → get_or (numbers (own_events p history)) place 0 ≡ n → n ≡ 1 + place
  number_is p n place within number =
      let range = numbers_in_turn 1 (length (own_events p history)) in
      let all : numbers (own_events p history) ≡ range_with_len 1 range.0 = ap numbers (turns p) ∙ range.1 in
      let few : place < range.0 = omega (arith, within, ap length all, length-range_with_len 1 range.0) in
      sym number ∙ ap (λ (ns : List ℕ). get_or ns place 0) all ∙ get_or-range_with_len 1 range.0 place 0 few

  -- the call of an id is the one in the place of its number
  pub call_is : (id : CallId) (call d : ObjectCall) → Contains history (Begin id call) → (0 < id.number) × (id.number ≤ length (own_calls id.process history)) × (get_or (own_calls id.process history) (id.number - 1) d ≡ call)
  call_is id call d h =
      let s = stands_at history id call h.0 h.1 h.2 in
      let n = number_is id.process id.number s.place s.within s.number in
      let place : id.number - 1 ≡ s.place = omega (arith, n) in
      (omega (arith, n), omega (arith, n, s.among), ap (λ (k : ℕ). get_or (own_calls id.process history) k d) place ∙ s.is d)

  pub one_call : (id : CallId) (a b : ObjectCall) → Contains history (Begin id a) → Contains history (Begin id b) → a ≡ b
  one_call id a b h k = sym (call_is id a a h).2 ∙ (call_is id b a k).2

  -- which is of the script
  pub of_script : (id : CallId) (call d : ObjectCall) (begun : ℕ) (script : List ObjectCall) → own_calls id.process history ≡ take begun script → Contains history (Begin id call) → (id.number - 1 < length script) × (get_or script (id.number - 1) d ≡ call)
  of_script id call d begun script own h =
      let is = call_is id call d h in
      let long = ap length own ∙ length-take begun script in
      let few : id.number - 1 < begun = omega (arith, is.0, is.1, long) in
      (omega (arith, is.0, is.1, long), sym (get_or-take begun script (id.number - 1) d few) ∙ ap (λ (calls : List ObjectCall). get_or calls (id.number - 1) d) (sym own) ∙ is.2)
