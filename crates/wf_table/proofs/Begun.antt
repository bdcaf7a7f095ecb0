-- Calls that a history has begun: the open call of a process is one.
use Rattle.std.proofs.Common.{◌≡◌, ℕ, zero, suc, ◌+◌, ◌-◌, ◌*◌, ◌<◌, ◌≤◌, Bool, true, false, List, [], ◌∷◌, ◌++◌, length, get_or, take, refl, sym, ap, ◌∙◌, arith, cond, subst, eqb}
use Rattle.std.proofs.lemmas.Bool.{eqb-true, eq-eqb}
use Rattle.std.proofs.lemmas.List.{get_or-take, length-take-le}
use Rattle.std.proofs.lemmas.List.Elements.{Contains-append_right}
use Rattle.ob_interface.specs.Call.{ObjectCall, Reply}
use Rattle.wf_history.specs.declared.event.CallId.{CallId}
use Rattle.wf_history.specs.History.{OwnEvent, Begins, Ends, Event, Begin, Applied, End, in_turn, own_event, own_events, own_call, own_calls, IsHistory}
use Rattle.wf_history.specs.Legal.{HasBegun}

-- the numbers of the calls that begin
abbrev numbers : List OwnEvent → List ℕ
numbers [] = []
numbers (Begins n ∷ events) = n ∷ numbers events
numbers (Ends n ∷ events) = numbers events

numbers_turns : (a count i : ℕ) → 2 * i < count → get_or (numbers (in_turn a count)) i 0 ≡ a + i
numbers_turns a zero i lt = absurd (omega (arith, lt))
numbers_turns a (suc zero) zero lt = omega arith
numbers_turns a (suc zero) (suc i) lt = absurd (omega (arith, lt))
numbers_turns a (suc (suc count)) zero lt = omega arith
numbers_turns a (suc (suc count)) (suc i) lt = omega (arith, numbers_turns (a + 1) count i (omega (arith, lt)))

abbrev Has : ℕ → List (Event ObjectCall Reply) → List OwnEvent → List ObjectCall → Type 0
Has p history events calls = (i : ℕ) (d : ObjectCall) → i < length calls → HasBegun history (record { process = p; number = get_or (numbers events) i 0 }) (get_or calls i d)

behind : (p : ℕ) (x : Event ObjectCall Reply) (history : List (Event ObjectCall Reply)) (events : List OwnEvent) (calls : List ObjectCall) → Has p history events calls → Has p (x ∷ history) events calls
behind p x history events calls h i d lt = Contains-append_right (x ∷ []) history _ (h i d lt)

first_begun : (p : ℕ) (id : CallId) (call : ObjectCall) (history : List (Event ObjectCall Reply)) (events : List OwnEvent) (calls : List ObjectCall) → id.process ≡ p → Has p history events calls → Has p (Begin id call ∷ history) (Begins id.number ∷ events) (call ∷ calls)
first_begun p id call history events calls is h zero d lt = subst (λ (n : ℕ). HasBegun (Begin id call ∷ history) (record { process = n; number = id.number }) call) is (0, omega arith, refl)
first_begun p id call history events calls is h (suc i) d lt = Contains-append_right (Begin id call ∷ []) history _ (h i d (omega (arith, lt)))

by_begin : (b : Bool) (p : ℕ) (id : CallId) (call : ObjectCall) (history : List (Event ObjectCall Reply)) (events : List OwnEvent) (calls : List ObjectCall) → (b ≡ true → id.process ≡ p) → Has p history events calls → Has p (Begin id call ∷ history) (cond b (Begins id.number ∷ []) [] ++ events) (cond b (call ∷ []) [] ++ calls)
by_begin true p id call history events calls is h = first_begun p id call history events calls (is refl) h
by_begin false p id call history events calls is h = behind p (Begin id call) history events calls h

by_end : (b : Bool) (p : ℕ) (id : CallId) (reply : Reply) (history : List (Event ObjectCall Reply)) (events : List OwnEvent) (calls : List ObjectCall) → Has p history events calls → Has p (End id reply ∷ history) (cond b (Ends id.number ∷ []) [] ++ events) calls
by_end true p id reply history events calls h = behind p (End id reply) history events calls h
by_end false p id reply history events calls h = behind p (End id reply) history events calls h

-- each call of a process has begun under the number that stands in its place
has : (p : ℕ) (history : List (Event ObjectCall Reply)) → Has p history (own_events p history) (own_calls p history)
has p [] = λ i d lt. absurd (omega (arith, lt))
has p (Begin id call ∷ history) = by_begin (eqb id.process p) p id call history (own_events p history) (own_calls p history) (eqb-true id.process p) (has p history)
has p (Applied ids ∷ history) = behind p (Applied ids) history (own_events p history) (own_calls p history) (has p history)
has p (End id reply ∷ history) = by_end (eqb id.process p) p id reply history (own_events p history) (own_calls p history) (has p history)

-- the open call of a process has begun
pub open_begun : (p begun : ℕ) (history : List (Event ObjectCall Reply)) (calls : List ObjectCall) (d : ObjectCall) → 0 < begun → begun ≤ length calls → own_events p history ≡ in_turn 1 (2 * (begun - 1) + 1) → own_calls p history ≡ take begun calls → HasBegun history (record { process = p; number = begun }) (get_or calls (begun - 1) d)
open_begun p begun history calls d some few turns script =
    let i : ℕ = begun - 1 in
    let long : length (own_calls p history) ≡ begun = ap length script ∙ length-take-le begun calls few in
    let number : get_or (numbers (own_events p history)) i 0 ≡ begun = ap (λ (events : List OwnEvent). get_or (numbers events) i 0) turns ∙ numbers_turns 1 (2 * (begun - 1) + 1) i (omega arith) ∙ omega (arith, some) in
    let call : get_or (own_calls p history) i d ≡ get_or calls i d = ap (λ (cs : List ObjectCall). get_or cs i d) script ∙ get_or-take begun calls i d (omega (arith, some)) in
    subst (λ (n : ℕ). HasBegun history (record { process = p; number = n }) (get_or calls i d)) number
    (subst (λ (k : ObjectCall). HasBegun history (record { process = p; number = get_or (numbers (own_events p history)) i 0 }) k) call
    (has p history i d (omega (arith, long, some))))

-- the numbers of calls in turn are each another one
numbers_above : (a count : ℕ) (n i : ℕ) → i < length (numbers (in_turn a count)) → get_or (numbers (in_turn a count)) i n ≡ a + i
numbers_above a zero n i lt = absurd (omega (arith, lt))
numbers_above a (suc zero) n zero lt = omega arith
numbers_above a (suc zero) n (suc i) lt = absurd (omega (arith, lt))
numbers_above a (suc (suc count)) n zero lt = omega arith
numbers_above a (suc (suc count)) n (suc i) lt = omega (arith, numbers_above (a + 1) count n i (omega (arith, lt)))

-- a call that has begun stands in the place of its number among the calls of its process
abbrev StandsIn : List OwnEvent → List ObjectCall → ℕ → ObjectCall → Type 0
StandsIn events calls n call = (i : ℕ) × (i < length (numbers events)) × (i < length calls) × (get_or (numbers events) i n ≡ n) × (get_or calls i call ≡ call)

later_begin : (b : Bool) (events : List OwnEvent) (calls : List ObjectCall) (number n : ℕ) (first call : ObjectCall) → StandsIn events calls n call → StandsIn (cond b (Begins number ∷ []) [] ++ events) (cond b (first ∷ []) [] ++ calls) n call
later_begin true events calls number n first call h = (suc h.0, omega (arith, h.1), omega (arith, h.2), h.3, h.4)
later_begin false events calls number n first call h = h

later_end : (b : Bool) (events : List OwnEvent) (calls : List ObjectCall) (number n : ℕ) (call : ObjectCall) → StandsIn events calls n call → StandsIn (cond b (Ends number ∷ []) [] ++ events) calls n call
later_end true events calls number n call h = h
later_end false events calls number n call h = h

here_begin : (b : Bool) (events : List OwnEvent) (calls : List ObjectCall) (n : ℕ) (call : ObjectCall) → b ≡ true → StandsIn (cond b (Begins n ∷ []) [] ++ events) (cond b (call ∷ []) [] ++ calls) n call
here_begin true events calls n call e = (0, omega arith, omega arith, refl, refl)
here_begin false events calls n call e = absurd (cc)

stands_in : (history : List (Event ObjectCall Reply)) (id : CallId) (call : ObjectCall) (k : ℕ) → k < length history → get_or history k (Begin id call) ≡ Begin id call → StandsIn (own_events id.process history) (own_calls id.process history) id.number call
stands_in [] id call k lt e = absurd (omega (arith, lt))
stands_in (x ∷ history) id call zero lt e =
    subst (λ (y : Event ObjectCall Reply). StandsIn (own_event id.process y ++ own_events id.process history) (own_call id.process y ++ own_calls id.process history) id.number call) (sym e)
    (here_begin (eqb id.process id.process) (own_events id.process history) (own_calls id.process history) id.number call (eq-eqb id.process id.process refl))
stands_in (Begin other first ∷ history) id call (suc k) lt e = later_begin (eqb other.process id.process) (own_events id.process history) (own_calls id.process history) other.number id.number first call (stands_in history id call k (omega (arith, lt)) e)
stands_in (Applied ids ∷ history) id call (suc k) lt e = stands_in history id call k (omega (arith, lt)) e
stands_in (End other reply ∷ history) id call (suc k) lt e = later_end (eqb other.process id.process) (own_events id.process history) (own_calls id.process history) other.number id.number call (stands_in history id call k (omega (arith, lt)) e)

same_default : (calls : List ObjectCall) (i j : ℕ) (c d : ObjectCall) → i < length calls → i ≡ j → get_or calls i c ≡ c → get_or calls j d ≡ d → c ≡ d
same_default [] i j c d lt e is_c is_d = absurd (omega (arith, lt))
same_default (x ∷ calls) zero zero c d lt e is_c is_d = sym is_c ∙ is_d
same_default (x ∷ calls) zero (suc j) c d lt e is_c is_d = absurd (omega (arith, e))
same_default (x ∷ calls) (suc i) zero c d lt e is_c is_d = absurd (omega (arith, e))
same_default (x ∷ calls) (suc i) (suc j) c d lt e is_c is_d = same_default calls i j c d (omega (arith, lt)) (omega (arith, e)) is_c is_d

-- an id is of one call
pub begun_once : (history : List (Event ObjectCall Reply)) → IsHistory history → (id : CallId) (c d : ObjectCall) → HasBegun history id c → HasBegun history id d → c ≡ d
begun_once history turns id c d h k =
    let one = stands_in history id c h.0 h.1 h.2 in
    let two = stands_in history id d k.0 k.1 k.2 in
    let count = length (own_events id.process history) in
    let place : (i : ℕ) → i < length (numbers (own_events id.process history)) → get_or (numbers (own_events id.process history)) i id.number ≡ 1 + i =
    subst (λ (events : List OwnEvent). (i : ℕ) → i < length (numbers events) → get_or (numbers events) i id.number ≡ 1 + i) (sym (turns id.process)) (numbers_above 1 count id.number) in
    same_default (own_calls id.process history) one.0 two.0 c d one.2 (omega (arith, place one.0 one.1, place two.0 two.1, one.3, two.3)) one.4 two.4
