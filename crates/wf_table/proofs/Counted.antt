-- One turn more: what a schedule counts.
use Rattle.std.proofs.Common.{◌≡◌, ℕ, zero, suc, ◌+◌, ◌-◌, ◌^◌, ◌<◌, Bool, true, false, List, [], ◌∷◌, ◌++◌, length, set, replicate, cond, refl, sym, ap, ◌∙◌, arith, append_assoc}
use Rattle.std.specs.Prelude.{Option, Some, None, slice_get, nat_eq, nat_lt, ◌&&◌}
use Rattle.std.specs.List.{All}
use Rattle.std.proofs.lemmas.Bool.Decides.{nat_tests}
use Rattle.std.proofs.lemmas.List.Elements.{All-push, All-set}
use Rattle.std.proofs.lemmas.Option.{same_Some, slice_get_within}
use Rattle.wf_table.specs.declared.schedule.Turns.{Turns}
use Rattle.wf_table.specs.Schedule.{counted, counted_after, steps_of, AreTurns}

abbrev one : ℕ → Turns
one p = record { process = p; count = 1 }

abbrev more : Turns → Turns
more t = record { process = t.process; count = t.count + 1 }

replicate-more : {X : Type 0} (n : ℕ) (x : X) → replicate (n + 1) x ≡ replicate n x ++ x ∷ []
replicate-more zero x = refl
replicate-more {X} (suc n) x = let same : suc n + 1 ≡ suc (n + 1) = omega arith in rw same (ap (λ (xs : List X). x ∷ xs) (replicate-more n x))

steps_of-append : (ts us : List Turns) → steps_of (ts ++ us) ≡ steps_of ts ++ steps_of us
steps_of-append [] us = refl
steps_of-append (t ∷ ts) us = ap (λ (ps : List ℕ). replicate t.count t.process ++ ps) (steps_of-append ts us) ∙ sym (append_assoc (replicate t.count t.process) (steps_of ts) (steps_of us))

-- the last run of turns is longer by one
last_longer : (ts : List Turns) (k : ℕ) (t : Turns) → k + 1 ≡ length ts → slice_get ts k ≡ Some t → steps_of (set ts k (more t)) ≡ steps_of ts ++ t.process ∷ []
last_longer [] k t e at = absurd (omega (arith, e))
last_longer (x ∷ []) zero t e at =
    let same : t ≡ x = sym (same_Some x t at) in
    rw same (ap (λ (ps : List ℕ). ps ++ []) (replicate-more x.count x.process) ∙ append_assoc (replicate x.count x.process) (x.process ∷ []) [] ∙ sym (append_assoc (replicate x.count x.process) [] (x.process ∷ [])))
last_longer (x ∷ []) (suc k) t e at = absurd (omega (arith, e))
last_longer (x ∷ y ∷ ts) zero t e at = absurd (omega (arith, e))
last_longer (x ∷ y ∷ ts) (suc k) t e at =
    ap (λ (ps : List ℕ). replicate x.count x.process ++ ps) (last_longer (y ∷ ts) k t (omega (arith, e)) at)
    ∙ sym (append_assoc (replicate x.count x.process) (steps_of (y ∷ ts)) (t.process ∷ []))

new_run : (ts : List Turns) (p : ℕ) → steps_of (ts ++ one p ∷ []) ≡ steps_of ts ++ p ∷ []
new_run ts p = steps_of-append ts (one p ∷ [])

counted_by : (ts : List Turns) (p : ℕ) (t : Turns) (b : Bool) → (nat_eq t.process p && nat_lt t.count (2 ^ 64 - 1)) ≡ b → slice_get ts (length ts - 1) ≡ Some t → steps_of (cond b (set ts (length ts - 1) (more t)) (ts ++ one p ∷ [])) ≡ steps_of ts ++ p ∷ []
counted_by ts p t true e at =
    let same : t.process ≡ p = grind (arith, nat_tests, e) in
    let within = slice_get_within ts (length ts - 1) t at in
    last_longer ts (length ts - 1) t (omega (arith, within)) at ∙ ap (λ (q : ℕ). steps_of ts ++ q ∷ []) same
counted_by ts p t false e at = new_run ts p

counted_at : (ts : List Turns) (p : ℕ) (o : Option Turns) → slice_get ts (length ts - 1) ≡ o → steps_of (counted_after ts p o) ≡ steps_of ts ++ p ∷ []
counted_at ts p None at = new_run ts p
counted_at ts p (Some t) at = counted_by ts p t (nat_eq t.process p && nat_lt t.count (2 ^ 64 - 1)) refl at

-- the schedule is one turn longer
pub one_turn : (ts : List Turns) (p : ℕ) → steps_of (counted ts p) ≡ steps_of ts ++ p ∷ []
one_turn ts p = counted_at ts p (slice_get ts (length ts - 1)) refl

-- its counts stay below 2^64, and its processes below n
first_turn : (n p : ℕ) → p < n → AreTurns n (one p)
first_turn n p lt = record { process = lt; some = omega arith; few = omega arith }

turns_by : (n : ℕ) (ts : List Turns) (p : ℕ) (t : Turns) (b : Bool) → (nat_eq t.process p && nat_lt t.count (2 ^ 64 - 1)) ≡ b → p < n → All (AreTurns n) ts → All (AreTurns n) (cond b (set ts (length ts - 1) (more t)) (ts ++ one p ∷ []))
turns_by n ts p t true e lt h =
    let same : t.process ≡ p = grind (arith, nat_tests, e) in
    let few : t.count < 2 ^ 64 - 1 = grind (arith, nat_tests, e) in
    All-set (AreTurns n) ts (length ts - 1) (more t) (record { process = omega (arith, same, lt); some = omega arith; few = omega (arith, few) }) h
turns_by n ts p t false e lt h = All-push (AreTurns n) ts (one p) h (first_turn n p lt)

turns_at : (n : ℕ) (ts : List Turns) (p : ℕ) (o : Option Turns) → p < n → All (AreTurns n) ts → All (AreTurns n) (counted_after ts p o)
turns_at n ts p None lt h = All-push (AreTurns n) ts (one p) h (first_turn n p lt)
turns_at n ts p (Some t) lt h = turns_by n ts p t (nat_eq t.process p && nat_lt t.count (2 ^ 64 - 1)) refl lt h

pub turns_below : (n : ℕ) (ts : List Turns) (p : ℕ) → p < n → All (AreTurns n) ts → All (AreTurns n) (counted ts p)
turns_below n ts p lt h = turns_at n ts p (slice_get ts (length ts - 1)) lt h
