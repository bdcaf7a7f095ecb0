-- How often a process stands in a schedule.
use Rattle.std.proofs.Common.{◌≡◌, ℕ, ◌+◌, ◌-◌, ◌*◌, ◌<◌, ◌≤◌, ◌^◌, Bool, true, false, List, [], ◌∷◌, ◌++◌, length, replicate, cond, refl, ap, ◌∙◌, arith, add-zero, length-append}
use Rattle.std.specs.Prelude.{count_by, nat_eq}
use Rattle.std.specs.List.{All}
use Rattle.std.proofs.lemmas.Bool.Decides.{nat_tests}
use Rattle.std.proofs.lemmas.List.{length-replicate}
use Rattle.std.proofs.lemmas.List.Elements.{All-head, All-tail}
use Rattle.std.proofs.lemmas.List.Sums.{count_by-le-length, sum_by-append}
use Rattle.wf_table.specs.declared.schedule.Turns.{Turns}
use Rattle.wf_table.specs.Schedule.{AreTurns, steps_of}
use Rattle.ob_desk_floor.specs.Floor.{turns_in}

-- how often a process stands among steps
abbrev pub times : ℕ → List ℕ → ℕ
times p steps = count_by (λ q. nat_eq q p) steps

count_by-append : (f : ℕ → Bool) (xs ys : List ℕ) → count_by f (xs ++ ys) ≡ count_by f xs + count_by f ys
count_by-append f xs ys = sum_by-append (λ (k : ℕ). cond (f k) 1 0) xs ys

pub once_more : (p : ℕ) (steps : List ℕ) → times p (steps ++ p ∷ []) ≡ times p steps + 1
once_more p steps =
    let e : nat_eq p p ≡ true = grind (arith, nat_tests) in
    let one : times p (p ∷ []) ≡ 1 = rw e refl in
    count_by-append (λ q. nat_eq q p) steps (p ∷ []) ∙ ap (λ (k : ℕ). times p steps + k) one

pub as_often : (p q : ℕ) (steps : List ℕ) → nat_eq q p ≡ false → times p (steps ++ q ∷ []) ≡ times p steps
as_often p q steps other =
    let none : times p (q ∷ []) ≡ 0 = rw other refl in
    count_by-append (λ k. nat_eq k p) steps (q ∷ []) ∙ ap (λ (k : ℕ). times p steps + k) none ∙ add-zero (times p steps)

-- so many runs of turns, each of fewer than 2^64
few_steps : (n : ℕ) (ts : List Turns) → All (AreTurns n) ts → length (steps_of ts) ≤ length ts * (2 ^ 64 - 1)
few_steps n [] all = omega arith
few_steps n (t ∷ ts) all =
    let rest = few_steps n ts (All-tail (AreTurns n) t ts all) in
    let here = (All-head (AreTurns n) t ts all).few in
    omega (arith, rest, here, length-append (replicate t.count t.process) (steps_of ts), length-replicate t.count t.process)

pub few_turns : (n : ℕ) (ts : List Turns) (p : ℕ) → All (AreTurns n) ts → length ts < 2 ^ 64 → turns_in p ts + 1 < 2 ^ 128
few_turns n ts p all few =
    let most = few_steps n ts all in
    let least = count_by-le-length (λ q. nat_eq q p) (steps_of ts) in
    omega (arith, most, least, few)
