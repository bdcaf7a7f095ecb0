-- So many turns of a process, counted one by one and all at once.
use Rattle.std.proofs.Common.{◌≡◌, ℕ, zero, suc, ◌+◌, ◌-◌, ◌^◌, ◌<◌, ◌≤◌, Bool, true, false, List, [], ◌∷◌, ◌++◌, length, set, get_or, replicate, cond, refl, sym, ap, ◌∙◌, arith, inl, inr, append_assoc, append-nil, length-set}
use Rattle.std.specs.Prelude.{Option, Some, None, slice_get, nat_eq, nat_lt, ◌&&◌}
use Rattle.std.proofs.lemmas.Bool.{cases_eq}
use Rattle.std.proofs.lemmas.Bool.Decides.{nat_tests}
use Rattle.std.proofs.lemmas.List.{replicate_more, set-set}
use Rattle.std.proofs.lemmas.Option.{get_or_from_slice_get, slice_get_within}
use Rattle.wf_table.specs.declared.schedule.Turns.{Turns}
use Rattle.wf_table.specs.Schedule.{counted, counted_after, steps_of}
use Rattle.wf_table.proofs.Counted.{one_turn}
use Rattle.wf_table.proofs.Stuck.{set_same}
use Rattle.wf_records.specs.Times.{counted_times, room_for, room_in}

-- the schedule is longer by them
pub times_longer : (ts : List Turns) (p k : ℕ) → steps_of (counted_times ts p k) ≡ steps_of ts ++ replicate k p
times_longer ts p zero = sym (append-nil (steps_of ts))
times_longer ts p (suc k) =
    let more : k + 1 ≡ suc k = omega arith in
    one_turn (counted_times ts p k) p
    ∙ ap (λ (ps : List ℕ). ps ++ p ∷ []) (times_longer ts p k)
    ∙ append_assoc (steps_of ts) (replicate k p) (p ∷ [])
    ∙ ap (λ (ps : List ℕ). steps_of ts ++ ps) (replicate_more k p ∙ ap (λ (n : ℕ). replicate n p) more)

-- what is written at a place stands there
pub written_there : {X : Type 0} (xs : List X) (n : ℕ) (x : X) → n < length xs → slice_get (set xs n x) n ≡ Some x
written_there [] n x lt = absurd (omega (arith, lt))
written_there (a ∷ xs) zero x lt = refl
written_there (a ∷ xs) (suc n) x lt = written_there xs n x (omega (arith, lt))

-- the run of turns with so many more
abbrev pub longer : Turns → ℕ → Turns
longer t k = record { process = t.process; count = t.count + k }

module _ (ts : List Turns) (p : ℕ) (t : Turns) (at : slice_get ts (length ts - 1) ≡ Some t) (own : t.process ≡ p) where
  counted_last : (k : ℕ) → t.count + k < 2 ^ 64 - 1 → counted (set ts (length ts - 1) (longer t k)) p ≡ set ts (length ts - 1) (longer t (k + 1))
  counted_last k room =
      let n = length ts - 1 in
      let within : n < length ts = slice_get_within ts n t at in
      let here : length (set ts n (longer t k)) - 1 ≡ n = ap (λ (l : ℕ). l - 1) (length-set ts n (longer t k)) in
      let stands : slice_get (set ts n (longer t k)) (length (set ts n (longer t k)) - 1) ≡ Some (longer t k) = ap (slice_get (set ts n (longer t k))) here ∙ written_there ts n (longer t k) within in
      let test : (nat_eq t.process p && nat_lt (t.count + k) (2 ^ 64 - 1)) ≡ true = grind (arith, nat_tests) in
      let more : t.count + k + 1 ≡ t.count + (k + 1) = omega arith in
      ap (counted_after (set ts n (longer t k)) p) stands
      ∙ ap (λ (b : Bool). cond b (set (set ts n (longer t k)) (length (set ts n (longer t k)) - 1) (record { process = t.process; count = t.count + k + 1 })) (set ts n (longer t k) ++ record { process = p; count = 1 } ∷ [])) test
      ∙ ap (λ (i : ℕ). set (set ts n (longer t k)) i (record { process = t.process; count = t.count + k + 1 })) here
      ∙ set-set ts n (longer t k) (record { process = t.process; count = t.count + k + 1 })
      ∙ ap (λ (i : ℕ). set ts n (record { process = t.process; count = i })) more

  pub counted_at_once : (k : ℕ) → t.count + k ≤ 2 ^ 64 - 1 → counted_times ts p k ≡ set ts (length ts - 1) (longer t k)
  counted_at_once zero room =
      let same : t.count + 0 ≡ t.count = omega arith in
      sym (ap (λ (i : ℕ). set ts (length ts - 1) (record { process = t.process; count = i })) same ∙ set_same ts (length ts - 1) t at)
  counted_at_once (suc k) room =
      let more : k + 1 ≡ suc k = omega arith in
      ap (λ (us : List Turns). counted us p) (counted_at_once k (omega (arith, room)))
      ∙ counted_last k (omega (arith, room))
      ∙ ap (λ (i : ℕ). set ts (length ts - 1) (longer t i)) more

  -- as far as the last run of turns has room
  pub counted_in_room : (k : ℕ) → k ≤ room_for ts p → counted_times ts p k ≡ set ts (length ts - 1) (longer t k)
  counted_in_room zero few =
      let same : t.count + 0 ≡ t.count = omega arith in
      sym (ap (λ (i : ℕ). set ts (length ts - 1) (record { process = t.process; count = i })) same ∙ set_same ts (length ts - 1) t at)
  counted_in_room (suc k) few =
      let test : nat_eq t.process p ≡ true = grind (arith, nat_tests) in
      let room : room_for ts p ≡ 2 ^ 64 - 1 - t.count = ap (room_in p) at ∙ ap (λ (b : Bool). cond b (2 ^ 64 - 1 - t.count) 0) test in
      counted_at_once (suc k) (omega (arith, room, few))

-- another process's has none
no_room : (p k : ℕ) (o : Option Turns) → ((t : Turns) → o ≡ Some t → t.process ≡ p → ⊥) → k ≤ room_in p o → k ≡ 0
no_room p k None apart few = omega (arith, few)
no_room p k (Some t) apart few = elim (cases_eq t.process p) [
  | inl same ↦ absurd (apart t refl same)
  | inr other ↦
      let test : nat_eq t.process p ≡ false = grind (arith, nat_tests, other) in
      let none : cond (nat_eq t.process p) (2 ^ 64 - 1 - t.count) 0 ≡ 0 = ap (λ (b : Bool). cond b (2 ^ 64 - 1 - t.count) 0) test in
      omega (arith, few, none)
]

counted_nowhere : (ts : List Turns) (p k : ℕ) → ((t : Turns) → slice_get ts (length ts - 1) ≡ Some t → t.process ≡ p → ⊥) → k ≤ room_for ts p → ts ≡ counted_times ts p k
counted_nowhere ts p k apart few = ap (counted_times ts p) (sym (no_room p k (slice_get ts (length ts - 1)) apart few))

pub counted_elsewhere : (ts : List Turns) (p k : ℕ) (d : Turns) → ((get_or ts (length ts - 1) d).process ≡ p → ⊥) → k ≤ room_for ts p → ts ≡ counted_times ts p k
counted_elsewhere ts p k d other few = counted_nowhere ts p k (λ t at same. other (ap (λ (u : Turns). u.process) (get_or_from_slice_get ts (length ts - 1) t d at) ∙ same)) few

pub counted_first : (ts : List Turns) (p k : ℕ) → length ts ≤ 0 → k ≤ room_for ts p → ts ≡ counted_times ts p k
counted_first ts p k none few = counted_nowhere ts p k (λ t at same. absurd (omega (arith, none, slice_get_within ts (length ts - 1) t at))) few
