-- What each process has spent, over a step, and that there is room for one more of each count.
use Rattle.std.proofs.Common.{◌≡◌, ℕ, ◌+◌, ◌-◌, ◌*◌, ◌^◌, ◌<◌, ◌≤◌, Bool, true, false, List, [], ◌∷◌, length, set, replicate, ap, ◌∙◌, arith, get_or-set_same, get_or-set_other}
use Rattle.std.specs.Prelude.{Some, slice_get}
use Rattle.std.specs.List.{All}
use Rattle.std.proofs.lemmas.List.{length-append, length-replicate, length_push}
use Rattle.std.proofs.lemmas.List.Elements.{All-head, All-tail}
use Rattle.std.proofs.lemmas.Option.{slice_get_within}
use Rattle.wf_table.specs.declared.process.Label.{Label}
use Rattle.wf_table.specs.declared.process.Label.TheVariants.{Next}
use Rattle.wf_table.specs.declared.process.Sizes.{Sizes}
use Rattle.wf_table.specs.declared.schedule.Turns.{Turns}
use Rattle.wf_table.specs.Schedule.{steps_of, counted, AreTurns}
use Rattle.wf_table.specs.Meaning.{Meaning}
use Rattle.wf_table.specs.StepTable.{Process, row}
use Rattle.wf_table.specs.Object.{State}
use Rattle.wf_table.specs.Each.{Each}
use Rattle.wf_table.specs.Ranges.{IsSized, IsInRange}
use Rattle.wf_table.proofs.Counted.{one_turn}
use Rattle.wf_table.proofs.Frame.{each_after}
use Rattle.wf_table.specs.declared.spent.Spent.{Spent}
use Rattle.wf_table.specs.Spent.{unspent, spent_after, has_more}
use Rattle.wf_table.specs.Bound.{StaysWithin}
use Rattle.wf_table.specs.Counted.{EachCounts, spent_of}
use Rattle.wf_table.proofs.EachCounts.{step_counts}
use Rattle.wf_table.proofs.BoundRuns.{step_stays, within_bound}
use Rattle.wf_table.proofs.Sums.{bound_few}

-- a step is one step in a body at most
pub one_inside_more : (l : Label) (begins : Bool) (x : Spent) → (spent_after l begins x).inside ≤ x.inside + 1
one_inside_more Next true x = omega arith
one_inside_more Next false x = omega arith
one_inside_more l begins x = omega arith

-- so many turns have fewer steps than 2^64 each
few_steps : (n : ℕ) (ts : List Turns) → All (AreTurns n) ts → length (steps_of ts) ≤ (2 ^ 64 - 1) * length ts
few_steps n [] h = omega arith
few_steps n (t ∷ ts) h =
    let first = All-head (AreTurns n) t ts h in
    let rest = few_steps n ts (All-tail (AreTurns n) t ts h) in
    omega (arith, length-append (replicate t.count t.process) (steps_of ts), length-replicate t.count t.process, first.few, rest)

pub inside_room : (n : ℕ) (ts : List Turns) (inside : ℕ) → All (AreTurns n) ts → length ts < 2 ^ 64 → inside ≤ length (steps_of ts) → inside + 1 < 2 ^ 128
inside_room n ts inside h few among = omega (arith, few_steps n ts h, few, among)

pub inside_room_for : (n : ℕ) (ts : List Turns) (inside count : ℕ) → All (AreTurns n) ts → length ts < 2 ^ 64 → inside ≤ length (steps_of ts) → count < 2 ^ 64 → inside + count < 2 ^ 128
inside_room_for n ts inside count h few among short = omega (arith, few_steps n ts h, few, among, short)

module _ {Run : Type 0} (m : Meaning Run) (z : Sizes) where
  pub bodies_room : (q : Process Run) (x : Spent) → IsSized z → IsInRange z q → StaysWithin z x q → x.bodies + 1 < 2 ^ 128
  bodies_room q x sized range h = omega (arith, (within_bound m z x q range h).bodies, sized.processes)

  pub outside_room : (q : Process Run) (x : Spent) → IsSized z → IsInRange z q → StaysWithin z x q → x.outside + 1 < 2 ^ 128
  outside_room q x sized range h = omega (arith, (within_bound m z x q range h).promised, bound_few z sized)

  module _ (s : State Run) (p : ℕ) (q : Process Run) (at : slice_get s.processes p ≡ Some q) (xs : List Spent) where
    -- what process p has spent then
    abbrev pub later : Spent
    later = spent_after q.label (has_more q) (spent_of xs p)

    pub spends_stay : IsSized z → Each (λ _ o. IsInRange z o) s.processes → EachCounts (StaysWithin z) unspent xs s.processes → EachCounts (StaysWithin z) unspent (set xs p later) (set s.processes p (row q.label m z s.cell p q).process)
    spends_stay sized range h = step_counts m z spent_after unspent (StaysWithin z) s xs p (Some q) (λ k o e stays. step_stays m z s k o (spent_of xs k) sized (range k o e) stays) at h

    pub among_stay : length xs ≡ length s.processes → Each (λ k _. (spent_of xs k).inside ≤ length (steps_of s.records.schedule)) s.processes → Each (λ k _. (spent_of (set xs p later) k).inside ≤ length (steps_of (counted s.records.schedule p))) (set s.processes p (row q.label m z s.cell p q).process)
    among_stay same h =
        let longer : length (steps_of (counted s.records.schedule p)) ≡ length (steps_of s.records.schedule) + 1 = ap length (one_turn s.records.schedule p) ∙ length_push (steps_of s.records.schedule) p in
        each_after (λ k _. (spent_of xs k).inside ≤ length (steps_of s.records.schedule)) (λ k _. (spent_of (set xs p later) k).inside ≤ length (steps_of (counted s.records.schedule p))) s.processes p _ h
        (omega (arith, longer, h p q at, one_inside_more q.label (has_more q) (spent_of xs p), ap (λ (x : Spent). x.inside) (get_or-set_same xs p later unspent (omega (arith, same, slice_get_within s.processes p q at)))))
        (λ k o apart old. omega (arith, longer, old, ap (λ (x : Spent). x.inside) (get_or-set_other xs p k later unspent apart)))
