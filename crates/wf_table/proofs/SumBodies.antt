-- What a call spends in bodies is the sum over the bodies that it has begun.
use Rattle.std.proofs.Common.{◌≡◌, ℕ, ◌+◌, ◌<◌, true, false, List, [], ◌∷◌, length, refl, cond, arith}
use Rattle.std.specs.Prelude.{sum}
use Rattle.std.proofs.lemmas.Bool.Decides.{nat_tests}
use Rattle.std.proofs.lemmas.List.Sums.{sum_by-cons}
use Rattle.ll_cell.specs.Cell.{Cell}
use Rattle.wf_table.specs.declared.process.Label.{Label}
use Rattle.wf_table.specs.declared.process.Label.TheVariants.{Next, Post, Enter, Body}
use Rattle.wf_table.specs.declared.process.Sizes.{Sizes}
use Rattle.wf_table.specs.Meaning.{Meaning}
use Rattle.wf_table.specs.StepTable.{Process, call_at, row, to}
use Rattle.wf_table.specs.Spent.{has_more, one_more}
use Rattle.wf_table.specs.Counted.{Counts, counts_after}
use Rattle.wf_table.specs.Limit.{SumsBodies}

-- one step more of the present body
sum_more : (steps : List ℕ) → 0 < length steps → sum (one_more steps) ≡ sum steps + 1
sum_more [] some = absurd (omega (arith, some))
sum_more (k ∷ ks) some = omega (arith, sum_by-cons (λ (x : ℕ). x) k ks, sum_by-cons (λ (x : ℕ). x) (k + 1) ks)

length_more : (steps : List ℕ) → length (one_more steps) ≡ length steps
length_more [] = refl
length_more (k ∷ ks) = refl

module _ {Run : Type 0} (z : Sizes) where
  begins : (m : Meaning Run) (c : Cell) (p : ℕ) (q : Process Run) (x : Counts) → SumsBodies x.spent x.body_steps (to Next q) → SumsBodies (counts_after Next (has_more q) x).spent (counts_after Next (has_more q) x).body_steps (row Next m z c p (to Next q)).process
  begins m c p q x h =
      elim (has_more q) as (λ b. SumsBodies (counts_after Next b x).spent (counts_after Next b x).body_steps (cond b (record q { label = Post; begun = q.begun + 1; registers = record q.registers { i = 0 }; list = m.lay (call_at q q.begun) }) (to Next q))) [
        | true ↦ record { bodies = refl; inside = refl; present = λ e. absurd (cc) }
        | false ↦ h
      ]

  pub keeps_sums : (l : Label) (m : Meaning Run) (c : Cell) (p : ℕ) (q : Process Run) (x : Counts) → SumsBodies x.spent x.body_steps (to l q) → SumsBodies (counts_after l (has_more q) x).spent (counts_after l (has_more q) x).body_steps (row l m z c p (to l q)).process
  keeps_sums Next m c p q x h = begins m c p q x h
  keeps_sums Enter m c p q x h = record {
    bodies = omega (arith, h.bodies);
    inside = h.inside;
    present = λ e. omega arith;
  }
  keeps_sums Body m c p q x h =
      let some = h.present refl in
      record {
        bodies = omega (arith, h.bodies, length_more x.body_steps);
        inside = omega (arith, h.inside, sum_more x.body_steps some);
        present = λ e. omega (arith, some, length_more x.body_steps);
      }
  keeps_sums l m c p q x h = record {
    bodies = h.bodies;
    inside = h.inside;
    present = λ e. grind (arith, nat_tests, e);
  }
