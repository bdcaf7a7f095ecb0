-- A call begins no more bodies than its place allows.
use Rattle.std.proofs.Common.{ℕ, ◌+◌, ◌*◌, ◌≤◌, true, false, cond, arith}
use Rattle.std.proofs.lemmas.Bool.Decides.{nat_tests}
use Rattle.ll_cell.specs.Cell.{Cell}
use Rattle.wf_table.specs.declared.process.Label.{Label}
use Rattle.wf_table.specs.declared.process.Label.TheVariants.{Next, Post, Body}
use Rattle.wf_table.specs.declared.process.Sizes.{Sizes}
use Rattle.wf_table.specs.declared.engine_turn.EngineTurn.{EngineTurn}
use Rattle.wf_table.specs.declared.engine_turn.EngineTurn.TheVariants.{On, Returned, Trapped, Stuck}
use Rattle.wf_table.specs.Meaning.{Meaning}
use Rattle.wf_table.specs.StepTable.{Process, call_at, row, to, after_body, body_turn}
use Rattle.wf_table.specs.Ranges.{IsInRange}
use Rattle.wf_table.specs.declared.spent.Spent.{Spent}
use Rattle.wf_table.specs.Spent.{spent_after, has_more}
use Rattle.wf_table.specs.Bound.{allowed_to, bodies_in}
use Rattle.wf_table.proofs.Sums.{bodies_one, bodies_none, bodies_two, bodies_few}

module _ {Run : Type 0} (z : Sizes) where
  body_allows : (t : EngineTurn) (q : Process Run) → allowed_to z (to Body q) ≤ allowed_to z (after_body z t (to Body q))
  body_allows On q = omega arith
  body_allows Returned q = omega arith
  body_allows (Trapped k) q = grind (arith, nat_tests)
  body_allows Stuck q = omega arith

  begins : (m : Meaning Run) (c : Cell) (p : ℕ) (q : Process Run) (s : Spent) → s.bodies ≤ bodies_in z 2 → (spent_after Next (has_more q) s).bodies ≤ allowed_to z (row Next m z c p (to Next q)).process
  begins m c p q s h = elim (has_more q) as (λ b. (spent_after Next b s).bodies ≤ allowed_to z (cond b (record q { label = Post; begun = q.begun + 1; registers = record q.registers { i = 0 }; list = m.lay (call_at q q.begun) }) (to Next q))) [
    | true ↦ omega arith
    | false ↦ omega (arith, h)
  ]

  pub keeps_bodies : (l : Label) (m : Meaning Run) (c : Cell) (p : ℕ) (q : Process Run) (s : Spent) → IsInRange z (to l q) → s.bodies ≤ allowed_to z (to l q) → (spent_after l (has_more q) s).bodies ≤ allowed_to z (row l m z c p (to l q)).process
  keeps_bodies Next m c p q s range h = begins m c p q s (omega (arith, h))
  keeps_bodies Body m c p q s range h = omega (arith, h, body_allows (body_turn m z c p (to Body q)).turn (record q { run = (body_turn m z c p (to Body q)).run }))
  keeps_bodies l m c p q s range h = grind (arith, nat_tests, range.index, range.tried, range.round, bodies_one z q.registers.round, bodies_few z q.registers.round, bodies_none z)

  -- wherever the process stands
  pub few_bodies : (l : Label) (q : Process Run) → IsInRange z (to l q) → allowed_to z (to l q) ≤ 2 * z.processes
  few_bodies Next q range = omega (arith, bodies_two z)
  few_bodies l q range = grind (arith, range.index, range.tried, range.round, bodies_one z q.registers.round, bodies_few z q.registers.round, bodies_two z)
