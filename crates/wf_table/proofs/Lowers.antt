-- Each step outside a body leaves one step less to take, and a step of a body leaves no more.
use Rattle.std.proofs.Common.{◌≡◌, ℕ, ◌+◌, ◌<◌, ◌≤◌, true, false, cond, arith, refl}
use Rattle.std.proofs.lemmas.Bool.Decides.{nat_tests}
use Rattle.ll_cell.specs.Cell.{Cell}
use Rattle.wf_table.specs.declared.process.Label.{Label}
use Rattle.wf_table.specs.declared.process.Label.TheVariants.{Next, Post, Try, Seen, Body}
use Rattle.wf_table.specs.declared.process.Sizes.{Sizes}
use Rattle.wf_table.specs.declared.engine_turn.EngineTurn.{EngineTurn}
use Rattle.wf_table.specs.declared.engine_turn.EngineTurn.TheVariants.{On, Returned, Trapped, Stuck}
use Rattle.wf_table.specs.Meaning.{Meaning}
use Rattle.wf_table.specs.StepTable.{Process, call_at, row, to, after_body, body_turn}
use Rattle.wf_table.specs.Ranges.{IsSized, IsInRange}
use Rattle.wf_table.specs.Labels.{at_next, at_body}
use Rattle.wf_table.specs.declared.spent.Spent.{Spent}
use Rattle.wf_table.specs.Spent.{spent_after, has_more}
use Rattle.wf_table.specs.Left.{left_to}
use Rattle.wf_table.specs.Bound.{sharp}
use Rattle.wf_table.proofs.Sums.{serve_is, lap_is, serves_one, laps_one, laps_two, sharp_is}

module _ {Run : Type 0} (z : Sizes) where
  body_leaves : (t : EngineTurn) (q : Process Run) → left_to z (after_body z t (to Body q)) ≤ left_to z (to Body q)
  body_leaves On q = omega arith
  body_leaves Returned q = omega arith
  body_leaves (Trapped k) q = grind (arith, nat_tests)
  body_leaves Stuck q = omega arith

  pub inside_leaves : (m : Meaning Run) (c : Cell) (p : ℕ) (q : Process Run) → left_to z (row Body m z c p (to Body q)).process ≤ left_to z (to Body q)
  inside_leaves m c p q = body_leaves (body_turn m z c p (to Body q)).turn (record q { run = (body_turn m z c p (to Body q)).run })

  pub inside_leaves_at : (l : Label) (m : Meaning Run) (c : Cell) (p : ℕ) (q : Process Run) → l ≡ Body → left_to z (row l m z c p (to l q)).process ≤ left_to z (to l q)
  inside_leaves_at Body m c p q is = inside_leaves m c p q
  inside_leaves_at l m c p q is = absurd (cc)

  tries : (m : Meaning Run) (c : Cell) (p : ℕ) (q : Process Run) → q.registers.round ≤ 2 → left_to z (row Try m z c p (to Try q)).process < left_to z (to Try q)
  tries m c p q few = let one = laps_one z q.registers.round in grind (arith, nat_tests, few, one, lap_is z)

  sees : (m : Meaning Run) (c : Cell) (p : ℕ) (q : Process Run) → q.registers.j ≤ z.processes → left_to z (row Seen m z c p (to Seen q)).process < left_to z (to Seen q)
  sees m c p q few = let one = serves_one z q.registers.j in grind (arith, nat_tests, few, one, serve_is z)

  pub outside_lowers : (l : Label) (m : Meaning Run) (c : Cell) (p : ℕ) (q : Process Run) → IsSized z → IsInRange z (to l q) → at_next l ≡ false → at_body l ≡ false → left_to z (row l m z c p (to l q)).process < left_to z (to l q)
  outside_lowers Next m c p q sized range next body = absurd (cc)
  outside_lowers Try m c p q sized range next body = tries m c p q range.round
  outside_lowers Seen m c p q sized range next body = sees m c p q range.index
  outside_lowers Body m c p q sized range next body = absurd (cc)
  outside_lowers l m c p q sized range next body = grind (arith, nat_tests, range.index, sized.argument, serve_is z, lap_is z)

  begins : (m : Meaning Run) (c : Cell) (p : ℕ) (q : Process Run) (s : Spent) → s.outside ≤ sharp z → (spent_after Next (has_more q) s).outside + left_to z (row Next m z c p (to Next q)).process ≤ sharp z
  begins m c p q s h =
      elim (has_more q) as (λ b. (spent_after Next b s).outside + left_to z (cond b (record q { label = Post; begun = q.begun + 1; registers = record q.registers { i = 0 }; list = m.lay (call_at q q.begun) }) (to Next q)) ≤ sharp z) [
        | true ↦ omega (arith, sharp_is z, laps_two z)
        | false ↦ omega (arith, h)
      ]

  -- what is spent and what is left, together
  pub keeps_outside : (l : Label) (m : Meaning Run) (c : Cell) (p : ℕ) (q : Process Run) (s : Spent) → IsSized z → IsInRange z (to l q) → s.outside + left_to z (to l q) ≤ sharp z → (spent_after l (has_more q) s).outside + left_to z (row l m z c p (to l q)).process ≤ sharp z
  keeps_outside Next m c p q s sized range h = begins m c p q s (omega (arith, h))
  keeps_outside Body m c p q s sized range h = let less = inside_leaves m c p q in omega (arith, h, less)
  keeps_outside l m c p q s sized range h = let less = outside_lowers l m c p q sized range refl refl in omega (arith, h, less)
