-- What each row leaves as it is in the record of its process.
use Rattle.std.proofs.Common.{◌≡◌, ℕ, false, refl, arith}
use Rattle.std.proofs.lemmas.Bool.Decides.{nat_tests}
use Rattle.ll_cell.specs.Cell.{Cell}
use Rattle.wf_table.specs.declared.engine_turn.EngineTurn.{EngineTurn}
use Rattle.wf_table.specs.declared.engine_turn.EngineTurn.TheVariants.{On, Returned, Trapped, Stuck}
use Rattle.wf_table.specs.declared.process.Label.{Label}
use Rattle.wf_table.specs.declared.process.Label.TheVariants.{Next, Body}
use Rattle.wf_table.specs.declared.process.Sizes.{Sizes}
use Rattle.wf_table.specs.Meaning.{Meaning}
use Rattle.wf_table.specs.StepTable.{Process, after_body, body_turn, row}
use Rattle.wf_table.specs.Labels.{at_next}

module _ {Run : Type 0} where
  body_calls : (z : Sizes) (t : EngineTurn) (q : Process Run) → (after_body z t q).calls ≡ q.calls
  body_calls z On q = refl
  body_calls z Returned q = refl
  body_calls z (Trapped k) q = refl
  body_calls z Stuck q = refl

  pub same_calls : (l : Label) (m : Meaning Run) (z : Sizes) (c : Cell) (p : ℕ) (q : Process Run) → (row l m z c p q).process.calls ≡ q.calls
  same_calls Body m z c p q = body_calls z (body_turn m z c p q).turn _
  same_calls l m z c p q = grind (arith, nat_tests)

  body_begun : (z : Sizes) (t : EngineTurn) (q : Process Run) → (after_body z t q).begun ≡ q.begun
  body_begun z On q = refl
  body_begun z Returned q = refl
  body_begun z (Trapped k) q = refl
  body_begun z Stuck q = refl

  pub same_begun : (l : Label) (m : Meaning Run) (z : Sizes) (c : Cell) (p : ℕ) (q : Process Run) → at_next l ≡ false → (row l m z c p q).process.begun ≡ q.begun
  same_begun Next m z c p q h = absurd (cc)
  same_begun Body m z c p q h = body_begun z (body_turn m z c p q).turn _
  same_begun l m z c p q h = grind (arith, nat_tests)
