-- Runs stay ready for the engine.
use Rattle.std.proofs.Common.{◌≡◌, ℕ, List, length, refl, sym, subst, take, arith}
use Rattle.std.specs.Prelude.{ℤ}
use Rattle.std.proofs.lemmas.Bool.Decides.{nat_tests}
use Rattle.ll_cell.specs.Cell.{Cell}
use Rattle.ob_interface.specs.Call.{ObjectCall}
use Rattle.wf_table.specs.declared.engine_turn.EngineTurn.{EngineTurn}
use Rattle.wf_table.specs.declared.engine_turn.EngineTurn.TheVariants.{On, Returned, Trapped, Stuck}
use Rattle.wf_table.specs.declared.process.Label.{Label}
use Rattle.wf_table.specs.declared.process.Label.TheVariants.{Enter, Body}
use Rattle.wf_table.specs.declared.process.Sizes.{Sizes}
use Rattle.wf_table.specs.Meaning.{Meaning}
use Rattle.wf_table.specs.Law.{Effects, IsLawful}
use Rattle.wf_table.specs.StepTable.{Process, after_body, body_turn, own_block, row}

body_run : {Run : Type 0} (z : Sizes) (t : EngineTurn) (q : Process Run) → (after_body z t q).run ≡ q.run
body_run z On q = refl
body_run z Returned q = refl
body_run z (Trapped k) q = refl
body_run z Stuck q = refl

module _ {Run : Type 0} (m : Meaning Run) (lawful : List ℤ → Type 0) (fits : ObjectCall → Type 0) (ready : Run → Type 0) (Effect : Effects) (law : IsLawful m lawful fits ready Effect) where
  pub keeps_ready : (l : Label) (z : Sizes) (c : Cell) (p : ℕ) (q : Process Run) → length q.list ≡ m.arguments → length (take z.variables (own_block c p)) ≡ m.variables → ready q.run → ready (row l m z c p q).process.run
  keeps_ready Enter z c p q list block h = law.start_ready q.list list
  keeps_ready Body z c p q list block h = subst ready (sym (body_run z (body_turn m z c p q).turn (record q { run = (body_turn m z c p q).run }))) (law.step_ready q.run (take z.variables (own_block c p)) h block)
  keeps_ready l z c p q list block h = let same : (row l m z c p q).process.run ≡ q.run = grind (arith, nat_tests) in subst ready (sym same) h
