use Rattle.std.proofs.Common.{arith, ◌≡◌, ℕ, ◌+◌, ◌∷◌, [], ◌++◌, zero, suc}
use Rattle.std.proofs.lemmas.Grind.{common_steps}
use Rattle.std.specs.List.{range_with_len}
use Rattle.ll_cell.proofs.shared.numbers.Goals as goal

more : (a n : ℕ) → range_with_len a (n + 1) ≡ range_with_len a n ++ (a + n) ∷ []
more a zero = grind (arith)
more a (suc n) = grind (arith, more (a + 1) n)

pub loop-p-preserved : goal.loop-p-preserved
loop-p-preserved c = grind (arith, common_steps, more 1 c.loop-p.p)
