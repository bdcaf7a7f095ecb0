use Rattle.std.proofs.Common.{◌≡◌, ◌++◌, drop, map}
use Rattle.ob_typing.specs.Arithmetic.{Gives, ◌>>=◌}
use Rattle.ob_checked.specs.View.{actual_of}
use Rattle.ob_meaning.specs.ByPositionEvaluation as Evaluation
use Rattle.ob_store.specs.View.{store_in, activation_in}
use Rattle.ob_mean.proofs.places.all_handed.Given as goal

-- what the actuals that are left hand over, behind what is handed over so far, is what all hand over
abbrev pub invariant-loop-actual : goal.invariant-loop-actual
invariant-loop-actual l =
    ◌>>=◌ (Evaluation.all_handed (store_in l.store) (map actual_of (drop l.actual-index l.actuals))) (λ rest. Gives (activation_in l.all ++ rest))
    ≡ Evaluation.all_handed (store_in l.store) (map actual_of l.actuals)
