-- What is put, and a blank for each turn so far.
use Rattle.std.proofs.Common.{◌≡◌, ◌++◌, replicate}
use Rattle.ob_mendings.proofs.mending.filled_up.Given as goal

abbrev pub invariant-loop-at : goal.invariant-loop-at
invariant-loop-at l = l.whole.items ≡ l.put ++ replicate l._at 32
