-- The place through the mendings so far.
use Rattle.std.proofs.Common.{◌≡◌, take}
use Rattle.std.specs.List.{fold}
use Rattle.ob_mendings.specs.Mendings.{origin}
use Rattle.ob_mendings.proofs.origin.origin_in.Given as goal

abbrev pub invariant-loop-moved : goal.invariant-loop-moved
invariant-loop-moved l = l.place ≡ fold (λ place m. origin m place) l.at (take l.moved-index l.moves)
