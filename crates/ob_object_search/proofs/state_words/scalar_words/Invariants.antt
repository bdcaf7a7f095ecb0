use Rattle.std.proofs.Common.{◌≡◌, map, take}
use Rattle.ob_code_calls.specs.Scalars.{held_of}
use Rattle.ob_object_search.specs.Words.{words_of}
use Rattle.ob_object_search.proofs.state_words.scalar_words.Given as goal

-- the words of the scalars so far are added
abbrev pub invariant-loop-scalar : goal.invariant-loop-scalar
invariant-loop-scalar l = l.words.items ≡ words_of (map held_of (take l.scalar-index l.scalars))
