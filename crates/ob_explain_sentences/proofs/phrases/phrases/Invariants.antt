-- What is told, and what is left to tell.
use Rattle.std.proofs.Common.{◌≡◌, ◌++◌, drop}
use Rattle.ob_explain_sentences.specs.Groups.{groups, phrases}
use Rattle.ob_explain_sentences.proofs.phrases.phrases.Given as goal

abbrev pub invariant-loop-group : goal.invariant-loop-group
invariant-loop-group l = l.told.items ++ phrases (drop l.group-index groups) l.left.items ≡ phrases groups l.fn.kinds.items
