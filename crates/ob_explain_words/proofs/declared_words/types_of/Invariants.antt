-- The types of the names so far.
use Rattle.std.proofs.Common.{◌≡◌, [], take}
use Rattle.std.specs.List.{fold}
use Rattle.ob_explain_words.specs.Words.{with_type}
use Rattle.ob_explain_words.proofs.declared_words.types_of.Given as goal

abbrev pub invariant-loop-name : goal.invariant-loop-name
invariant-loop-name l = l.types.items ≡ fold (with_type l.text l.tokens l.known) [] (take l.name-index l.known)
