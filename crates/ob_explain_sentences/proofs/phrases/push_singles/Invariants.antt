-- The kinds so far.
use Rattle.std.proofs.Common.{◌≡◌, ◌++◌, map, take}
use Rattle.ob_explain_sentences.specs.declared.groups.Phrase.TheVariants.{Single}
use Rattle.ob_explain_sentences.proofs.phrases.push_singles.Given as goal

abbrev pub invariant-loop-kind : goal.invariant-loop-kind
invariant-loop-kind l = l.told.items ≡ l.fn.told.items ++ map Single (take l.kind-index l.kinds)
