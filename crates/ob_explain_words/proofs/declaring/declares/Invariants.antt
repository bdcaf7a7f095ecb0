-- What is left of the tokens says whether one declares the word.
use Rattle.std.proofs.Common.{length}
use Rattle.ob_explain_words.proofs.Declared.{Left}
use Rattle.ob_explain_words.proofs.declaring.declares.Given as goal

abbrev pub invariant-loop-tokens : goal.invariant-loop-tokens
invariant-loop-tokens l = Left l.text l.word l.last l.equations l.initial.tokens l.tokens

abbrev pub decreases-loop-tokens : goal.decreases-loop-tokens
decreases-loop-tokens l = length l.tokens
