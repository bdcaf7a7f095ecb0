-- What is left of the tokens says whether they are such a list.
use Rattle.std.proofs.Common.{◌↔◌, length}
use Rattle.ob_explain_words.specs.Declaring.{IsListed}
use Rattle.ob_explain_words.proofs.declaring.is_listed.Given as goal

abbrev pub invariant-loop-tokens : goal.invariant-loop-tokens
invariant-loop-tokens l = IsListed l.tokens ↔ IsListed l.initial.tokens

abbrev pub decreases-loop-tokens : goal.decreases-loop-tokens
decreases-loop-tokens l = length l.tokens
