-- What is pushed, and what is left to push.
use Rattle.std.proofs.Common.{◌≡◌, ◌++◌, drop, string_bytes}
use Rattle.ob_explain_sentences.specs.Groups.{further}
use Rattle.ob_explain_sentences.proofs.phrases.push_further.Given as goal

abbrev pub invariant-loop-index : goal.invariant-loop-index
invariant-loop-index l = string_bytes l.sentence ++ further (drop l.index l.phrases) ≡ string_bytes l.fn.sentence ++ further l.phrases
