use Rattle.std.proofs.Common.{◌≡◌, length, map}
use Rattle.ob_explain_sentences.specs.Rows.{has_word}
use Rattle.ob_explain_sentences.proofs.matcher.has_word.Given as goal

abbrev pub invariant-loop-words : goal.invariant-loop-words
invariant-loop-words l = has_word l.view (map (λ w. w.now) l.words) ≡ has_word l.view (map (λ w. w.now) l.initial.words)

abbrev pub decreases-loop-words : goal.decreases-loop-words
decreases-loop-words l = length l.words
