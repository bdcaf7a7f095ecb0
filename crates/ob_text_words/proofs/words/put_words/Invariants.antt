-- The words so far, with those of what is left from the start of the word that is being read.
use Rattle.std.proofs.Common.{◌≡◌, ◌≤◌, ◌++◌, drop, map}
use Rattle.ob_text_words.specs.Words.{words}
use Rattle.ob_text_words.proofs.LineWords.{HasNoBlank, stretch}
use Rattle.ob_text_words.proofs.words.put_words.Given as goal

abbrev pub invariant-loop-index : goal.invariant-loop-index
invariant-loop-index l = record {
  started : l.start ≤ l.index;
  unbroken : HasNoBlank (stretch l.line l.start l.index);
  said : map (λ w. w.now) l.list.items ++ words (drop l.start l.line) ≡ words l.line;
}
