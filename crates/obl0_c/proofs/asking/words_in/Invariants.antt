-- The words so far are those of the texts that were read.
use Rattle.std.proofs.Common.{◌≡◌, map, take}
use Rattle.obl0_c.proofs.asking.words_in.Given as goal

abbrev pub invariant-loop-text : goal.invariant-loop-text
invariant-loop-text l = map (λ word. word.now) l.words.items ≡ map (λ text. text.now) (take l.text-index l.texts)
