-- The texts so far and what is left are all bytes.
use Rattle.std.proofs.Common.{◌≡◌, ◌++◌, length, map, take}
use Rattle.std.specs.List.{concat}
use Rattle.ob_answer_files.proofs.joined_texts.texts_in.Given as goal

abbrev pub invariant-loop-length : goal.invariant-loop-length
invariant-loop-length l = record {
  joined : concat (map (λ text. text.now) l.texts.items) ++ l.rest ≡ l.fn.joined.bytes.now;
  lengths : map length (map (λ text. text.now) l.texts.items) ≡ take l.length-index l.fn.joined.lengths.now;
}
