-- What the first file of the name holds is that of the first one that is left.
use Rattle.std.proofs.Common.{◌≡◌, ◌+◌, ◌*◌, map, length}
use Rattle.ob_answer_files.specs.Files.{bytes_named}
use Rattle.ob_answer_files.proofs.handed_files.bytes_named.Given as goal

abbrev pub invariant-loop-place : goal.invariant-loop-place
invariant-loop-place l = record {
  found : bytes_named l.name (map (λ text. text.now) l.rest) ≡ bytes_named l.name (map (λ text. text.now) l.fn.texts);
  left : 2 * l.place + length l.rest ≡ length l.fn.texts;
}
