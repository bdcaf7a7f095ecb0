-- The place behind the bytes so far.
use Rattle.std.proofs.Common.{◌≡◌, ◌≤◌, ◌+◌, take}
use Rattle.std.specs.List.{fold}
use Rattle.ob_explain_sentences.specs.Places.{behind_byte}
use Rattle.ob_explain_sentences.proofs.place.place_in.Given as goal

abbrev pub invariant-loop-byte : goal.invariant-loop-byte
invariant-loop-byte l =
    record {
      place : l.place ≡ fold behind_byte (record { line = 1; column = 1 }) (take l.byte-index l.byte-items);
      line : l.place.line ≤ l.byte-index + 1;
      first : 1 ≤ l.place.column;
      column : l.place.column ≤ l.byte-index + 1;
    }
