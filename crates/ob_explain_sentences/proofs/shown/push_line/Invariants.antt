-- The bytes so far.
use Rattle.std.proofs.Common.{◌≡◌, ◌++◌, map, take, string_bytes}
use Rattle.ob_explain_sentences.specs.Shown.{shown_byte}
use Rattle.ob_explain_sentences.proofs.shown.push_line.Given as goal

abbrev pub invariant-loop-byte : goal.invariant-loop-byte
invariant-loop-byte l = string_bytes l.shown ≡ string_bytes l.fn.shown ++ map shown_byte (take l.byte-index l.line)
