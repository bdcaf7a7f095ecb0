-- The bytes so far.
use Rattle.std.proofs.Common.{◌≡◌, ◌++◌, map, take, string_bytes}
use Rattle.ob_explain_sentences.specs.Shown.{blank_below}
use Rattle.ob_explain_sentences.proofs.shown.push_blanks.Given as goal

abbrev pub invariant-loop-byte : goal.invariant-loop-byte
invariant-loop-byte l = string_bytes l.shown ≡ string_bytes l.fn.shown ++ map blank_below (take l.byte-index l.line)
