-- What of the text is told so far, and what is left.
use Rattle.std.proofs.Common.{◌≡◌, ◌++◌, drop, true}
use Rattle.ob_object_live.specs.Living.{remarked}
use Rattle.ob_object_live.proofs.live_record.remarked.Given as goal

abbrev pub invariant-loop-byte : goal.invariant-loop-byte
invariant-loop-byte l = l.bytes.items ++ remarked l.starts (drop l.byte-index l.text) ≡ remarked true l.text
