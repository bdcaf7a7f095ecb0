-- The lines so far.
use Rattle.std.proofs.Common.{◌≡◌, ◌++◌, string_bytes}
use Rattle.ob_text_record.specs.StateText.{over_each, own_line}
use Rattle.ob_text_record.proofs.block_lines.push_own_blocks.Given as goal

abbrev pub invariant-loop-p : goal.invariant-loop-p
invariant-loop-p l = string_bytes l.text ≡ string_bytes l.fn.text ++ over_each (own_line l.z l.shared.cell) l.p
