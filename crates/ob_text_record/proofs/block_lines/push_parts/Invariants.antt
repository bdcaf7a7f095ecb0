-- The parts so far.
use Rattle.std.proofs.Common.{◌≡◌, ◌++◌, string_bytes}
use Rattle.ll_cell.specs.Cell.{block_of}
use Rattle.ob_text_record.specs.StateText.{over_each, part_text}
use Rattle.ob_text_record.proofs.block_lines.push_parts.Given as goal

abbrev pub invariant-loop-q : goal.invariant-loop-q
invariant-loop-q l = string_bytes l.text ≡ string_bytes l.fn.text ++ over_each (part_text l.z (block_of l.shared.cell l.block)) l.q
