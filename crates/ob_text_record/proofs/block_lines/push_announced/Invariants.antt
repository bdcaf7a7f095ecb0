-- The words so far.
use Rattle.std.proofs.Common.{◌+◌, ◌≡◌, ◌++◌, string_bytes}
use Rattle.ll_cell.specs.Cell.{announcement_of, word_at}
use Rattle.ob_text_record.specs.StateText.{over_each, word_text}
use Rattle.ob_text_record.proofs.block_lines.push_announced.Given as goal

abbrev pub invariant-loop-i : goal.invariant-loop-i
invariant-loop-i l = string_bytes l.text ≡ string_bytes l.fn.text ++ over_each (λ k. word_text (word_at (announcement_of l.shared.cell l.p) (l.first + k))) l.i
