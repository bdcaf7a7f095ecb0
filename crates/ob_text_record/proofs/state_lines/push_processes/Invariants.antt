-- The lines so far.
use Rattle.std.proofs.Common.{◌≡◌, ◌++◌, string_bytes}
use Rattle.ob_text_record.specs.StateText.{over_each, process_at}
use Rattle.ob_text_record.proofs.state_lines.push_processes.Given as goal

abbrev pub invariant-loop-p : goal.invariant-loop-p
invariant-loop-p g l = string_bytes l.text ≡ string_bytes l.fn.text ++ over_each (process_at l.machine.state) l.p
