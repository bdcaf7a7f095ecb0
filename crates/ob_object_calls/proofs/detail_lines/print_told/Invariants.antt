-- The lines so far, and a count of each process's calls and of all.
use Rattle.std.proofs.Common.{◌≡◌, length, map, string_bytes}
use Rattle.ob_interface.specs.View.{reply_of}
use Rattle.ob_object_calls.specs.DetailLines.{told_line}
use Rattle.ob_object_calls.proofs.Printing.{HasPrinted}
use Rattle.ob_object_calls.proofs.detail_lines.print_told.Given as goal

abbrev pub invariant-loop-caller : goal.invariant-loop-caller
invariant-loop-caller l =
    record {
      printed : HasPrinted (told_line l.beside.turns.now (map string_bytes l.beside.changes.now)) l.processes l.callers (map reply_of l.replies) (length l.yielded)
          (string_bytes l.text) l.made.items;
      place : l.place ≡ length l.yielded;
    }
