-- The runs of steps so far.
use Rattle.std.proofs.Common.{◌≡◌, ◌++◌, codes, take, string_bytes}
use Rattle.std.specs.List.{flat_map}
use Rattle.ob_text_record.specs.RecordText.{turns_text}
use Rattle.ob_text_record.proofs.schedule_line.push_schedule.Given as goal

abbrev pub invariant-loop-turns : goal.invariant-loop-turns
invariant-loop-turns l =
    string_bytes l.text ≡ string_bytes l.fn.text ++ (codes "S" ++ flat_map turns_text (take l.turns-index l.schedule))
