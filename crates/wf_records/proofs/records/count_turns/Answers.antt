use Rattle.std.proofs.Common.{◌-◌, length, get_or, sym, arith}
use Rattle.std.proofs.lemmas.Option.{slice_get-get_or}
use Rattle.wf_table.specs.declared.schedule.Turns.{Turns}
use Rattle.wf_records.proofs.Counting.{counted_elsewhere, counted_first, counted_in_room}
use Rattle.wf_records.proofs.records.count_turns.Goals as goal
use Rattle.wf_records.proofs.records.count_turns.Goals.{else-n-gt0-via-then-n-gt0+else-schedule-n, else-n-gt0-via-else-n-gt0}

pub returns-then-schedule-n : goal.returns-then-schedule-n
returns-then-schedule-n c =
    let ts = c.args.schedule.now in
    let none : Turns = record { process = 0; count = 0 } in
    sym (counted_in_room ts c.args.p (get_or ts (length ts - 1) none) (slice_get-get_or ts (length ts - 1) none (omega arith)) c.if-schedule-n.true c.args.count c.requires)

pub returns-else-n-gt0 : goal.returns-else-n-gt0
returns-else-n-gt0 c =
    let ts = c.args.schedule.now in
    elim c.else-n-gt0.branch [
      | else-n-gt0-via-then-n-gt0+else-schedule-n w ↦ counted_elsewhere ts c.args.p c.args.count (record { process = 0; count = 0 }) w.if-schedule-n.false c.requires
      | else-n-gt0-via-else-n-gt0 w ↦ counted_first ts c.args.p c.args.count w.if-n-gt0.false c.requires
    ]
