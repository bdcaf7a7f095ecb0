use Rattle.std.proofs.Common.{◌∙◌, ap, length, refl, arith}
use Rattle.ob_text_values_reading.specs.RecordTexts.{lines_behind}
use Rattle.ob_text_reading.proofs.Faults.{begin_below, end_below}
use Rattle.ob_text_reading.proofs.RecordPlaces.{all_read, applied_more, event_more, no_line, none_read, number_within, one_line_more, order_fails, order_told, read_same}
use Rattle.ob_text_reading.proofs.record_reading.read_events.Goals as goal

pub loop-left-init : goal.loop-left-init
loop-left-init c = record { read = none_read _ _ _ _ _ c.requires.none; processes = refl }

pub begin-requires-clause-below : goal.begin-requires-clause-below
begin-requires-clause-below c = begin_below (rw (c.in-Some-3.is, c.in-Begin.is) at c.in_ok-said.ensures)

pub end-requires-clause-below : goal.end-requires-clause-below
end-requires-clause-below c = end_below (rw (c.in-Some-3.is, c.in-End.is) at c.in_ok-said.ensures)

pub overflow_add-number : goal.overflow_add-number
overflow_add-number c =
    let taken = rw c.in-Some-2.is at c.in_ok-behind.ensures.taken in
    let here = number_within _ _ _ _ _ _ _ c.loop-left.invariant.read in
    let one_less = ap length (ap lines_behind c.in-Some.is ∙ taken.parts) in
    omega (arith, here, one_less, c.requires.few)

pub overflow_add-number-in-Some : goal.overflow_add-number-in-Some
overflow_add-number-in-Some c =
    let here = number_within _ _ _ _ _ _ _ c.loop-left.invariant.read in
    let one_less = ap length (ap lines_behind c.in-Some.is ∙ c.split_line.ensures) in
    omega (arith, here, one_less, c.requires.few)

pub loop-left-smaller-in-Some-2 : goal.loop-left-smaller-in-Some-2
loop-left-smaller-in-Some-2 c =
    let taken = rw c.in-Some-2.is at c.in_ok-behind.ensures.taken in
    let one_less = ap length (ap lines_behind c.in-Some.is ∙ taken.parts) in
    omega (arith, one_less)

pub loop-left-smaller : goal.loop-left-smaller
loop-left-smaller c =
    let one_less = ap length (ap lines_behind c.in-Some.is ∙ c.split_line.ensures) in
    omega (arith, one_less)

pub returns-in_default-3-clause-fault : goal.returns-in_default-3-clause-fault
returns-in_default-3-clause-fault c =
    let read = read_same _ _ _ _ _ _ _ _ c.loop-left.invariant.read (rw c.in_default-2.is at c.in_ok-behind.ensures.taken) in
    no_line _ _ _ _ _ _ _ _ _ read (ap lines_behind c.in-Some.is ∙ c.split_line.ensures)
    (rw (c.in_ok-behind.ensures.processes, c.loop-left.invariant.processes, c.in_default-3.is) at c.in_ok-said.ensures)

pub returns-in-Some-first_other-clause-fault : goal.returns-in-Some-first_other-clause-fault
returns-in-Some-first_other-clause-fault c =
    let read = read_same _ _ _ _ _ _ _ _ c.loop-left.invariant.read (rw c.in_default-2.is at c.in_ok-behind.ensures.taken) in
    order_fails _ _ _ _ _ _ _ _ _ read (ap lines_behind c.in-Some.is ∙ c.split_line.ensures)
    _ _ (rw (c.in_ok-behind.ensures.processes, c.loop-left.invariant.processes, c.in-Some-3.is, c.in-Order.is) at c.in_ok-said.ensures) (rw c.in-Some-first_other.is at c.first_other.ensures.place)

pub returns-in-None-clause-record : goal.returns-in-None-clause-record
returns-in-None-clause-record c =
    let read = read_same _ _ _ _ _ _ _ _ c.loop-left.invariant.read (rw c.in_default-2.is at c.in_ok-behind.ensures.taken) in
    order_told _ _ _ _ _ _ _ _ _ read (ap lines_behind c.in-Some.is ∙ c.split_line.ensures)
    _ (rw (c.in_ok-behind.ensures.processes, c.loop-left.invariant.processes, c.in-Some-3.is, c.in-Order.is) at c.in_ok-said.ensures) (rw c.in-None.is at c.first_other.ensures.place)

pub loop-left-preserved-in-Some-2 : goal.loop-left-preserved-in-Some-2
loop-left-preserved-in-Some-2 c =
    let taken = rw (c.loop-left.invariant.processes, c.in-Some-2.is) at c.in_ok-behind.ensures.taken in
    record {
      read = one_line_more _ _ _ _ _ _ _ _ _ c.loop-left.invariant.read (ap lines_behind c.in-Some.is ∙ taken.parts) taken.leads;
      processes = c.in_ok-behind.ensures.processes ∙ c.loop-left.invariant.processes;
    }

pub loop-left-preserved-in_ok-begin-in-Begin : goal.loop-left-preserved-in_ok-begin-in-Begin
loop-left-preserved-in_ok-begin-in-Begin c =
    let read = read_same _ _ _ _ _ _ _ _ c.loop-left.invariant.read (rw c.in_default-2.is at c.in_ok-behind.ensures.taken) in
    rw (c.in_ok-begin-in-Begin.ensures.ok, c.in_ok-begin-in-Begin.ensures.processes)
    (record {
      read = event_more _ _ _ _ _ _ _ _ _ read (ap lines_behind c.in-Some.is ∙ c.split_line.ensures)
          (rw (c.in_ok-behind.ensures.processes, c.loop-left.invariant.processes, c.in-Some-3.is, c.in-Begin.is) at c.in_ok-said.ensures);
      processes = c.in_ok-behind.ensures.processes ∙ c.loop-left.invariant.processes;
    })

pub loop-left-preserved-in_ok-end-in-End : goal.loop-left-preserved-in_ok-end-in-End
loop-left-preserved-in_ok-end-in-End c =
    let read = read_same _ _ _ _ _ _ _ _ c.loop-left.invariant.read (rw c.in_default-2.is at c.in_ok-behind.ensures.taken) in
    rw (c.in_ok-end-in-End.ensures.ok, c.in_ok-end-in-End.ensures.processes)
    (record {
      read = event_more _ _ _ _ _ _ _ _ _ read (ap lines_behind c.in-Some.is ∙ c.split_line.ensures)
          (rw (c.in_ok-behind.ensures.processes, c.loop-left.invariant.processes, c.in-Some-3.is, c.in-End.is) at c.in_ok-said.ensures);
      processes = c.in_ok-behind.ensures.processes ∙ c.loop-left.invariant.processes;
    })

pub loop-left-preserved : goal.loop-left-preserved
loop-left-preserved c =
    let read = read_same _ _ _ _ _ _ _ _ c.loop-left.invariant.read (rw c.in_default-2.is at c.in_ok-behind.ensures.taken) in
    record {
      read = applied_more _ _ _ _ _ _ _ _ _ read (ap lines_behind c.in-Some.is ∙ c.split_line.ensures)
          (rw (c.in_ok-behind.ensures.processes, c.loop-left.invariant.processes, c.in-Some-3.is, c.in-Applied.is) at c.in_ok-said.ensures);
      processes = c.in_ok-behind.ensures.processes ∙ c.loop-left.invariant.processes;
    }

pub returns-clause-fault : goal.returns-clause-fault
returns-clause-fault c = all_read _ _ _ _ _ _ _ c.loop-left.invariant.read (ap lines_behind c.in_default.is)
