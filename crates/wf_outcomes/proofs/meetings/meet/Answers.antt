-- One process more, and the next configuration.
use Rattle.std.proofs.Common.{sym, subst, ◌+◌, arith}
use Rattle.wf_outcomes.specs.declared.meetings.Meetings.{Meetings}
use Rattle.wf_outcomes.proofs.Meeting.{IsMeeting, meeting_begun, meeting_old, meeting_new, meeting_done}
use Rattle.wf_outcomes.proofs.meetings.meet.Goals as goal
use Rattle.wf_outcomes.proofs.meetings.meet.Goals.{then-not-is_met+in_ok-note, else-not-is_met}

pub loop-process-init : goal.loop-process-init
loop-process-init g c =
    meeting_begun c.args.seen.now.keys c.args.place c.index-here.result.now c.index-here.ensures c.args.meetings.now.marks.items c.args.meetings.now.places.items c.requires.telling c.requires.marks

pub is_met-requires : goal.is_met-requires
is_met-requires g c = c.loop-process.invariant.marks_are

pub note-requires : goal.note-requires
note-requires g c = c.loop-process.invariant.marks_are

pub loop-process-preserved : goal.loop-process-preserved
loop-process-preserved g c =
    let found = c.args.seen.now.keys in
    let place = c.args.place in
    let here = c.index-here.result.now in
    let at = c.index-here.ensures in
    let process = c.loop-process.process in
    let meetings = c.loop-process.meetings in
    elim c.if-not-is_met.branch [
      | then-not-is_met+in_ok-note w ↦ subst (λ (m : Meetings). IsMeeting found place here m.marks.items m.places.items (process + 1)) (sym w.meetings-is)
          (meeting_new found place here at meetings.marks.items meetings.places.items process c.loop-process.invariant w.note.new.meetings.marks.items w.note.new.meetings.places.items w.in_ok-note.ensures.placed w.in_ok-note.ensures.marks)
      | else-not-is_met w ↦ subst (λ (m : Meetings). IsMeeting found place here m.marks.items m.places.items (process + 1)) (sym w.meetings-is)
          (meeting_old found place here at meetings.marks.items meetings.places.items process c.loop-process.invariant (c.is_met.ensures w.if-not-is_met.false))
    ]

pub returns-clause-telling : goal.returns-clause-telling
returns-clause-telling g c =
    let end = c.loop-process-test.false in
    let all = c.len-process-end.ensures in
    meeting_done c.args.seen.now.keys c.args.place c.index-here.result.now c.index-here.ensures c.loop-process.meetings.marks.items c.loop-process.meetings.places.items c.loop-process.process c.loop-process.invariant (omega (arith, end, all))

pub returns-clause-marks : goal.returns-clause-marks
returns-clause-marks g c = c.loop-process.invariant.marks_are
