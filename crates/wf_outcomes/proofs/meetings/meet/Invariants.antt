-- The processes before this one are met.
use Rattle.wf_outcomes.proofs.Meeting.{IsMeeting}
use Rattle.wf_outcomes.proofs.meetings.meet.Given as goal

abbrev pub invariant-loop-process : goal.invariant-loop-process
invariant-loop-process g l = IsMeeting l.seen.keys l.place l.here l.meetings.marks.items l.meetings.places.items l.process
