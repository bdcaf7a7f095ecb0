-- The places so far tell of all configurations before this one.
use Rattle.wf_outcomes.specs.Meetings.{AreMarks, AreTelling}
use Rattle.wf_outcomes.proofs.meetings.telling_places.Given as goal

abbrev pub invariant-loop-place : goal.invariant-loop-place
invariant-loop-place g l = record {
  telling : AreTelling l.seen.keys l.meetings.places.items l.place;
  marks : AreMarks l.meetings.marks.items l.meetings.places.items;
}
