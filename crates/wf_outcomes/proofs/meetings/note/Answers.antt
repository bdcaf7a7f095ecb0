-- The place is there before it is marked.
use Rattle.wf_outcomes.proofs.Meeting.{still_marks}
use Rattle.wf_outcomes.proofs.meetings.note.Goals as goal

pub returns-clause-marks : goal.returns-clause-marks
returns-clause-marks c =
    still_marks c.args.meetings.now.marks.items c.mark.new.marks.items c.args.meetings.now.places.items c.add_place.new.places.items c.args.place c.requires c.in_ok-add_place.ensures c.in_ok-mark.ensures
