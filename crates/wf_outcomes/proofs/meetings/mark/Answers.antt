-- The row has the place now.
use Rattle.wf_outcomes.proofs.Meeting.{marked_set}
use Rattle.wf_outcomes.proofs.meetings.mark.Goals as goal

pub returns : goal.returns
returns c = marked_set c.args.marks.now.items c.reach.new.marks.items c.args.place c.in_ok-reach.ensures.marks c.args.row
