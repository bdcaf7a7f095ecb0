-- One mark more.
use Rattle.wf_outcomes.proofs.Meeting.{marked_more, marked_none}
use Rattle.wf_outcomes.proofs.meetings.reach.Goals as goal

pub loop-marks-init : goal.loop-marks-init
loop-marks-init c = marked_none c.args.marks.now.items c.args.place

pub loop-marks-preserved : goal.loop-marks-preserved
loop-marks-preserved c = marked_more c.args.marks.now.items c.loop-marks.marks.items c.args.place c.loop-marks.invariant c.push.new.self.items c.in_ok-push.ensures.items
