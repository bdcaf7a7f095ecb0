-- None so far, and one more.
use Rattle.std.proofs.Common.{arith}
use Rattle.wf_outcomes.proofs.Meeting.{no_marks, nothing_told, told_all}
use Rattle.wf_outcomes.proofs.meetings.telling_places.Goals as goal

pub loop-place-init : goal.loop-place-init
loop-place-init g c = record {
  telling = nothing_told c.args.seen.now.keys c.new-places.result.items c.new-places.ensures.items;
  marks = no_marks c.new-marks.result.items c.new-places.result.items c.new-marks.ensures.items;
}

pub returns : goal.returns
returns g c =
    let end = c.loop-place-test.false in
    let all = c.len-place-end.ensures.len in
    told_all c.args.seen.now.keys c.loop-place.meetings.places.items c.loop-place.place c.loop-place.invariant.telling (omega (arith, end, all))
