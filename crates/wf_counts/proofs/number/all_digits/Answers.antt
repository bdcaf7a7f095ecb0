-- One digit more.
use Rattle.std.proofs.Common.{arith}
use Rattle.wf_counts.specs.Digits.{digits}
use Rattle.wf_counts.proofs.Digits.{digits_more}
use Rattle.wf_counts.proofs.number.all_digits.Goals as goal

pub loop-preserved : goal.loop-preserved
loop-preserved c =
    let within = c.loop-test.true in
    record {
      some = omega (arith, within);
      digits = digits_more c.loop.each.items c.push.new.self.items c.args.many c.loop.counter c.loop.rest (digits c.args.many c.args.number) (omega (arith, within)) c.loop.invariant.digits c.in_ok-push.ensures.items;
    }
