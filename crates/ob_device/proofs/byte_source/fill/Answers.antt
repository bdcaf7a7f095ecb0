use Rattle.std.proofs.Common.{arith}
use Rattle.ob_device.proofs.Bytes.{filled_more}
use Rattle.ob_device.proofs.byte_source.fill.Goals as goal

pub loop-count-preserved : goal.loop-count-preserved
loop-count-preserved g c =
    let read = c.in_ok-count.ensures in
    let before = c.loop-count.invariant in
    record {
      within = read.fits;
      read = filled_more _ _ _ c.loop-count.bytes.items c.read_behind.new.bytes.items c.loop-count.filled c.in_ok-count.count read.front before.read read.ok;
      counted = omega (arith, read.device, before.counted);
    }
