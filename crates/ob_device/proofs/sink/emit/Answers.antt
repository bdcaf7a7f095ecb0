use Rattle.std.proofs.Common.{◌++◌, ◌<◌, length, take, arith, rules}
use Rattle.ob_device.proofs.Bytes.{appended_more, on_err, moved_front, part_written}
use Rattle.ob_device.proofs.sink.emit.Goals as goal

pub loop-rest-preserved : goal.loop-rest-preserved
loop-rest-preserved g c =
    let before = c.loop-rest.invariant in
    let rest = c.loop-rest.rest.now in
    let count = c.in_ok-count.count in
    record {
      done = before.done ++ take count rest;
      whole = moved_front _ before.done rest count before.whole;
      written = appended_more _ _ _ _ _ before.written c.in_ok-count.ensures.bytes;
      counted = omega (arith, before.counted, c.in_ok-count.ensures.device);
    }

pub returns-in_err-count-clause-beginning : goal.returns-in_err-count-clause-beginning
returns-in_err-count-clause-beginning g c =
    let before = c.loop-rest.invariant in
    let rest = c.loop-rest.rest.now in
    let some : 0 < length rest = search rules in
    let part = part_written _ _ _ c.args.text.now before.done rest before.whole some before.written c.in_err-count.ensures.bytes in
    on_err c.from_residual.result part
