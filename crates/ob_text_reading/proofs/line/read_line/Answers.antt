use Rattle.std.proofs.Common.{◌≡◌, codes, arith}
use Rattle.std.proofs.lemmas.Grind.{common_steps}
use Rattle.ob_text_reading.proofs.OneEvent.{applied_read, order_read}
use Rattle.ob_text_reading.proofs.line.read_line.Goals as goal

pub returns-in-A : goal.returns-in-A
returns-in-A c =
    let is : c.in-Some.first.now ≡ codes "A" = grind (arith, common_steps) in
    rw (c.in-Some.ensures.words, is) (applied_read _ _ _ _ _ (rw c.processes.ensures at c.read_applied.ensures))

pub returns-in-O : goal.returns-in-O
returns-in-O c =
    let is : c.in-Some.first.now ≡ codes "O" = grind (arith, common_steps) in
    rw (c.in-Some.ensures.words, is) (order_read _ _ _ _ _ (rw c.processes-in-O.ensures at c.read_order.ensures))
