use Rattle.std.proofs.Common.{◌≡◌, codes, arith}
use Rattle.std.proofs.lemmas.Grind.{common_steps}
use Rattle.ob_text_reading.proofs.OneEvent.{trap_read}
use Rattle.ob_text_reading.proofs.line.read_reply.Goals as goal

pub returns-in_ok-put_words-in-trap : goal.returns-in_ok-put_words-in-trap
returns-in_ok-put_words-in-trap c =
    let is : c.in-Some.kind.now ≡ codes "trap" = grind (arith, common_steps) in
    rw (c.in-Some.ensures.words, is) (trap_read _ _ _ _ (rw (c.deref.ensures.value, c.in_ok-put_words-in-trap.ensures) at c.read_trap.ensures))
