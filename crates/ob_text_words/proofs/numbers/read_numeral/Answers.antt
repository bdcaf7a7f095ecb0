use Rattle.std.proofs.Common.{arith}
use Rattle.ob_text_words.proofs.DigitParts.{too_large}
use Rattle.ob_text_words.proofs.numbers.read_numeral.Goals as goal

pub returns-in_default : goal.returns-in_default
returns-in_default c =
    λ n h small.
    let large = too_large c.args.word.now c.loop-byte.byte-index c.loop-byte-test.true (rw c.loop-byte.invariant.value at c.in_default.ensures) in
    absurd (omega (arith, large, h.spells))
