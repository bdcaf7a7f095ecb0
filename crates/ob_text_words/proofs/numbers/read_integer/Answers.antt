use Rattle.std.proofs.Common.{◌≡◌, ◌∷◌, rules}
use Rattle.ob_text_words.proofs.Numerals.{negative_read, positive_read, negated}
use Rattle.ob_text_words.proofs.numbers.read_integer.Goals as goal

pub returns-in_ok-magnitude-in-Some-eq45-default : goal.returns-in_ok-magnitude-in-Some-eq45-default
returns-in_ok-magnitude-in-Some-eq45-default c =
    let parts : c.args.word.now ≡ 45 ∷ c.in-Some-eq45-default.digits.now = search rules in
    rw (c.ok.ensures.value, parts) (negative_read _ c.in_ok-magnitude-in-Some-eq45-default.field-0 _ _ c.in_ok-magnitude-in-Some-eq45-default.ensures.spelled (negated _ c.in_ok-magnitude-in-Some-eq45-default.ensures.small) c.try_from.ensures)

pub returns-in_ok-read_digits-in_default : goal.returns-in_ok-read_digits-in_default
returns-in_ok-read_digits-in_default c =
    rw c.ok-in_default.ensures.value (positive_read _ c.in_ok-read_digits-in_default.field-0 _ c.in_ok-read_digits-in_default.ensures.spelled c.try_from-in_default.ensures)
