-- The digit is the greatest one, or one more of it is a digit.
use Rattle.std.proofs.Common.{sym, ap, ◌∙◌, ℕ, ◌+◌, ◌*◌, ◌^◌, ◌%◌, arith}
use Rattle.std.proofs.lemmas.Nat.{one_shl}
use Rattle.wf_counts.proofs.Digits.{digit_there, is_raised, not_full, raised_fits}
use Rattle.wf_counts.proofs.number.raised.Goals as goal

pub returns-then-digit-eq255 : goal.returns-then-digit-eq255
returns-then-digit-eq255 c = digit_there c.args.many c.args.number c.args.place c.requires.place ∙ sym c.digit.ensures ∙ c.if-digit-eq255.true

pub overflow_add-result : goal.overflow_add-result
overflow_add-result c =
    let many = c.requires.many in
    let place = c.requires.place in
    let less = not_full c.args.many c.args.number c.args.place c.requires.place c.digit.result c.digit.ensures c.if-digit-eq255.false in
    let unit = one_shl (8 * c.args.place) 64 (omega (arith, many, place)) in
    let small = raised_fits c.args.many c.args.number c.args.place c.requires.many c.requires.place c.requires.number less in
    omega (arith, unit, small)

pub returns : goal.returns
returns c =
    let many = c.requires.many in
    let place = c.requires.place in
    let less = not_full c.args.many c.args.number c.args.place c.requires.place c.digit.result c.digit.ensures c.if-digit-eq255.false in
    let unit = one_shl (8 * c.args.place) 64 (omega (arith, many, place)) in
    is_raised c.args.many c.args.number c.args.place c.requires.place c.requires.number less (c.args.number + 1 * 2 ^ (8 * c.args.place) % 18446744073709551616) (ap (λ (x : ℕ). c.args.number + x) unit)
