-- The digit at the place.
use Rattle.std.proofs.Common.{sym, ap, ◌∙◌, Some, arith}
use Rattle.wf_counts.specs.Digits.{digits}
use Rattle.wf_counts.proofs.Digits.{digit_is, length_digits, none_past}
use Rattle.wf_counts.proofs.number.digit_at.Goals as goal

pub returns-then-place-many : goal.returns-then-place-many
returns-then-place-many c =
    let size = length_digits c.args.many c.args.number in
    let past = c.if-place-many.true in
    sym (none_past (digits c.args.many c.args.number) c.args.place (omega (arith, size, past)))

pub returns : goal.returns
returns c =
    let within = c.if-place-many.false in
    ap Some c.digit.ensures ∙ sym (digit_is c.args.many c.args.number c.args.place (omega (arith, within)))
