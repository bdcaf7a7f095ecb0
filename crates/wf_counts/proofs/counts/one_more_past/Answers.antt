-- One more than the greatest digit is none.
use Rattle.std.proofs.Common.{ap, ◌∙◌, arith}
use Rattle.wf_counts.specs.Digits.{digits, fits, one_more_at}
use Rattle.wf_counts.proofs.Digits.{length_digits, unfit_past}
use Rattle.wf_counts.proofs.counts.one_more_past.Goals as goal

pub invariant_of-result : goal.invariant_of-result
invariant_of-result c =
    let size = length_digits c.args.many c.args.number in
    let place = c.requires.place in
    ap fits (c.in_ok-with_one_more.ensures ∙ ap (one_more_at c.args.place) (c.as_slice.ensures.value ∙ c.in_ok-each.ensures))
    ∙ unfit_past (digits c.args.many c.args.number) c.args.place (omega (arith, size, place)) c.requires.greatest
