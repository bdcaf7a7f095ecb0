-- A number has as many digits as there are processes, and what does not fit does not fit with one more.
use Rattle.std.proofs.Common.{sym, ap, ◌∙◌, length, subst, arith}
use Rattle.wf_counts.specs.Counts.{Counted}
use Rattle.wf_counts.specs.Digits.{fits, one_more_at}
use Rattle.wf_counts.specs.Form.{counted, IsKept}
use Rattle.wf_counts.specs.declared.counts.Form.{Form}
use Rattle.wf_counts.proofs.Digits.{length_digits, unfit_more}
use Rattle.wf_counts.proofs.counts.Counts.one_more.Goals as goal

pub one_more_in-requires-clause-place : goal.one_more_in-requires-clause-place
one_more_in-requires-clause-place c =
    let size = sym (length_digits c.in-One.many c.in-One.number) ∙ ap (λ (k : Counted). length k.items) (ap counted (sym c.in-One.is) ∙ c.self.view_is) in
    let within = c.requires in
    omega (arith, size, within)

pub invariant_of-result : goal.invariant_of-result
invariant_of-result c =
    ap fits (c.in_ok-with_one_more-in-Each.ensures ∙ ap (one_more_at c.args.process) c.as_slice.ensures.value)
    ∙ unfit_more c.in-Each.each.items c.args.process (subst (λ (f : Form). IsKept f) c.in-Each.is c.self.invariant)
