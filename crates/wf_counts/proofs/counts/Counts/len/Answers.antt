-- As many as there are digits.
use Rattle.std.proofs.Common.{sym, ap, ◌∙◌, length}
use Rattle.wf_counts.specs.Counts.{Counted}
use Rattle.wf_counts.specs.Form.{counted}
use Rattle.wf_counts.proofs.Digits.{length_digits}
use Rattle.wf_counts.proofs.counts.Counts.len.Goals as goal

pub returns-in-One : goal.returns-in-One
returns-in-One c = sym (length_digits c.in-One.many c.in-One.field-0) ∙ ap (λ (k : Counted). length k.items) (ap counted (sym c.in-One.is) ∙ c.self.view_is)
