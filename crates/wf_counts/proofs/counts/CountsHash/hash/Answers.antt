-- The number is that of its digits.
use Rattle.std.proofs.Common.{sym, ap, ◌∙◌, subst}
use Rattle.std.specs.List.{fold}
use Rattle.std.specs.Hash as fed
use Rattle.wf_counts.specs.Counts.{Counted}
use Rattle.wf_counts.specs.Digits.{counts_fed}
use Rattle.wf_counts.specs.Form.{counted, IsKept}
use Rattle.wf_counts.specs.declared.counts.Form.{Form}
use Rattle.wf_counts.proofs.Digits.{fed_one}
use Rattle.wf_counts.proofs.counts.CountsHash.hash.Goals as goal

pub returns-in-One : goal.returns-in-One
returns-in-One g c =
    let kept = subst (λ (f : Form). IsKept f) c.in-One.is c.self.invariant in
    c.hash.ensures ∙ ap (λ (w : fed.HashWrites). fold g.H.Hasher.write c.args.state.now w)
    (fed_one c.in-One.field-1 c.in-One.number kept.0 kept.1 ∙ ap (λ (k : Counted). counts_fed k.items) (ap counted (sym c.in-One.is) ∙ c.self.view_is))
