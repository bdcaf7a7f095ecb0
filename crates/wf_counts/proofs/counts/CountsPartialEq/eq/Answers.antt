-- The same digits are those of one number, and counts that fit are no others.
use Rattle.std.proofs.Common.{sym, ap, ap₂, ◌∙◌, subst}
use Rattle.std.proofs.lemmas.Bool.{eq-eqb, eqb-true}
use Rattle.std.specs.Cmp.Lexicographic.{pointwise}
use Rattle.std.specs.Prelude.{nat_eq}
use Rattle.wf_counts.specs.Counts.{Counted}
use Rattle.wf_counts.specs.Digits.{digits}
use Rattle.wf_counts.specs.Form.{counted, IsKept}
use Rattle.wf_counts.specs.declared.counts.Form.{Form}
use Rattle.wf_counts.proofs.Digits.{digits_fit, eq_apart, eq_ones}
use Rattle.wf_counts.proofs.counts.CountsPartialEq.eq.Goals as goal

pub returns-then-number-another : goal.returns-then-number-another
returns-then-number-another c =
    let one = c.in-One-One in
    let kept = subst (λ (f : Form). IsKept f) one.is-0 c.self.invariant in
    let other = subst (λ (f : Form). IsKept f) one.is-1 c.other.invariant in
    let same = c.if-number-another.true in
    eq_ones one.many one.number one.count one.another kept.1 other.1 (nat_eq one.many one.count) (λ t. (same, eqb-true one.many one.count t)) (λ both. eq-eqb one.many one.count both.1)
    ∙ ap₂ (λ (a b : Counted). pointwise nat_eq a.items b.items) (ap counted (sym one.is-0) ∙ c.self.view_is) (ap counted (sym one.is-1) ∙ c.other.view_is)

pub returns-else-number-another : goal.returns-else-number-another
returns-else-number-another c =
    let one = c.in-One-One in
    let kept = subst (λ (f : Form). IsKept f) one.is-0 c.self.invariant in
    let other = subst (λ (f : Form). IsKept f) one.is-1 c.other.invariant in
    let differ = c.if-number-another.false in
    eq_ones one.many one.number one.count one.another kept.1 other.1 (nat_eq one.number one.another) (λ t. absurd (differ (eqb-true one.number one.another t))) (λ both. eq-eqb one.number one.another both.0)
    ∙ ap₂ (λ (a b : Counted). pointwise nat_eq a.items b.items) (ap counted (sym one.is-0) ∙ c.self.view_is) (ap counted (sym one.is-1) ∙ c.other.view_is)

pub returns-in_default : goal.returns-in_default
returns-in_default c =
    let one = c.in_default in
    let kept = subst (λ (f : Form). IsKept f) one.is-0 c.self.invariant in
    let other = subst (λ (f : Form). IsKept f) one.is-1 c.other.invariant in
    eq_apart (digits one.field-1-0 one.field-0-0) one.field-0-1.items (λ same. let fit = digits_fit one.field-1-0 one.field-0-0 kept.0 in absurd (cc))
    ∙ ap₂ (λ (a b : Counted). pointwise nat_eq a.items b.items) (ap counted (sym one.is-0) ∙ c.self.view_is) (ap counted (sym one.is-1) ∙ c.other.view_is)

pub returns-in_default-2 : goal.returns-in_default-2
returns-in_default-2 c =
    let one = c.in_default in
    let kept = subst (λ (f : Form). IsKept f) one.is-0 c.self.invariant in
    let other = subst (λ (f : Form). IsKept f) one.is-1 c.other.invariant in
    eq_apart one.field-0-0.items (digits one.field-1-1 one.field-0-1) (λ same. let fit = digits_fit one.field-1-1 one.field-0-1 other.0 in absurd (cc))
    ∙ ap₂ (λ (a b : Counted). pointwise nat_eq a.items b.items) (ap counted (sym one.is-0) ∙ c.self.view_is) (ap counted (sym one.is-1) ∙ c.other.view_is)
