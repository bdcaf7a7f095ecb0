-- The count is put back.
use Rattle.std.proofs.Common.{◌≡◌, sym, ap, refl, ◌∙◌, ℕ, zero, suc, true, List, [], ◌∷◌, length, set, get_or}
use Rattle.std.specs.Prelude.{nat_lt}
use Rattle.wf_order.proofs.Lists.{same_configuration}
use Rattle.wf_order.proofs.Taken.{taken_is}
use Rattle.wf_order.proofs.standing.found_before.Goals as goal

put_back : (counts : List ℕ) (process less taken : ℕ) → taken ≡ get_or counts process 0 → set (set counts process less) process taken ≡ counts
put_back [] process less taken is = refl
put_back (count ∷ counts) zero less taken is = ap (λ (n : ℕ). n ∷ counts) is
put_back (count ∷ counts) (suc process) less taken is = ap (λ (l : List ℕ). count ∷ l) (put_back counts process less taken is)

as_before : (read counts changed new : List ℕ) (process less taken : ℕ) → true ≡ nat_lt process (length read) → taken ≡ get_or read process taken → read ≡ counts → changed ≡ set counts process less → new ≡ set changed process taken → new ≡ counts
as_before read counts changed new process less taken within is same first second =
    second ∙ ap (λ (l : List ℕ). set l process taken) first ∙ put_back counts process less taken (taken_is read counts process taken within is same)

pub returns-in_err-at-clause-same : goal.returns-in_err-at-clause-same
returns-in_err-at-clause-same g c =
    same_configuration (as_before c.deref.result.now c.args.there.now.counts.items c.set_count.new.counts.items c.set_count-2.new.counts.items c.args.process c.in_ok-less.less c.in-Some.count.now
    c.in-Some.ensures.lookup.0 c.in-Some.ensures.lookup.1 c.deref.ensures c.set_count.ensures c.set_count-2.ensures) refl

pub returns-then-at-place-clause-same : goal.returns-then-at-place-clause-same
returns-then-at-place-clause-same g c =
    same_configuration (as_before c.deref.result.now c.args.there.now.counts.items c.set_count.new.counts.items c.set_count-2.new.counts.items c.args.process c.in_ok-less.less c.in-Some.count.now
    c.in-Some.ensures.lookup.0 c.in-Some.ensures.lookup.1 c.deref.ensures c.set_count.ensures c.set_count-2.ensures) refl

pub returns-clause-same : goal.returns-clause-same
returns-clause-same g c =
    same_configuration (as_before c.deref.result.now c.args.there.now.counts.items c.set_count.new.counts.items c.set_count-2.new.counts.items c.args.process c.in_ok-less.less c.in-Some.count.now
    c.in-Some.ensures.lookup.0 c.in-Some.ensures.lookup.1 c.deref.ensures c.set_count.ensures c.set_count-2.ensures) refl
