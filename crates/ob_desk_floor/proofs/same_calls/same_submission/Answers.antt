-- Lists of values are the same where a test finds them so.
use Rattle.std.proofs.Common.{◌≡◌, ap, sym, ◌∙◌, ℕ}
use Rattle.std.proofs.lemmas.Slice.Eq.{slice_eq-Decides}
use Rattle.ob_interface.specs.Call.{ObjectCall}
use Rattle.wf_history.proofs.Same.{scalar_eq, scalar_decides}
use Rattle.ob_desk_floor.proofs.same_calls.same_submission.Goals as goal

pub returns-clause-no : goal.returns-clause-no
returns-clause-no c =
    let eq = slice_eq-Decides {E = scalar_eq} scalar_decides c.as_slice.result.now c.as_slice-2.result.now c.eq.result c.eq.ensures in
    λ differs same.
    let lists : c.as_slice.result.now ≡ c.as_slice-2.result.now = c.as_slice.ensures ∙ ap (λ (x : ℕ × ObjectCall). x.1.arguments) same ∙ sym c.as_slice-2.ensures in
    let yes = eq.1 lists in
    absurd (cc)

pub returns-clause-yes : goal.returns-clause-yes
returns-clause-yes c =
    let eq = slice_eq-Decides {E = scalar_eq} scalar_decides c.as_slice.result.now c.as_slice-2.result.now c.eq.result c.eq.ensures in
    λ yes.
    let lists : c.args.submission.now.call.args.items ≡ c.args.other.now.call.args.items = sym c.as_slice.ensures ∙ eq.0 yes ∙ c.as_slice-2.ensures in
    cc
