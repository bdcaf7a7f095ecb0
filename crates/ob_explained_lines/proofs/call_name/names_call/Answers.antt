use Rattle.std.proofs.Common.{◌∙◌, inl, inr, subst, sym}
use Rattle.std.proofs.lemmas.Bool.{false≢true}
use Rattle.ob_text_values_reading.proofs.Ids.{one_id}
use Rattle.wf_history.specs.declared.event.CallId.{CallId}
use Rattle.ob_explained_lines.specs.CallNames.{Names}
use Rattle.ob_explained_lines.proofs.SameNames.{is_same_id}
use Rattle.ob_explained_lines.proofs.call_name.names_call.Goals as goal

pub returns-in-Some : goal.returns-in-Some
returns-in-Some c =
    let word = c.args.word.now in
    elim (is_same_id c.in-Some.named c.args.id) [
      | inl same ↦ (λ t. subst (λ (i : CallId). Names word i) same.1 c.in-Some.ensures, λ h. c.is_same.ensures ∙ same.0)
      | inr other ↦ (λ t. absurd (false≢true (sym other.0 ∙ sym c.is_same.ensures ∙ t)), λ h. absurd (other.1 (one_id c.in-Some.ensures h)))
    ]

pub returns-in-None : goal.returns-in-None
returns-in-None c = (λ t. absurd (cc), λ h. absurd (c.in-None.ensures c.args.id h))
