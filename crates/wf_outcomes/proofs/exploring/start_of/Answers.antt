-- No call is made.
use Rattle.std.proofs.Common.{ap, ◌∙◌, sym, subst, ℕ, map, replicate}
use Rattle.std.proofs.lemmas.List.{length-map}
use Rattle.wf_history.specs.View.{kept_call}
use Rattle.wf_outcomes.specs.declared.seen.Stated.{Stated}
use Rattle.wf_outcomes.specs.RememberedCalls.{IsStated}
use Rattle.wf_outcomes.proofs.OutcomesLists.{same_configuration}
use Rattle.wf_outcomes.proofs.exploring.start_of.Goals as goal

pub returns-clause-start : goal.returns-clause-start
returns-clause-start g c =
    let count = length-map c.args.task.now.scripts.now (λ s. map kept_call s.items) in
    same_configuration (c.in_ok-counts.ensures ∙ ap (λ (n : ℕ). replicate n 0) (sym count)) (ap (λ (s : Stated g.row.O-State.Denot). g.O.Object.meaning s.state) c.in_ok-kept.ensures.ok ∙ c.in_ok-state.ensures)

pub returns-clause-words : goal.returns-clause-words
returns-clause-words g c =
    subst (λ (s : Stated g.row.O-State.Denot). IsStated g.O.Object.meaning g.O.Object.words_of s) (sym c.in_ok-kept.ensures.ok) c.in_ok-words.ensures
