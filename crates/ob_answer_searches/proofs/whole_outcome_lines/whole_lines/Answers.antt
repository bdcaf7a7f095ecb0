-- The outcomes, and how many they are.
use Rattle.std.proofs.Common.{◌≡◌, ◌∙◌, ◌++◌, ap, arith, length, map, sym, ℕ, List}
use Rattle.std.proofs.lemmas.List.{length-map}
use Rattle.ob_answer_searches.proofs.Outcomes.{length_outcomes}
use Rattle.ob_answer_searches.specs.WholeLines.{numbered_lines, total_line}
use Rattle.ob_checked.specs.CheckedModule.{program_in}
use Rattle.ob_checked.specs.View.{program_of}
use Rattle.ob_object_outcomes.specs.WholesView.{numbered, outcomes_in}
use Rattle.ob_store.specs.declared.state.State.{State}
use Rattle.ob_typing.specs.Program.{Program}
use Rattle.wf_history.specs.View.{kept_reply}
use Rattle.wf_whole_outcomes.specs.View.{wholes_in}
use Rattle.ob_answer_searches.proofs.whole_outcome_lines.whole_lines.Goals as goal

pub returns : goal.returns
returns c =
    let wholes = c.args.wholes.now in
    let told = wholes.told in
    let long = c.len.ensures in
    let own = told.states.ok.0 in
    let count : c.len.result ≡ length told.states.items = omega (arith, long, own) in
    let size : length (outcomes_in wholes) ≡ length told.states.items =
    length_outcomes (map kept_reply told.replies.items) told.processes told.front 0 (map (numbered wholes.states.items) told.states.items)
    ∙ length-map told.states.items (numbered wholes.states.items) in
    let all = c.in_ok-push_numbered.ensures
    ∙ ap (λ (t : List ℕ). t ++ numbered_lines (program_of c.program-program.result.now).variables 0 (wholes_in (numbered c.deref-2.result.now) told)) c.new-text.ensures.bytes
    ∙ ap (λ (l : List State). numbered_lines (program_of c.program-program.result.now).variables 0 (wholes_in (numbered l) told)) c.deref-2.ensures.value
    ∙ ap (λ (p : Program). numbered_lines p.variables 0 (outcomes_in wholes)) c.program-program.ensures.program in
    c.in_ok-push_total.ensures ∙ ap (λ (t : List ℕ). t ++ total_line c.len.result) all
    ∙ ap (λ (n : ℕ). numbered_lines (program_in c.args.checked.now).variables 0 (outcomes_in wholes) ++ total_line n) (count ∙ sym size)
