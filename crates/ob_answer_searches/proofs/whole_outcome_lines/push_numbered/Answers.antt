-- One outcome more.
use Rattle.std.proofs.Common.{◌∙◌, ◌++◌, ◌+◌, ◌<◌, ◌≤◌, ℕ, List, ap, get_or, length, refl, string_bytes, subst}
use Rattle.ob_answer_searches.proofs.Numbered.{line_next, lines_all}
use Rattle.ob_answer_searches.proofs.Outcomes.{lines_from}
use Rattle.ob_answer_searches.specs.WholeLines.{one_lines}
use Rattle.ob_checked.specs.View.{program_of}
use Rattle.ob_object_outcomes.specs.WholesView.{numbered, outcome_at}
use Rattle.ob_answer_searches.proofs.whole_outcome_lines.push_numbered.Goals as goal

pub loop-index-preserved : goal.loop-index-preserved
loop-index-preserved c =
    let variables = (program_of c.args.source.now.program.now).variables in
    let wholes = c.args.source.now.wholes.now in
    let states = c.args.source.now.states.now in
    let index = c.loop-index.index in
    let same = c.deref-number-items.ensures.value in
    let one = ap (λ (l : List ℕ). string_bytes c.loop-index.text ++ one_lines variables (index + 1) (outcome_at wholes index (numbered states (get_or l index 0)))) same in
    line_next (numbered states) (lines_from variables wholes) (λ k x. one_lines variables (k + 1) (outcome_at wholes k x)) (λ k x xs. refl) _ _ _ wholes.states.items index 0
    (subst (λ (l : List ℕ). index < length l) same c.loop-index-test.true) (c.in_ok-make_room.ensures ∙ c.in_ok-push_whole.ensures ∙ one) c.loop-index.invariant

pub returns : goal.returns
returns c =
    let wholes = c.args.source.now.wholes.now in
    let same = c.deref-number-items.ensures.value in
    lines_all (numbered c.args.source.now.states.now) (lines_from (program_of c.args.source.now.program.now).variables wholes) (λ k. refl) _ _ wholes.states.items c.loop-index.index
    (subst (λ (l : List ℕ). length l ≤ c.loop-index.index) same c.loop-index-test.false) c.loop-index.invariant
