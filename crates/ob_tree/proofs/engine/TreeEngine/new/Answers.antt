use Rattle.std.proofs.Common.{◌≡◌, ap, ◌∙◌, arith}
use Rattle.ob_typing.specs.Program.{Program}
use Rattle.ob_checked.specs.CheckedModule.{program_in}
use Rattle.ob_layout.specs.Layout.{LayoutParts}
use Rattle.ob_code_scheme.specs.Temporaries.{stack_words}
use Rattle.ob_code_correct.specs.CodeMeaning.{most, result_count, value_count}
use Rattle.ob_code_correct.specs.Compiled.{entrances_from}
use Rattle.ob_tree.proofs.Known.{counted_stack, few_in_stack}
use Rattle.ob_tree.proofs.engine.TreeEngine.new.Goals as goal

abbrev Stack : goal.After-stack_words → Type 0
Stack c = c.stack_words.result ≡ stack_words (program_in c.args.checked.now).procedures

-- the words that were counted for a stack
stack : (c : goal.After-stack_words) → Stack c
stack c =
    c.stack_words.ensures ∙ ap (λ (l : LayoutParts). l.stack_words) c.requires.layout
    ∙ counted_stack (program_in c.args.checked.now) c.checked_is_well_formed.ensures

pub overflow_cast-result : goal.overflow_cast-result
overflow_cast-result c =
    let few = few_in_stack (program_in c.args.checked.now) c.checked_is_well_formed.ensures in
    let is = stack c in
    omega (arith, few, is)

pub invariant_of-result : goal.invariant_of-result
invariant_of-result c = record {
  laid = ∣ c.requires.layout ∣₁;
  well = c.checked_is_well_formed.ensures;
  listed = ∣ c.in_ok-exports.ensures ∙ ap (λ (p : Program). entrances_from 0 p.procedures) c.program.ensures.program ∣₁;
  stack = stack c;
  room = c.room_for_work-tasks.ensures;
  most_results = c.most_results.ensures ∙ ap (most result_count) c.as_slice.ensures.value;
  most_values = c.most_values.ensures ∙ ap (most value_count) c.as_slice-2.ensures.value;
  few_turns = c.requires.budget;
}
