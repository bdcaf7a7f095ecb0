use Rattle.std.proofs.Common.{◌≡◌, ap, ◌∙◌, arith}
use Rattle.ob_typing.specs.Program.{Program}
use Rattle.ob_checked.specs.CheckedModule.{program_in}
use Rattle.ob_layout.specs.Layout.{LayoutParts}
use Rattle.ob_code_scheme.specs.Layout.{variable_words}
use Rattle.ob_code_scheme.specs.Temporaries.{stack_words}
use Rattle.ob_code_correct.specs.CodeMeaning.{EngineParts, most, result_count, value_count}
use Rattle.ob_code_correct.specs.Compiled.{entrances_from, parts_of}
use Rattle.ob_code_engine.proofs.Made.{made, parts_are, compiled_to, has_program, few_in_stack, counted_stack}
use Rattle.ob_code_engine.proofs.engine.CodeEngine.new.Goals as goal

-- the words that were counted for a stack
abbrev Counted : goal.After-stack_words → Type 0
Counted c = c.stack_words.result ≡ stack_words (program_in c.args.checked.now).procedures

counted : (c : goal.After-stack_words) → Counted c
counted c =
    c.stack_words.ensures ∙ ap (λ (l : LayoutParts). l.stack_words) c.requires.layout
    ∙ counted_stack (program_in c.args.checked.now) c.checked_is_well_formed.ensures

pub overflow_cast-result-2 : goal.overflow_cast-result-2
overflow_cast-result-2 c =
    let few = few_in_stack (program_in c.args.checked.now) c.checked_is_well_formed.ensures in
    let is = counted c in
    omega (arith, few, is)

abbrev parts : goal.After-stack_words → EngineParts
parts c = made c.variable_words.result c.in_ok-exports.exports.items c.args.code c.stack_words.result c.args.budget

abbrev Facts : goal.After-stack_words → Type 0
Facts c = parts c ≡ parts_of (program_in c.args.checked.now) c.args.budget

-- the parts are those of the program
facts : (c : goal.After-stack_words) → Facts c
facts c =
    parts_are (program_in c.args.checked.now) c.args.budget _ _ _ _
    (c.variable_words.ensures ∙ ap (λ (l : LayoutParts). variable_words l.variables) c.requires.layout)
    (c.in_ok-exports.ensures ∙ ap (λ (p : Program). entrances_from 0 p.procedures) c.program.ensures.program)
    c.requires.code (counted c)

pub invariant_of-result : goal.invariant_of-result
invariant_of-result c =
    let results = c.most_results.ensures ∙ ap (most result_count) c.as_slice.ensures.value in
    let values = c.most_values.ensures ∙ ap (most value_count) c.as_slice-2.ensures.value in
    let program = program_in c.args.checked.now in
    let compiled = has_program program (parts c) (compiled_to program (parts c) c.checked_is_well_formed.ensures (facts c)) in
    (results, (values, (c.requires.budget, (compiled, tt))))

pub returns-clause-parts : goal.returns-clause-parts
returns-clause-parts c = facts c.before

pub returns-clause-compiled : goal.returns-clause-compiled
returns-clause-compiled c = compiled_to (program_in c.args.checked.now) (parts c.before) c.checked_is_well_formed.ensures (facts c.before)
