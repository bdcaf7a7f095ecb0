-- Engines that are made have the parts of their program.
use Rattle.std.proofs.Common.{◌≡◌, ℕ, ◌≤◌, List, ap, ◌∙◌, arith}
use Rattle.std.proofs.Math.Logic.{∥∥₁_map, ∥∥₁_elim}
use Rattle.std.proofs.Math.Bridge.{le_prop}
use Rattle.ob_typing.specs.Program.{Program}
use Rattle.ob_code_machine.specs.Code.{CodeParts}
use Rattle.ob_code_scheme.specs.Layout.{variable_words}
use Rattle.ob_code_scheme.specs.Scheme.{code_of}
use Rattle.ob_code_scheme.specs.Temporaries.{stack_words}
use Rattle.ob_code_scheme.specs.WellFormed.{IsWellFormed}
use Rattle.ob_code_scheme.proofs.Small.{few_stack_words}
use Rattle.ob_layout.specs.Counted.{counted}
use Rattle.ob_code_correct.specs.CodeMeaning.{Entrance, EngineParts}
use Rattle.ob_code_correct.specs.Compiled.{entrances_from, parts_of}
use Rattle.ob_code_correct.specs.Parts.{IsCompiledTo, HasProgram}
use Rattle.ob_code_engine.specs.CodeEngine.{CompiledParts, HasSameNumbers, compiled_same}

abbrev pub made : ℕ → List Entrance → CodeParts → ℕ → ℕ → EngineParts
made variables exports code reserve budget = record { variables = variables; exports = exports; code = code; reserve = reserve; budget = budget }

pub parts_are : (program : Program) (budget v : ℕ) (xs : List Entrance) (code : CodeParts) (r : ℕ) → v ≡ variable_words program.variables → xs ≡ entrances_from 0 program.procedures → code ≡ code_of program → r ≡ stack_words program.procedures →
    made v xs code r budget ≡ parts_of program budget
parts_are program budget v xs code r a b c d =
    ap (λ (n : ℕ). made n xs code r budget) a
    ∙ ap (λ (ys : List Entrance). made (variable_words program.variables) ys code r budget) b
    ∙ ap (λ (k : CodeParts). made (variable_words program.variables) (entrances_from 0 program.procedures) k r budget) c
    ∙ ap (λ (n : ℕ). made (variable_words program.variables) (entrances_from 0 program.procedures) (code_of program) n budget) d

-- so they are compiled of it
pub compiled_to : (program : Program) (parts : EngineParts) → ∥ IsWellFormed program ∥₁ → parts ≡ parts_of program parts.budget → ∥ IsCompiledTo program parts ∥₁
compiled_to program parts well are = ∥∥₁_map well (λ w. record { well = w; parts_are = are })

pub has_program : (program : Program) (parts : EngineParts) → ∥ IsCompiledTo program parts ∥₁ → ∥ HasProgram parts ∥₁
has_program program parts h = ∥∥₁_map h (λ c. (program, c))

-- ---- numbers of words within the limits

pub few_in_stack : (program : Program) → ∥ IsWellFormed program ∥₁ → stack_words program.procedures ≤ 91592
few_in_stack program well = ∥∥₁_elim well le_prop (few_stack_words program)

pub few_in_block : (program : Program) → ∥ IsWellFormed program ∥₁ → variable_words program.variables ≤ 4096
few_in_block program well = ∥∥₁_elim well le_prop (λ w. w.variables)

-- so the count of a stack's words is exact
pub counted_stack : (program : Program) → ∥ IsWellFormed program ∥₁ → counted (stack_words program.procedures) ≡ stack_words program.procedures
counted_stack program well = let few = few_in_stack program well in omega (arith, few)

-- ---- parts that are the same

pub same_parts : (v w : ℕ) (xs ys : List Entrance) (code other : CodeParts) (r s b d : ℕ) → v ≡ w → xs ≡ ys → code ≡ other → r ≡ s → b ≡ d → made v xs code r b ≡ made w ys other s d
same_parts v w xs ys code other r s b d same_variables same_exports same_code same_reserve same_budget =
    ap (λ (n : ℕ). made n xs code r b) same_variables
    ∙ ap (λ (es : List Entrance). made w es code r b) same_exports
    ∙ ap (λ (k : CodeParts). made w ys k r b) same_code
    ∙ ap (λ (n : ℕ). made w ys other n b) same_reserve
    ∙ ap (λ (n : ℕ). made w ys other s n) same_budget

pub same_numbers : (a b : EngineParts) → a ≡ b → HasSameNumbers a b
same_numbers a b e = record {
  variables = ap (λ (q : EngineParts). q.variables) e;
  reserve = ap (λ (q : EngineParts). q.reserve) e;
  budget = ap (λ (q : EngineParts). q.budget) e;
}

-- engines with the same numbers, exports and code are the same
pub same_engines : (a b : CompiledParts) → HasSameNumbers a.parts b.parts → a.parts.exports ≡ b.parts.exports → a.parts.code ≡ b.parts.code → a ≡ b
same_engines a b numbers exports code = compiled_same a b (same_parts _ _ _ _ _ _ _ _ _ _ numbers.variables exports code numbers.reserve numbers.budget)
