-- What an engine over code shows.
use Rattle.std.specs.Prelude.{◌≡◌, ℕ, List}
use Rattle.std.specs.Coded.{Coded, coded×, coded_list, coded_ℕ}
use base.Stored.{coded_via}
use mathlib.Core.HLevel.{is_prop→PathP}
use Rattle.ob_code_engine.specs.contracts.entrance.Entrance as Entrances
use Rattle.ob_code_correct.specs.CodeMeaning.{EngineParts, Entrance}
use Rattle.ob_code_correct.specs.Parts.{HasProgram}
use Rattle.ob_code_machine.specs.Code.{CodeParts}
use Rattle.ob_code_machine.specs.contracts.code.Code as Codes

-- the parts of an engine with so many words in a block and in a stack
abbrev pub engine_parts : (block_words : ℕ) → List Entrance → CodeParts → (stack_words budget : ℕ) → EngineParts
engine_parts block_words exports code stack_words budget = record {
  variables = block_words;
  exports = exports;
  code = code;
  reserve = stack_words;
  budget = budget;
}

-- the parts of an engine for some program
pub record CompiledParts : Type 0 where
  pub parts : EngineParts
  pub compiled : ∥ HasProgram parts ∥₁

-- which are the same where their parts are
pub compiled_same : (a b : CompiledParts) → a.parts ≡ b.parts → a ≡ b
compiled_same a b e i = record {
  parts = e i;
  compiled = is_prop→PathP (λ j. ∥ HasProgram (e j) ∥₁) (λ j. squash₁) a.compiled b.compiled i;
}

abbrev pub compiled_code : Coded CompiledParts
compiled_code =
    coded_via (coded× coded_ℕ (coded× (coded_list Entrances.the_row.coded) (coded× Codes.the_row.coded (coded× coded_ℕ coded_ℕ))))
    (λ e. (e.parts.variables, (e.parts.exports, (e.parts.code, (e.parts.reserve, e.parts.budget)))))
    (λ a b e. compiled_same a b (λ i. record { variables = (e i).0; exports = (e i).1.0; code = (e i).1.1.0; reserve = (e i).1.1.1.0; budget = (e i).1.1.1.1 }))

-- as many words in a block and in a stack, and as many turns
pub record HasSameNumbers (one other : EngineParts) : Type 0 where
  pub variables : one.variables ≡ other.variables
  pub reserve : one.reserve ≡ other.reserve
  pub budget : one.budget ≡ other.budget
