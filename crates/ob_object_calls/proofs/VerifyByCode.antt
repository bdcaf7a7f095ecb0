-- The code of a module, in the state with which a record's calls begin.
use Rattle.std.proofs.Common.{◌≡◌, ◌∙◌, ℕ, Some, ap, refl, sym, subst}
use Rattle.std.specs.Prelude.{IfSome, Option}
use Rattle.ob_code_calls.specs.Parts.{parts_in}
use Rattle.ob_code_correct.specs.CodeMeaning.{EngineParts}
use Rattle.ob_code_correct.specs.Compiled.{Fits, IsFitting, parts_of}
use Rattle.ob_code_correct.specs.Parts.{IsCompiledTo, IsLawfulFor}
use Rattle.ob_code_scheme.specs.Layout.{encoded}
use Rattle.ob_code_scheme.specs.Types.{IsStateOf}
use Rattle.ob_code_scheme.specs.WellFormed.{IsWellFormed}
use Rattle.ob_code_calls.specs.Standing as Standing
use Rattle.ob_interface.specs.Call.{ObjectCall, Reply}
use Rattle.ob_object_run.specs.InTurn.{IsMadeInTurn, Takeable}
use Rattle.ob_object_calls.specs.ByCode.{IsAt}
use Rattle.ob_object_calls.specs.declared.coded_verifying.ByCode.{ByCode}
use Rattle.ob_meaning.specs.ByPositionStore.{Activation}
use Rattle.ob_typing.specs.Program.{Program}

module _ (program : Program) (well : IsWellFormed program) (budget : ℕ) (parts : EngineParts) (are : parts ≡ parts_of program budget) where
  pub its_budget : parts.budget ≡ budget
  its_budget = ap (λ (q : EngineParts). q.budget) are

  pub compiled_to : IsCompiledTo program parts
  compiled_to = record { well = well; parts_are = are ∙ ap (parts_of program) (sym its_budget) }

  pub opens_lawfully : (opening : Activation) → IsStateOf program.variables opening → ∥ IsLawfulFor parts (encoded opening) ∥₁
  opens_lawfully opening typed =
      ∣ record {
        program = program;
        compiled = compiled_to;
        is = record { state = opening; encodes = record { typed = typed; words_are = refl } };
      } ∣₁

-- a call that is taken fits the code
pub fits_code : (b : ByCode) (call : ObjectCall) → Takeable Fits IsAt b call → IsFitting (parts_in b.coded.calls).exports call
fits_code b call t = subst (λ (q : EngineParts). IsFitting q.exports call) (sym t.stands.compiled.parts_are) t.takes

-- what the code makes of it
pub made_in_turn : (program : Program) (budget : ℕ) (call : ObjectCall) (before : Activation) (after : ByCode) (reply : Reply) → Standing.IsMade program budget call before after.coded reply →
    IsMadeInTurn IsAt program budget call before after reply
made_in_turn program budget call before after reply m = record { reply_is = m.reply_is; stands = m.stands }

-- the code stands where it is said to, where there is some
pub code_stands : (program : Program) (budget : ℕ) (state : Activation) (found : Option ByCode) (code : ByCode) → found ≡ Some code →
    IfSome found (λ (b : ByCode). Standing.StandsAt program budget state b.coded) → Standing.StandsAt program budget state code.coded
code_stands program budget state found code is h =
    subst (λ (o : Option ByCode). IfSome o (λ (b : ByCode). Standing.StandsAt program budget state b.coded)) is h
