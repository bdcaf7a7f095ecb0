-- The values of openings are of their variables' types, by position too: so a record's object begins with a state of the module.
use Rattle.std.proofs.Common.{List, ◌∷◌, [], Option, Some, None, subst, sym}
use Rattle.ob_code_correct.specs.Kept.{OpeningsAreStates}
use Rattle.ob_code_scheme.specs.Types.{IsStateOf}
use Rattle.ob_code_scheme.specs.WellFormed.{IsWellFormed}
use Rattle.ob_meaning.specs.ByNameObject.{most_turns}
use Rattle.ob_meaning.specs.ByPositionStore.{Activation}
use Rattle.ob_object_calls.proofs.Beginnings.{AreOpened}
use Rattle.ob_object_calls.specs.Beginnings.{BeginsPlaced}
use Rattle.ob_object_compile.proofs.CarriedStates.{value_typed}
use Rattle.ob_text_reading.specs.Openings as Lines
use Rattle.ob_text_reading.specs.Openings.{AreOpenings}
use Rattle.ob_text_reading.specs.RecordLines.{Line}
use Rattle.ob_typing.specs.Program.{Variable, Program}

pub openings_typed : {variables : List Variable} {ls : List Line} {held : Activation} → AreOpenings variables ls held → IsStateOf variables held
openings_typed Lines.none = tt
openings_typed (Lines.more {variable = variable} {w = w} opens rest) =
    (value_typed variable.type opens.entry.value w opens.of_type opens.same, openings_typed rest)

module _ (program : Program) where
  pub beginning_typed : IsWellFormed program → OpeningsAreStates → (carried : Option Activation) → AreOpened program.variables carried →
      (state : Activation) → BeginsPlaced program carried state → IsStateOf program.variables state
  beginning_typed well states None opened state h = states program most_turns h.0 (state ∷ []) well h.1
  beginning_typed well states (Some held) opened state h =
      subst (λ (a : Activation). IsStateOf program.variables a) (sym h) (openings_typed opened.1)
