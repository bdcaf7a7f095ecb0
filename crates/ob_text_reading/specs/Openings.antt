-- The lines of the values that an object began with, where they were carried over.
use Rattle.std.specs.Prelude.{◌≡◌, ℕ, ◌+◌, List, [], ◌∷◌, ◌++◌, length}
use Rattle.ob_meaning.specs.Same.{SameValue}
use Rattle.ob_carry.specs.Carried.{Entry}
use Rattle.ob_carry.specs.Values.{IsValueOf}
use Rattle.ob_meaning.specs.ByPositionStore.{Activation, Holds}
use Rattle.ob_meaning.specs.ByPositionValue.{Value}
use Rattle.ob_text_reading.specs.declared.record_reading.RecordFault.{RecordFault}
use Rattle.ob_text_reading.specs.declared.record_reading.RecordFault.TheVariants as Faults
use Rattle.ob_text_values_reading.specs.RecordTexts.{Line}
use Rattle.ob_text_values_reading.specs.Variables.{IsVariableLine}
use Rattle.ob_typing.specs.Program.{Variable}

-- I name value: the line of a variable, and a value of its type
pub record IsOpening (variable : Variable) (line : Line) (w : Value) : Type 0 where
  pub entry : Entry
  pub says : IsVariableLine 73 line entry
  pub named : entry.name ≡ variable.name
  pub of_type : IsValueOf variable.type entry.value
  pub same : SameValue variable.type entry.value w

-- such a line for each of the variables, in their order
pub data AreOpenings : List Variable → List Line → Activation → Type 0 where
  none : AreOpenings [] [] []
  more : {variable : Variable} {variables : List Variable} {line : Line} {ls : List Line} {w : Value} {held : Activation} →
      IsOpening variable line w → AreOpenings variables ls held → AreOpenings (variable ∷ variables) (line ∷ ls) (Holds w ∷ held)

-- lines begin with the openings of the variables, and these stand behind them
pub record OpensWith (variables : List Variable) (ls rest : List Line) (held : Activation) : Type 0 where
  pub openings : List Line
  pub parts : ls ≡ openings ++ rest
  pub each : AreOpenings variables openings held

-- behind three lines, the first line that should be the opening of a variable and is not, or is missing
pub record StopsAt (variables : List Variable) (ls : List Line) (number : ℕ) : Type 0 where
  pub first : List Variable
  pub variable : Variable
  pub others : List Variable
  pub order : variables ≡ first ++ variable ∷ others
  pub before : List Line
  pub left : List Line
  pub held : Activation
  pub parts : ls ≡ before ++ left
  pub each : AreOpenings first before held
  pub counted : number ≡ length before + 4
  pub stops : (line : Line) (rest : List Line) (w : Value) → left ≡ line ∷ rest → IsOpening variable line w → ⊥

abbrev pub OpeningFault : List Variable → List Line → RecordFault → Type 0
OpeningFault variables ls (Faults.Form number) = StopsAt variables ls number
OpeningFault variables ls Faults.NoMemory = Unit {0}
