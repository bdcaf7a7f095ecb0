-- What is read of one line behind a record's first one, and of all of them.
use Rattle.std.specs.Prelude.{◌≡◌, ℕ, ◌+◌, List, [], ◌∷◌, ◌++◌, length, Bool, true, false}
use Rattle.ob_carry.specs.Carried.{Entry}
use Rattle.ob_text_values_reading.specs.RecordTexts.{Line}
use Rattle.ob_text_values_reading.specs.ReadValues.{AreTold, LeadsOn}
use Rattle.ob_text_values_reading.specs.declared.value_reading.ValuesFault.{ValuesFault}
use Rattle.ob_text_values_reading.specs.declared.value_reading.ValuesFault.TheVariants as Faults

-- a line leads from these to those, or to none where it may not stand there
abbrev pub TellsLine : (told : List Entry) → Line → (next : List Entry) → Bool → Type 0
TellsLine told line next true = LeadsOn told line next
TellsLine told line next false = (other : List Entry) → ¬ LeadsOn told line other

abbrev pub TellsBehind : List Line → List Entry → Type 0
TellsBehind ls entries = AreTold [] ls entries

-- the first of the lines behind the first one that may not stand there
pub record FailsBehind (ls : List Line) (number : ℕ) : Type 0 where
  pub before : List Line
  pub line : Line
  pub rest : List Line
  pub told : List Entry
  pub parts : ls ≡ before ++ line ∷ rest
  pub counted : number ≡ length before + 2
  pub so_far : AreTold [] before told
  pub stops : (next : List Entry) → ¬ LeadsOn told line next

abbrev pub FaultBehind : List Line → ValuesFault → Type 0
FaultBehind ls (Faults.Form number) = FailsBehind ls number
FaultBehind ls Faults.NoMemory = Unit {0}
