-- What a record's text tells of the values of variables: the first of its lines that are no remarks has to be one of a record of some
-- version, and of the lines behind it those whose first byte is V are looked at. No other line is.
use Rattle.std.specs.Prelude.{ℕ, ◌+◌, List, [], ◌∷◌, ◌++◌, length}
use Rattle.ob_carry.specs.Carried.{Entry, NoneNamed}
use Rattle.ob_text_values_reading.specs.Comments.{StandsAmong, said}
use Rattle.ob_text_values_reading.specs.RecordTexts.{IsTitle, Line, record_lines}
use Rattle.ob_text_values_reading.specs.Variables.{BeginsWith, IsVariableLine}
use Rattle.ob_text_values_reading.specs.Versions.{version_word}
use Rattle.ob_text_values_reading.specs.declared.value_reading.ValuesFault.{ValuesFault}
use Rattle.ob_text_values_reading.specs.declared.value_reading.ValuesFault.TheVariants as Faults
use Rattle.ob_text_values_reading.specs.declared.title.Version.{Version}

-- behind lines that tell these, a line leads to those: one of a variable whose name is new, or one that is not looked at
pub data LeadsOn (told : List Entry) (line : Line) : List Entry → Type 0 where
  other : ¬ BeginsWith 86 line → LeadsOn told line told
  variable : {e : Entry} → IsVariableLine 86 line e → NoneNamed told e.name → LeadsOn told line (told ++ e ∷ [])

-- behind lines that tell these, with those of further lines
pub data AreTold : List Entry → List Line → List Entry → Type 0 where
  nothing : {told : List Entry} → AreTold told [] told
  more : {told next all : List Entry} {line : Line} {rest : List Line} → LeadsOn told line next → AreTold next rest all → AreTold told (line ∷ rest) all

-- the lines tell these names and values: the first is the title of some version
pub data AreValuesIn : List Line → List Entry → Type 0 where
  values : {title : Line} {rest : List Line} {entries : List Entry} (version : Version) →
      IsTitle (version_word version) title → AreTold [] rest entries → AreValuesIn (title ∷ rest) entries

abbrev pub AreValuesOf : List ℕ → List Entry → Type 0
AreValuesOf text entries = AreValuesIn (said (record_lines text)) entries

-- some lines that tell values begin with these
pub record BeginsValues (ls : List Line) : Type 0 where
  pub rest : List Line
  pub entries : List Entry
  pub whole : AreValuesIn (ls ++ rest) entries

-- F1: the first line with which no lines that tell values begin, or the line that is missing; lines count from 1
pub data FailsAtLine : List Line → ℕ → Type 0 where
  misplaced : (before : List Line) (line : Line) (rest : List Line) → BeginsValues before → ¬ BeginsValues (before ++ line ∷ []) →
      FailsAtLine (before ++ line ∷ rest) (length before + 1)
  missing : {ls : List Line} → BeginsValues ls → ((entries : List Entry) → ¬ AreValuesIn ls entries) → FailsAtLine ls (length ls + 1)

abbrev pub FaultStands : List Line → ValuesFault → Type 0
FaultStands ls (Faults.Form number) = FailsAtLine ls number
FaultStands ls Faults.NoMemory = Unit {0}

-- the same of the lines of a text: of those that are no remarks, told by its number among all
abbrev pub FaultAmong : List Line → ValuesFault → Type 0
FaultAmong ls (Faults.Form number) = StandsAmong FailsAtLine ls number
FaultAmong ls Faults.NoMemory = Unit {0}

abbrev pub SaysNone : ValuesFault → Type 0
SaysNone (Faults.Form number) = Unit {0}
SaysNone Faults.NoMemory = ⊥

-- the fault stands at its line, and the text tells no values
pub record IsValuesFault (text : List ℕ) (fault : ValuesFault) : Type 0 where
  pub stands : FaultAmong (record_lines text) fault
  pub none : SaysNone fault → (entries : List Entry) → AreValuesOf text entries → ⊥
