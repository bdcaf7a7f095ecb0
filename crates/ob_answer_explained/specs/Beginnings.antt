-- How an object begins, by the bytes of the record that is named, where one is.
use Rattle.std.specs.Prelude.{ℕ, List, [], ◌∷◌, Option, None, Some}
use Rattle.ob_answer_files.specs.declared.answered.Answer.{Answer}
use Rattle.ob_carry.specs.Carried.{Entry}
use Rattle.ob_carry.specs.View.{entries_of}
use Rattle.ob_carry.specs.declared.fields_by_name.NamedField.{NamedField}
use Rattle.ob_object_compile.specs.Asked.{Beginning, ByBody, ByValues}
use Rattle.ob_text_values_reading.specs.ReadValues.{AreValuesOf, IsValuesFault, SaysNone}
use Rattle.ob_text_values_reading.specs.declared.value_reading.ValuesFault.{ValuesFault}

-- by the module's body, where no record is named; else with the values that the record's bytes tell
pub data Begins : List (List ℕ) → Beginning → Type 0 where
  by_body : Begins [] ByBody
  by_values : {bytes : List ℕ} {values : List Entry} → AreValuesOf bytes values → Begins (bytes ∷ []) (ByValues values)

-- a record is named whose bytes tell no values, and this says why: at a line
pub data TellsNone : List (List ℕ) → ValuesFault → Type 0 where
  none : {bytes : List ℕ} {fault : ValuesFault} → IsValuesFault bytes fault → SaysNone fault → TellsNone (bytes ∷ []) fault

-- Where the bytes of the record that is named tell no values that is told, before all that else is wrong with texts; else an answer is made
-- by how the object begins.
pub data WithBeginning (bytes : List (List ℕ)) (IsTold : ValuesFault → Answer → Type 0) (IsMade : Beginning → Answer → Type 0) (answer : Answer) : Type 0 where
  begun : (beginning : Beginning) → Begins bytes beginning → IsMade beginning answer → WithBeginning bytes IsTold IsMade answer
  untold : (fault : ValuesFault) → TellsNone bytes fault → IsTold fault answer → WithBeginning bytes IsTold IsMade answer

-- the beginning with the values that were read, where a record is named
abbrev pub begun_with : Option (List NamedField) → Beginning
begun_with None = ByBody
begun_with (Some values) = ByValues (entries_of values)

-- of a fault that is want of memory nothing is said
abbrev pub TellsNoneOf : List (List ℕ) → ValuesFault → Type 0
TellsNoneOf bytes fault = SaysNone fault → TellsNone bytes fault
