-- At which word of a record's text a mark stands that is about its values.
use Rattle.std.specs.Prelude.{◌≡◌, ℕ, List, Option, None, Some, slice_get}
use Rattle.ob_carry.specs.declared.carrying.CarryFault.{CarryFault}
use Rattle.ob_carry.specs.declared.carrying.CarryFault.TheVariants as Carry
use Rattle.ob_explain_sentences.specs.Remarks.{Remark}
use Rattle.ob_explained.specs.Marks.{MarksWord}
use Rattle.ob_explained.specs.ValueLines.{value_lines}
use Rattle.ob_text_values_reading.specs.declared.value_reading.ValuesFault.{ValuesFault}
use Rattle.ob_text_values_reading.specs.declared.value_reading.ValuesFault.TheVariants as Values

-- a place at a word of the line in which the value at a position stands
pub record MarksValue (text : List ℕ) (position word place : ℕ) : Type 0 where
  pub number : ℕ
  pub is_line : slice_get (value_lines text) position ≡ Some number
  pub marks : MarksWord text number word place

-- a remark there; none where there are fewer values
abbrev pub IsAtValue : (text : List ℕ) (position word : ℕ) → Option Remark → Type 0
IsAtValue text position word None = slice_get (value_lines text) position ≡ None
IsAtValue text position word (Some remark) = MarksValue text position word remark.place

-- of a name that is none of the module's variables at the name, and of a value that is none of its variable's type at the value
abbrev pub IsCarryRemark : (text : List ℕ) → CarryFault → Option Remark → Type 0
IsCarryRemark text (Carry.Unknown position) remark = IsAtValue text position 1 remark
IsCarryRemark text (Carry.Unfit position) remark = IsAtValue text position 2 remark
IsCarryRemark text Carry.NoMemory remark = remark ≡ None

-- a remark at the first word of a line
abbrev pub IsAtLine : (text : List ℕ) (number : ℕ) → Option Remark → Type 0
IsAtLine text number None = ⊥
IsAtLine text number (Some remark) = MarksWord text number 0 remark.place

-- of a line that may not stand there
abbrev pub IsValuesRemark : (text : List ℕ) → ValuesFault → Option Remark → Type 0
IsValuesRemark text (Values.Form number) remark = IsAtLine text number remark
IsValuesRemark text Values.NoMemory remark = remark ≡ None
