-- What is shown of a fault of the values of a record: at its place in the record's text, whatever is said of it.
use Rattle.std.specs.Global.{Global}
use Rattle.std.specs.Prelude.{◌≡◌, ℕ, List, Option, String, option_map, string_bytes}
use Rattle.ob_carry.specs.declared.carrying.CarryFault.{CarryFault}
use Rattle.ob_explain_sentences.specs.Remarks.{Remark}
use Rattle.ob_explained.specs.Sources.{Source, shown_in, source_of}
use Rattle.ob_explained.specs.declared.named_texts.Source as Rust
use Rattle.ob_explained.specs.ValueMarks.{IsCarryRemark, IsValuesRemark}
use Rattle.ob_text_values_reading.specs.declared.value_reading.ValuesFault.{ValuesFault}

-- of values that are not carried over
pub record IsCarryExplanation (source : Source) (fault : CarryFault) (shown : Option (List ℕ)) : Type 0 where
  pub remark : Option Remark
  pub remarked : IsCarryRemark source.text fault remark
  pub shows : shown ≡ shown_in source remark

-- of a record that tells no values
pub record IsValuesExplanation (source : Source) (fault : ValuesFault) (shown : Option (List ℕ)) : Type 0 where
  pub remark : Option Remark
  pub remarked : IsValuesRemark source.text fault remark
  pub shows : shown ≡ shown_in source remark

-- the same of a text and of what is shown as the code has them

abbrev pub ExplainsCarry : Rust.Source → CarryFault → Option (String Global) → Type 0
ExplainsCarry source fault shown = IsCarryExplanation (source_of source) fault (option_map string_bytes shown)

abbrev pub ExplainsValues : Rust.Source → ValuesFault → Option (String Global) → Type 0
ExplainsValues source fault shown = IsValuesExplanation (source_of source) fault (option_map string_bytes shown)
