-- Texts with the names by which their files are shown.
use Rattle.std.specs.Prelude.{ℕ, List, Option, option_map}
use Rattle.ob_explain_sentences.specs.Explanations.{explanation}
use Rattle.ob_explain_sentences.specs.Remarks.{Remark}
use Rattle.ob_explained.specs.declared.named_texts.Source as Rust

pub record Source : Type 0 where
  pub name : List ℕ
  pub text : List ℕ

abbrev pub source_of : Rust.Source → Source
source_of s = record { name = s.name.now; text = s.text.now }

-- what is shown of a remark on a text
abbrev pub shown_in : Source → Option Remark → Option (List ℕ)
shown_in source remark = option_map (explanation source.name source.text) remark
