-- What is told of a fault, without where it lies in memory.
use Rattle.std.specs.Prelude.{ℕ, List, Option, Some, None, option_map, string_bytes}
use Rattle.ob_explain_sentences.specs.declared.remark.Remark as Told

-- a sentence on the byte at an offset, and a hint on what it may come of
pub record Remark : Type 0 where
  pub place : ℕ
  pub sentence : List ℕ
  pub hint : Option (List ℕ)

abbrev pub remark_of : Told.Remark → Remark
remark_of r = record { place = r.place; sentence = string_bytes r.sentence; hint = option_map string_bytes r.hint }

abbrev pub at : ℕ → List ℕ → Option Remark
at place sentence = Some (record { place = place; sentence = sentence; hint = None })
