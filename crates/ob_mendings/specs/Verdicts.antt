-- What `check` finds in a text.
use Rattle.std.specs.Prelude.{ℕ, List, Option, None, Some}
use Rattle.ob_check.specs.CheckedText.{IsNumberedText, IsTextFault}
use Rattle.ob_check.specs.declared.module_text.TextFault.{TextFault}
use Rattle.ob_typing.specs.ModuleText.{IsModule}
use Rattle.ob_typing.specs.Program.{Program}

abbrev pub IsRight : (text : List ℕ) → Type 0
IsRight text = (program : Program) × IsModule text program

-- the text is that of no module, and has this fault, which has a number
pub record Finds (text : List ℕ) (e : TextFault) : Type 0 where
  pub says : IsTextFault text e
  pub numbered : IsNumberedText e
  pub none : IsRight text → ⊥

abbrev pub IsVerdict : (text : List ℕ) → Option TextFault → Type 0
IsVerdict text None = IsRight text
IsVerdict text (Some e) = Finds text e
