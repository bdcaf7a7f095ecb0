-- What is said of a fault of a module's text.
use Rattle.std.specs.Prelude.{◌≡◌, ℕ, List, Option, None}
use Rattle.ob_check.specs.declared.module_text.TextFault.{TextFault}
use Rattle.ob_check.specs.declared.module_text.TextFault.TheVariants as Texts
use Rattle.ob_diagnosis.specs.Remarks.{IsCheckRemark, IsParseRemark, IsScanRemark}
use Rattle.ob_explain_sentences.specs.Remarks.{Remark}

-- the remark on a fault of a module's text; none for want of memory
abbrev pub IsTextRemark : List ℕ → TextFault → Option Remark → Type 0
IsTextRemark text (Texts.Scan e) remark = IsScanRemark text e remark
IsTextRemark text (Texts.Parse e) remark = IsParseRemark text e remark
IsTextRemark text (Texts.Check e) remark = IsCheckRemark text e remark
IsTextRemark text Texts.NoMemory remark = remark ≡ None
