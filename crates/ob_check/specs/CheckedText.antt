-- The faults of a text that is no module.
use Rattle.std.specs.Prelude.{◌≡◌, ◌≢◌, ℕ, Bool, true, false, List}
use Rattle.ob_scan.specs.ScanFaults.{IsScanFault}
use Rattle.ob_scan.specs.declared.fault.ScanFault.{ScanFault}
use Rattle.ob_scan.specs.declared.fault.ScanFault.TheVariants as Scan
use Rattle.ob_parser.specs.ParseFaults.{IsParseFaultOf}
use Rattle.ob_parser.specs.declared.parser.ParseFault.{ParseFault}
use Rattle.ob_parser.specs.declared.parser.ParseFault.TheVariants as Parse
use Rattle.ob_parser.specs.declared.parser.source.SourceFault.{SourceFault}
use Rattle.ob_parser.specs.declared.parser.source.SourceFault.TheVariants as Source
use Rattle.ob_check.specs.ModuleText.{IsCheckFaultOf}
use Rattle.ob_scopes.specs.declared.fault.CheckFault.{CheckFault}
use Rattle.ob_scopes.specs.declared.fault.CheckFault.TheVariants as Check
use Rattle.ob_check.specs.declared.module_text.TextFault.{TextFault}
use Rattle.ob_check.specs.declared.module_text.TextFault.TheVariants as Faults

-- what each fault says of a text
abbrev pub IsTextFault : List ℕ → TextFault → Type 0
IsTextFault text (Faults.Scan e) = IsScanFault text e
IsTextFault text (Faults.Parse e) = IsParseFaultOf text e
IsTextFault text (Faults.Check e) = IsCheckFaultOf text e
IsTextFault text Faults.NoMemory = Unit {0}

-- want of memory is told by its own variant alone
abbrev pub TellsTextMemoryApart : TextFault → Type 0
TellsTextMemoryApart (Faults.Scan e) = e ≢ Scan.NoMemory
TellsTextMemoryApart (Faults.Parse e) = e ≢ Parse.NoMemory
TellsTextMemoryApart (Faults.Check e) = e ≢ Check.NoMemory
TellsTextMemoryApart Faults.NoMemory = Unit {0}

abbrev pub is_text_memory : TextFault → Bool
is_text_memory Faults.NoMemory = true
is_text_memory _ = false

-- a fault with a number, so no want of memory
abbrev pub IsNumberedText : TextFault → Type 0
IsNumberedText fault = (is_text_memory fault ≡ false) × TellsTextMemoryApart fault

-- want of memory is told in one place

abbrev pub of_scan : ScanFault → TextFault
of_scan Scan.NoMemory = Faults.NoMemory
of_scan e = Faults.Scan e

abbrev pub of_parse : ParseFault → TextFault
of_parse Parse.NoMemory = Faults.NoMemory
of_parse e = Faults.Parse e

abbrev pub of_source : SourceFault → TextFault
of_source (Source.Scan e) = of_scan e
of_source (Source.Parse e) = of_parse e

abbrev pub of_check : CheckFault → TextFault
of_check Check.NoMemory = Faults.NoMemory
of_check e = Faults.Check e
