-- What each fault of a text says that is parsed as it is scanned.
use Rattle.std.specs.Prelude.{ℕ, List}
use Rattle.ob_scan.specs.ScanFaults.{IsScanFault, SaysNone}
use Rattle.ob_parser.specs.declared.parser.ParseFault.TheVariants as Parsing
use Rattle.ob_parser.specs.declared.parser.source.SourceFault.{SourceFault}
use Rattle.ob_parser.specs.declared.parser.source.SourceFault.TheVariants.{Scan, Parse}
use Rattle.ob_parser.specs.ParseFaults.{IsParseFaultOf}

-- A fault of the grammar is told only of a text that has tokens, so behind each fault of the scanner.
abbrev pub IsSourceFault : List ℕ → SourceFault → Type 0
IsSourceFault text (Scan e) = IsScanFault text e
IsSourceFault text (Parse Parsing.NoMemory) = Unit {0}
IsSourceFault text (Parse e) = IsParseFaultOf text e

-- the faults that say that the text is of no module: all but the length and want of memory
abbrev pub TellsNoTree : SourceFault → Type 0
TellsNoTree (Scan e) = SaysNone e
TellsNoTree (Parse Parsing.NoMemory) = ⊥
TellsNoTree (Parse e) = Unit {0}
