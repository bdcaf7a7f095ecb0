-- What reading a text to its module answers.
use Rattle.std.specs.Prelude.{ℕ, List}
use Rattle.ob_scan.specs.ScanFaults.{IsScanFault}
use Rattle.ob_syntax.specs.declared.tree_reader.ReadFault.{ReadFault}
use Rattle.ob_syntax.specs.declared.tree_reader.ReadFault.TheVariants.{Scan, Parse}
use Rattle.ob_scan.specs.declared.fault.ScanFault.TheVariants as ScanFaults
use Rattle.ob_parser.specs.declared.parser.ParseFault.TheVariants as ParseFaults
use Rattle.ob_parser.specs.ParseFaults.{IsParseFaultOf}

-- a fault of the scanner, or one of the parser on the text's tokens
pub data IsReadFault (text : List ℕ) : ReadFault → Type 0 where
  in_scan : {fault : _} → IsScanFault text fault → IsReadFault text (Scan fault)
  in_parse : {fault : _} → IsParseFaultOf text fault → IsReadFault text (Parse fault)

-- want of memory
pub data IsWant : ReadFault → Type 0 where
  of_scan : IsWant (Scan ScanFaults.NoMemory)
  of_parse : IsWant (Parse ParseFaults.NoMemory)
