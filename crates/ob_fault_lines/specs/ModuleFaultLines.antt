-- The line that tells each fault of a module: of its text and of its opening.
use Rattle.std.specs.Prelude.{ℕ, List, ◌++◌, codes, decimal}
use Rattle.ob_scan.specs.declared.fault.ScanFault.{ScanFault}
use Rattle.ob_scan.specs.declared.fault.ScanFault.TheVariants as Scan
use Rattle.ob_scan.specs.Limits.{longest_text}
use Rattle.ob_parser.specs.declared.parser.ParseFault.{ParseFault}
use Rattle.ob_parser.specs.declared.parser.ParseFault.TheVariants as Parse
use Rattle.ob_typing.specs.declared.rule.Rule.{Rule}
use Rattle.ob_typing.specs.declared.rule.Rule.TheVariants as Rules
use Rattle.ob_scopes.specs.declared.fault.CheckFault.{CheckFault}
use Rattle.ob_scopes.specs.declared.fault.CheckFault.TheVariants as Check
use Rattle.ob_mean.specs.declared.openings.OpenFault.{OpenFault}
use Rattle.ob_mean.specs.declared.openings.OpenFault.TheVariants as Open
use Rattle.ob_check.specs.declared.module_text.TextFault.{TextFault}
use Rattle.ob_check.specs.declared.module_text.TextFault.TheVariants as Texts

abbrev pub Text : Type 0
Text = List ℕ

-- at a byte offset of the module's text
abbrev pub at_place : Text → ℕ → Text
at_place fault place = fault ++ codes " at " ++ decimal place

abbrev pub no_memory_line : Text
no_memory_line = codes "NoMemory"

abbrev pub scan_line : ScanFault → Text
scan_line (Scan.StrayByte place) = at_place (codes "S1") place
scan_line (Scan.NumberTooLarge place) = at_place (codes "S2") place
scan_line (Scan.OpenComment place) = at_place (codes "S3") place
scan_line (Scan.NameTooLong place) = at_place (codes "S4") place
scan_line Scan.TooLong = at_place (codes "S5") longest_text
scan_line Scan.NoMemory = no_memory_line

abbrev pub parse_line : ParseFault → Text
parse_line (Parse.Unexpected place) = at_place (codes "P1") place
parse_line (Parse.TooDeep place) = at_place (codes "P2") place
parse_line (Parse.NameDiffers place) = at_place (codes "P3") place
parse_line Parse.NoMemory = no_memory_line

abbrev pub rule_number : Rule → Text
rule_number Rules.UnknownName = codes "C1"
rule_number Rules.DeclaredTwice = codes "C2"
rule_number Rules.WrongKind = codes "C3"
rule_number Rules.TypesDiffer = codes "C4"
rule_number Rules.BadConstant = codes "C5"
rule_number Rules.BadLength = codes "C6"
rule_number Rules.BadActuals = codes "C7"
rule_number Rules.WrongLevel = codes "C8"
rule_number Rules.PassesLimit = codes "C9"
rule_number Rules.BadExport = codes "C10"

abbrev pub rule_line : CheckFault → Text
rule_line (Check.Broken fault) = at_place (rule_number fault.rule) fault.place
rule_line Check.NoMemory = no_memory_line

abbrev pub text_line : TextFault → Text
text_line (Texts.Scan e) = scan_line e
text_line (Texts.Parse e) = parse_line e
text_line (Texts.Check e) = rule_line e
text_line Texts.NoMemory = no_memory_line

abbrev pub open_line : OpenFault → Text
open_line (Open.Trap trap) = codes "O2 trap " ++ decimal trap
open_line Open.NoMemory = no_memory_line
