-- A text that is no module has no names.
use Rattle.std.proofs.Common.{◌≡◌, ℕ, List, [], false, sym, arith}
use Rattle.std.proofs.lemmas.Bool.{false≢true}
use Rattle.ob_scan.specs.declared.fault.ScanFault.TheVariants as Scanning
use Rattle.ob_grammar.specs.Texts.{IsTextOf}
use Rattle.ob_grammar.specs.Tree.{Module}
use Rattle.ob_parser.specs.declared.parser.ParseFault.TheVariants as Parsing
use Rattle.ob_parser.specs.declared.parser.source.SourceFault.{SourceFault}
use Rattle.ob_parser.specs.declared.parser.source.SourceFault.TheVariants.{Scan, Parse}
use Rattle.ob_parser.specs.SourceFaults.{IsSourceFault, TellsNoTree}
use Rattle.ob_explain_names.specs.Visible.{AreVisible, in_none, is_memory}

pub none_visible : (text : List ℕ) (at : ℕ) (fault : SourceFault) → IsSourceFault text fault →
    (TellsNoTree fault → (m : Module) → IsTextOf text m → ⊥) → is_memory fault ≡ false → AreVisible text at []
none_visible text at (Scan Scanning.NoMemory) is none not = absurd (false≢true (sym not))
none_visible text at (Scan Scanning.TooLong) is none not = in_none (λ short m h. omega (arith, short, is.stands))
none_visible text at (Scan (Scanning.StrayByte p)) is none not = in_none (λ short. none tt)
none_visible text at (Scan (Scanning.NumberTooLarge p)) is none not = in_none (λ short. none tt)
none_visible text at (Scan (Scanning.OpenComment p)) is none not = in_none (λ short. none tt)
none_visible text at (Scan (Scanning.NameTooLong p)) is none not = in_none (λ short. none tt)
none_visible text at (Parse Parsing.NoMemory) is none not = absurd (false≢true (sym not))
none_visible text at (Parse (Parsing.Unexpected p)) is none not = in_none (λ short. none tt)
none_visible text at (Parse (Parsing.TooDeep p)) is none not = in_none (λ short. none tt)
none_visible text at (Parse (Parsing.NameDiffers p)) is none not = in_none (λ short. none tt)
