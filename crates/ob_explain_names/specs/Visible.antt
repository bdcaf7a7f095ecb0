-- The names that are visible at a place of a text.
use Rattle.std.specs.Prelude.{ℕ, ◌≤◌, nat_lt, Bool, true, false, List, [], filter, length}
use Rattle.ob_scan.specs.Limits.{longest_text}
use Rattle.ob_scan.specs.declared.fault.ScanFault.TheVariants as Scanning
use Rattle.ob_grammar.specs.Texts.{IsTextOf}
use Rattle.ob_grammar.specs.Tree.{Declarations, Module}
use Rattle.ob_parser.specs.declared.parser.ParseFault.TheVariants as Parsing
use Rattle.ob_parser.specs.declared.parser.source.SourceFault.{SourceFault}
use Rattle.ob_parser.specs.declared.parser.source.SourceFault.TheVariants.{Scan, Parse}
use Rattle.ob_explain_names.specs.Known.{known_in}
use Rattle.ob_explain_names.specs.declared.known.Known.{Known}

-- of those that declarations declare the ones that stand before a place: a name is known behind its declaration only
abbrev pub visible : ℕ → Declarations → List Known
visible at declarations = filter (λ name. nat_lt name.place at) (known_in at declarations)

-- of the module that a text is; none of a text that is no module, or longer than any is
pub data AreVisible (text : List ℕ) (at : ℕ) : List Known → Type 0 where
  in_module : (m : Module) → IsTextOf text m → AreVisible text at (visible at m.declarations)
  in_none : (length text ≤ longest_text → (m : Module) → IsTextOf text m → ⊥) → AreVisible text at []

-- want of memory
abbrev pub is_memory : SourceFault → Bool
is_memory (Scan Scanning.NoMemory) = true
is_memory (Parse Parsing.NoMemory) = true
is_memory _ = false
