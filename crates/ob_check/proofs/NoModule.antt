-- A fault of a module's text rules out that it is one.
use Rattle.std.proofs.Common.{◌≡◌, ℕ, List, true, false, subst, arith}
use Rattle.ob_parser.specs.declared.parser.ParseFault.TheVariants as Parse
use Rattle.ob_grammar.specs.Texts.{IsTextOf}
use Rattle.ob_grammar.specs.Tree.{Module}
use Rattle.ob_scan.specs.declared.fault.ScanFault.TheVariants as Scan
use Rattle.ob_parser.specs.SourceFaults.{IsSourceFault, TellsNoTree}
use Rattle.ob_parser.specs.declared.parser.source.SourceFault.{SourceFault}
use Rattle.ob_parser.specs.declared.parser.source.SourceFault.TheVariants as Source
use Rattle.ob_typing.specs.Declarations.{WellTyped}
use Rattle.ob_typing.specs.Program.{Program}
use Rattle.ob_typing.proofs.OneVerdict.{no_fault}
use Rattle.ob_scopes.specs.declared.fault.CheckFault.{CheckFault}
use Rattle.ob_scopes.specs.declared.fault.CheckFault.TheVariants as Check
use Rattle.ob_check.specs.CheckingModules.{IsRefused}
use Rattle.ob_typing.specs.ModuleText.{IsModule}
use Rattle.ob_check.specs.CheckedText.{IsNumberedText, IsTextFault, of_check, of_source}

-- ---- no module

-- a text whose source has a fault
pub no_module_source : (text : List ℕ) (e : SourceFault) → IsSourceFault text e → (TellsNoTree e → (m : Module) → IsTextOf text m → ⊥)
    → IsNumberedText (of_source e) → (program : Program) → IsModule text program → ⊥
no_module_source text (Source.Scan (Scan.StrayByte p)) h none numbered program m = none tt m.tree m.text_of
no_module_source text (Source.Scan (Scan.NumberTooLarge p)) h none numbered program m = none tt m.tree m.text_of
no_module_source text (Source.Scan (Scan.OpenComment p)) h none numbered program m = none tt m.tree m.text_of
no_module_source text (Source.Scan (Scan.NameTooLong p)) h none numbered program m = none tt m.tree m.text_of
no_module_source text (Source.Scan Scan.TooLong) h none numbered program m =
    let short = m.short in
    let long = h.stands in
    absurd (omega arith)
no_module_source text (Source.Scan Scan.NoMemory) h none numbered program m = let bad : true ≡ false = numbered.0 in cc
no_module_source text (Source.Parse (Parse.Unexpected p)) h none numbered program m = none tt m.tree m.text_of
no_module_source text (Source.Parse (Parse.TooDeep p)) h none numbered program m = none tt m.tree m.text_of
no_module_source text (Source.Parse (Parse.NameDiffers p)) h none numbered program m = none tt m.tree m.text_of
no_module_source text (Source.Parse Parse.NoMemory) h none numbered program m = let bad : true ≡ false = numbered.0 in cc

-- its fault is the text's
pub source_fault : (text : List ℕ) (e : SourceFault) → IsSourceFault text e → IsTextFault text (of_source e)
source_fault text (Source.Scan (Scan.StrayByte p)) h = h
source_fault text (Source.Scan (Scan.NumberTooLarge p)) h = h
source_fault text (Source.Scan (Scan.OpenComment p)) h = h
source_fault text (Source.Scan (Scan.NameTooLong p)) h = h
source_fault text (Source.Scan Scan.TooLong) h = h
source_fault text (Source.Scan Scan.NoMemory) h = tt
source_fault text (Source.Parse (Parse.Unexpected p)) h = h
source_fault text (Source.Parse (Parse.TooDeep p)) h = h
source_fault text (Source.Parse (Parse.NameDiffers p)) h = h
source_fault text (Source.Parse Parse.NoMemory) h = tt

refused : (tree : Module) (e : CheckFault) → IsRefused e tree → IsNumberedText (of_check e) → (program : Program) → WellTyped tree program → ⊥
refused tree (Check.Broken fault) h numbered program typed = no_fault tree program fault typed h
refused tree Check.NoMemory h numbered program typed = let bad : true ≡ false = numbered.0 in cc

pub no_module_check : (text : List ℕ) (tree : Module) (e : CheckFault) → ((other : Module) → IsTextOf text other → other ≡ tree)
    → IsRefused e tree → IsNumberedText (of_check e) → (program : Program) → IsModule text program → ⊥
no_module_check text tree e only h numbered program m =
    refused tree e h numbered program (subst (λ (x : Module). WellTyped x program) (only m.tree m.text_of) m.typed)

-- ---- one module

pub one_program : (text : List ℕ) (tree : Module) (program : Program) → ((other : Module) → IsTextOf text other → other ≡ tree)
    → ((other : Program) → WellTyped tree other → other ≡ program) → (other : Program) → IsModule text other → other ≡ program
one_program text tree program only alone other m =
    alone other (subst (λ (x : Module). WellTyped x other) (only m.tree m.text_of) m.typed)

pub one_tree : (text : List ℕ) (tree kept : Module) → kept ≡ tree → ((other : Module) → IsTextOf text other → other ≡ tree)
    → (other : Module) → IsTextOf text other → other ≡ kept
one_tree text tree kept is only other of = let e = only other of in cc
