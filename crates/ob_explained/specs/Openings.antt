-- What is told of an opening that traps.
use Rattle.std.specs.Prelude.{◌≡◌, ℕ, List, ◌++◌, Option, None, Some, codes, decimal, option_map}
use Rattle.ob_explain_sentences.specs.Explanations.{explanation}
use Rattle.ob_grammar.specs.Texts.{IsTextOf}
use Rattle.ob_grammar.specs.Tree.{Module}
use Rattle.ob_mean.specs.declared.openings.OpenFault.{OpenFault}
use Rattle.ob_mean.specs.declared.openings.OpenFault.TheVariants as Open
use Rattle.ob_meaning.specs.ByNameObject.{OpeningTraps, most_turns}
use Rattle.ob_trap_places.specs.Places.{place_of}
use Rattle.ob_trap_places.specs.TrapOfCall.{site_of_opening}
use Rattle.ob_trap_places.specs.Site.{Cause, Site}
use Rattle.ob_typing.specs.ModuleText.{IsModule}
use Rattle.ob_typing.specs.Program.{Program}
use Rattle.ob_explained.specs.TrapSentences.{cause_sentence}
use Rattle.ob_explained.specs.declared.cause.Runner.TheVariants as Runners

-- the line by which `check` tells it
abbrev pub trap_line : (trap : ℕ) → List ℕ
trap_line trap = codes "O2 trap " ++ decimal trap ++ codes "\n"

-- what is said of the operation
abbrev pub opening_sentence : Cause → List ℕ
opening_sentence cause = codes "the module's body traps here, so the object has no first state: " ++ cause_sentence Runners.Body cause

-- the operation's place in the text of this name, its line with a mark below it, and what is said of it
abbrev pub operation_lines : (name text : List ℕ) → Cause → (place : ℕ) → List ℕ
operation_lines name text cause place = explanation name text (record { place = place; sentence = opening_sentence cause; hint = None })

-- a trap that comes from there, whose operation has this place
abbrev pub trap_lines : (name text : List ℕ) → Site → (place : ℕ) → List ℕ
trap_lines name text site place = trap_line site.number ++ operation_lines name text site.cause place

-- a trap of an opening, if it traps, in the text of this tree
abbrev pub site_lines : (name text : List ℕ) → Module → Option Site → Option (List ℕ)
site_lines name text tree None = None
site_lines name text tree (Some site) = option_map (trap_lines name text site) (place_of tree site)

-- The text is that of a module whose opening ends by a trap; the trap is told with the operation from which it comes, which has a
-- place in the text.
pub record IsTrapTold (name text told : List ℕ) : Type 0 where
  pub program : Program
  pub is_module : IsModule text program
  pub tree : Module
  pub is_tree : IsTextOf text tree
  pub site : Site
  pub comes : site_of_opening program most_turns ≡ Some site
  pub traps : OpeningTraps program site.number
  pub place : ℕ
  pub placed : place_of tree site ≡ Some place
  pub is : told ≡ trap_lines name text site place

-- where nothing is told, the text is that of no module whose opening traps
abbrev pub IsTrapExplanation : (name text : List ℕ) → Option (List ℕ) → Type 0
IsTrapExplanation name text None = (program : Program) → IsModule text program → (trap : ℕ) → OpeningTraps program trap → ⊥
IsTrapExplanation name text (Some told) = IsTrapTold name text told

-- what is shown of a fault of the opening of this text's module; nothing of want of memory
abbrev pub IsOpenExplanation : (name text : List ℕ) → OpenFault → Option (List ℕ) → Type 0
IsOpenExplanation name text (Open.Trap trap) shown = IsTrapExplanation name text shown
IsOpenExplanation name text Open.NoMemory shown = shown ≡ None
