-- The lines that tell of the traps of calls.
use Rattle.std.specs.Prelude.{ℕ, List, [], ◌∷◌, ◌++◌, Option, Some, None, codes, decimal, flat_map, if◌then◌else◌, nat_lt, slice_index_or}
use Rattle.ob_explain_sentences.specs.Explanations.{explanation}
use Rattle.ob_explained.specs.Sources.{Source, source_of}
use Rattle.ob_explained.specs.TrapSentences.{cause_sentence}
use Rattle.ob_explained.specs.declared.cause.Runner.TheVariants as Runners
use Rattle.ob_grammar.specs.Tree
use Rattle.ob_grammar.specs.View.{module_of}
use Rattle.ob_trap_places.specs.Places.{place_of}
use Rattle.ob_trap_places.specs.Site.{Site}
use Rattle.ob_explained_traps.specs.NamedCalls.{Calls, calls_of, name_at}
use Rattle.ob_explained_traps.specs.TrapPlaces.{count_at, firsts, is_first, spots_of}
use Rattle.ob_explained_traps.specs.declared.spots.Spot.{Spot}
use Rattle.ob_explained_traps.specs.declared.trap_lines.Setting as Rust

-- the text of the module with its tree, the calls, and the budget of each
pub record Setting : Type 0 where
  pub object : Source
  pub tree : Tree.Module
  pub calls : Calls
  pub budget : ℕ

abbrev pub setting_of : Rust.Setting → Setting
setting_of s = record {
  object = source_of s.object;
  tree = module_of s.tree.now;
  calls = calls_of s.calls;
  budget = s.budget;
}

-- the number of a call's trap
unfoldable pub trap_text : (trap : ℕ) → List ℕ
trap_text trap = codes ": trap " ++ decimal trap ++ codes "\n"

-- which call it is that traps, and by which number
abbrev pub heading : Calls → (k trap : ℕ) → List ℕ
heading calls k trap = name_at calls k ++ trap_text trap

-- the operation's place in the text of the module, its line with a mark below it, and what is said of it
abbrev pub place_lines : Setting → Site → Option ℕ → List ℕ
place_lines setting site None = []
place_lines setting site (Some place) =
    explanation setting.object.name setting.object.text
    (record { place = place; sentence = cause_sentence (Runners.Call setting.budget) site.cause; hint = None })

-- of the operation that a trap comes from
abbrev pub site_place_lines : Setting → Site → List ℕ
site_place_lines setting site = place_lines setting site (place_of setting.tree site)

-- of the call at a position, whose trap comes from there
abbrev pub site_lines : Setting → (k : ℕ) → Option Site → List ℕ
site_lines setting k None = []
site_lines setting k (Some site) = heading setting.calls k site.number ++ site_place_lines setting site

-- how many calls trap at the place, where there are more than this one
unfoldable pub count_text : (count : ℕ) → List ℕ
count_text count = decimal count ++ codes " calls trap here, of which this is the first\n"

abbrev pub count_lines : (count : ℕ) → List ℕ
count_lines count = if nat_lt 1 count then count_text count else []

-- of the first call at its place
abbrev pub first_lines : Setting → List (Option Spot) → (k : ℕ) → Option Site → List ℕ
first_lines setting spots k site = site_lines setting k site ++ count_lines (count_at spots k)

abbrev pub lines_if_first : Setting → List (Option Spot) → (k : ℕ) → Option Site → List ℕ
lines_if_first setting spots k site = if is_first spots k then first_lines setting spots k site else []

-- of calls whose traps come from these sites, at these places
abbrev pub lines_at : Setting → (sites : List (Option Site)) → List (Option Spot) → (k : ℕ) → List ℕ
lines_at setting sites spots k = first_lines setting spots k (slice_index_or sites k None)

abbrev pub places_lines : Setting → (sites : List (Option Site)) → List (Option Spot) → List ℕ
places_lines setting sites spots = flat_map (lines_at setting sites spots) (firsts spots)

-- What is told of calls whose traps come from these sites: each place at which calls trap, in the order of the first calls there.
abbrev pub traps_lines : Setting → (sites : List (Option Site)) → List ℕ
traps_lines setting sites = places_lines setting sites (spots_of setting.tree sites)

-- a line where there are no others
abbrev pub or_none : List ℕ → List ℕ
or_none [] = codes "no call traps\n"
or_none (b ∷ bytes) = b ∷ bytes
