-- Where a record names a call.
use Rattle.std.specs.Prelude.{◌≡◌, ℕ, Bool, true, false, List, Option, None, MatchOption, option_map}
use Rattle.ob_explained.specs.ScriptPlaces.{in_line, word_place}
use Rattle.ob_explained_lines.specs.CallNames.{IsNaming, IsNextNaming}
use Rattle.ob_explained_records.specs.FormRemarks.{line_at}
use Rattle.ob_explained_lines.specs.Lines.{IsLine}
use Rattle.ob_explained_lines.specs.declared.record_line.Wanted.TheVariants as Wants
use Rattle.ob_text_words.specs.Words.{Word, words}
use Rattle.wf_history.specs.declared.event.CallId.{CallId}

-- in the line of the call's end, behind the E
abbrev pub IsEndPlace : List ℕ → CallId → Option ℕ → Type 0
IsEndPlace text id place = (line : Option ℕ) × IsLine text (Wants.End id) line × (place ≡ option_map (λ number. in_line (word_place 1) text number) line)

-- the first word that names the call, or the next one behind that
abbrev pub IsNamed : (again : Bool) → List Word → CallId → Option ℕ → Type 0
IsNamed true = IsNextNaming
IsNamed false = IsNaming

abbrev pub IsPlaceNamed : List ℕ → (number : ℕ) → CallId → (again : Bool) → Option ℕ → Type 0
IsPlaceNamed text number id again place =
    (word : Option ℕ) × IsNamed again (words (line_at text number)) id word × (place ≡ option_map (λ at. in_line (word_place at) text number) word)

-- in the line of the order
abbrev pub IsOrderPlace : List ℕ → CallId → (again : Bool) → Option ℕ → Type 0
IsOrderPlace text id again place =
    (line : Option ℕ) × IsLine text Wants.Order line × MatchOption line (place ≡ None) (λ number. IsPlaceNamed text number id again place)
