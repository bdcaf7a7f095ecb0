-- The first line in which a call ends, looked for in place.
use Rattle.std.proofs.Common.{◌≡◌, ◌∙◌, ℕ, ◌+◌, ◌-◌, ◌<◌, ◌↔◌, Bool, Bor, IsTrue, List, ◌∷◌, ap, arith, codes, get_or, length, map, subst, sym}
use Rattle.ob_explained_records.specs.ExplainedHistories.{IsFirstEnd, NamesFirst, SaysEnd}
use Rattle.ob_explained_lines.proofs.Firsts.{HoldsOfNone, item_here}
use Rattle.ob_text_reading.specs.HistoryLines.{process_numbers}
use Rattle.ob_text_values_reading.proofs.Ids.{one_id}
use Rattle.ob_text_values_reading.specs.CallNames.{TakesId}
use Rattle.ob_text_reading.specs.RecordLines.{IsId}
use Rattle.ob_text_words.specs.Words.{Word, words}
use Rattle.wf_history.specs.declared.event.CallId.{CallId}

abbrev pub line_in : Bor (List ℕ) → List ℕ
line_in line = line.now

abbrev pub IsEndOf : CallId → List ℕ → Type 0
IsEndOf id line = SaysEnd id (words line)

pub end_found : (id : CallId) (ls : List (Bor (List ℕ))) (n : ℕ) (line d : Bor (List ℕ)) → n < length ls → line ≡ get_or ls n d → HoldsOfNone line_in (IsEndOf id) ls n →
    SaysEnd id (words line.now) → IsFirstEnd (map line_in ls) id (n + 1)
end_found id ls n line d within is before says =
    let same : n + 1 - 1 ≡ n = omega arith in
    record {
      line = line.now;
      counted = omega arith;
      here = rw same (item_here line_in (IsEndOf id) ls n line d within is);
      says = says;
      earlier = rw same before;
    }

-- the words of a line, by its first one

rest_of : (a b : Word) (xs ys : List Word) → a ∷ xs ≡ b ∷ ys → xs ≡ ys
rest_of a b xs ys e = cc

first_of : (a b : Word) (xs ys : List Word) → a ∷ xs ≡ b ∷ ys → a ≡ b
first_of a b xs ys e = cc

pub end_is : (id : CallId) (first : Word) (rest : List Word) (names : Bool) → first ≡ codes "E" → (IsTrue names ↔ NamesFirst id rest) → IsTrue names ↔ SaysEnd id (first ∷ rest)
end_is id first rest names same both = (
  λ t. (rest, ap (λ (w : Word). w ∷ rest) same, both.0 t),
  λ h. both.1 (subst (λ (ws : List Word). NamesFirst id ws) (sym (rest_of first (codes "E") rest h.0 h.1)) h.2),
)

pub no_end_is : (id : CallId) (first : Word) (rest : List Word) → (first ≡ codes "E" → ⊥) → ¬ SaysEnd id (first ∷ rest)
no_end_is id first rest other h = other (first_of first (codes "E") rest h.0 h.1)

-- the first word names the call where the name that was taken off is its own
pub names_is : (id named : CallId) (line rest : List ℕ) (same : Bool) → TakesId process_numbers line named rest → (IsTrue same ↔ (named ≡ id)) → IsTrue same ↔ NamesFirst id (words line)
names_is id named line rest same taken both = (
  λ t. (taken.word, words rest, taken.parts, subst (λ (i : CallId). IsId process_numbers taken.word i) (both.0 t) taken.names),
  λ h.
      let word : h.0 ≡ taken.word = first_of h.0 taken.word h.1 (words rest) (sym h.2 ∙ taken.parts) in
      both.1 (one_id taken.names (subst (λ (w : Word). IsId process_numbers w id) word h.3)),
)
