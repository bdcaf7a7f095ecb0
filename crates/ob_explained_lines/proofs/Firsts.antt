-- The first item of a list of which a fact holds, looked for in place.
use Rattle.std.proofs.Common.{◌≡◌, ◌∙◌, ℕ, ◌+◌, ◌-◌, ◌<◌, ◌≤◌, ◌↔◌, Bool, Bor, IsTrue, List, ◌∷◌, Some, ap, arith, get_or, inl, inr, length, map, option_map, slice_get, subst, sym}
use Rattle.std.proofs.lemmas.Bool.{cases_lt}
use Rattle.std.proofs.lemmas.List.{length-map}
use Rattle.std.proofs.lemmas.Option.{same_Some, slice_get-get_or, slice_get-map, slice_get_within}
use Rattle.ob_text_words.specs.Words.{Word, words}
use Rattle.ob_explained_lines.specs.CallNames.{IsFirstNaming, Names}
use Rattle.ob_explained_lines.specs.CallPlaces.{NamesNoCall}
use Rattle.ob_explained_lines.specs.Causes.{IsFirstStranger}
use Rattle.ob_explained_lines.specs.Lines.{IsFirstLine, Says, SaysCall}
use Rattle.ob_explained_lines.specs.declared.record_line.Wanted.{Wanted}
use Rattle.wf_history.specs.declared.event.CallId.{CallId}

module _ {A B : Type 0} (v : A → B) (Fact : B → Type 0) (xs : List A) where
  -- the fact holds of none of the first so many items
  abbrev pub HoldsOfNone : ℕ → Type 0
  HoldsOfNone n = (k : ℕ) (y : B) → k < n → slice_get (map v xs) k ≡ Some y → ¬ Fact y

  pub item_here : (n : ℕ) (x d : A) → n < length xs → x ≡ get_or xs n d → slice_get (map v xs) n ≡ Some (v x)
  item_here n x d within is = slice_get-map v xs n ∙ ap (option_map v) (slice_get-get_or xs n d within ∙ ap Some (sym is))

  pub none_more : (n : ℕ) (x d : A) → n < length xs → x ≡ get_or xs n d → HoldsOfNone n → ¬ Fact (v x) → HoldsOfNone (n + 1)
  none_more n x d within is before not k y lt at fact =
      elim (cases_lt k n) [
        | inl less ↦ before k y less at fact
        | inr ge ↦
            let same : k ≡ n = omega (arith, lt, ge) in
            let item : y ≡ v x = same_Some y (v x) (sym at ∙ (ap (slice_get (map v xs)) same ∙ item_here n x d within is)) in
            not (subst Fact item fact)
      ]

  pub none_at_all : (n : ℕ) → length xs ≤ n → HoldsOfNone n → (k : ℕ) (y : B) → slice_get (map v xs) k ≡ Some y → ¬ Fact y
  none_at_all n past before k y at =
      before k y (omega (arith, past, slice_get_within (map v xs) k y at, length-map xs v)) at

-- the first line of a record that says what is looked for
pub line_found : (wanted : Wanted) (ls : List (Bor (List ℕ))) (n : ℕ) (line d : Bor (List ℕ)) → n < length ls → line ≡ get_or ls n d
    → HoldsOfNone (λ (l : Bor (List ℕ)). l.now) (λ (l : List ℕ). Says wanted (words l)) ls n → Says wanted (words line.now) → IsFirstLine (map (λ (l : Bor (List ℕ)). l.now) ls) wanted (n + 1)
line_found wanted ls n line d within is before says =
    let same : n + 1 - 1 ≡ n = omega arith in
    record {
      counted = omega arith;
      line = line.now;
      here = rw same (item_here (λ (l : Bor (List ℕ)). l.now) (λ (l : List ℕ). Says wanted (words l)) ls n line d within is);
      says = says;
      earlier = rw same before;
    }

-- the first word that names a call
pub word_found : (id : CallId) (ws : List (Bor Word)) (n : ℕ) (word d : Bor Word) → n < length ws → word ≡ get_or ws n d
    → HoldsOfNone (λ (w : Bor Word). w.now) (λ (w : Word). Names w id) ws n → Names word.now id → IsFirstNaming (map (λ (w : Bor Word). w.now) ws) id n
word_found id ws n word d within is before names =
    record {
      word = word.now;
      here = item_here (λ (w : Bor Word). w.now) (λ (w : Word). Names w id) ws n word d within is;
      names = names;
      earlier = before;
    }

-- the first word that names no call
pub stranger_found : (processes : ℕ) (ws : List (Bor Word)) (n : ℕ) (word d : Bor Word) → n < length ws → word ≡ get_or ws n d
    → HoldsOfNone (λ (w : Bor Word). w.now) (NamesNoCall processes) ws n → NamesNoCall processes word.now → IsFirstStranger processes (map (λ (w : Bor Word). w.now) ws) n
stranger_found processes ws n word d within is before none =
    record {
      word = word.now;
      here = item_here (λ (w : Bor Word). w.now) (NamesNoCall processes) ws n word d within is;
      names_none = none;
      earlier = before;
    }

-- two words that a line begins with
second_of : (a b x y : Word) (xs ys : List Word) → a ∷ x ∷ xs ≡ b ∷ y ∷ ys → x ≡ y
second_of a b x y xs ys e = cc

head_of : (a b : Word) (xs ys : List Word) → a ∷ xs ≡ b ∷ ys → a ≡ b
head_of a b xs ys e = cc

pub says_here : (letter first second : Word) (rest : List Word) (id : CallId) (names : Bool) → first ≡ letter → (IsTrue names ↔ Names second id) → IsTrue names ↔ SaysCall letter id (first ∷ second ∷ rest)
says_here letter first second rest id names same both =
    (λ t. (second, rest, ap (λ (l : Word). l ∷ second ∷ rest) same, both.0 t), λ h. both.1 (subst (λ (w : Word). Names w id) (sym (second_of first letter second h.0 rest h.1 h.2)) h.3))

pub letter_of : (first letter second : Word) (rest : List Word) (id : CallId) → SaysCall letter id (first ∷ second ∷ rest) → first ≡ letter
letter_of first letter second rest id h = head_of first letter (second ∷ rest) (h.0 ∷ h.1) h.2
