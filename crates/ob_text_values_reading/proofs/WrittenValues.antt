-- Values that a line says as runs write them, for the parameters of one mode.
use Rattle.std.proofs.Common.{◌≡◌, ℕ, ◌+◌, ◌<◌, ◌≤◌, suc, Bool, true, false, List, [], ◌∷◌, ◌++◌, length, map, drop, get_or, refl, ◌∙◌, ap, subst, add-one, drop-cons, append_assoc, append-nil}
use Rattle.std.proofs.lemmas.List.{drop_all}
use Rattle.ob_interface.specs.declared.export.Formal.{Formal}
use Rattle.ob_interface.specs.declared.scalar.Scalar.{Scalar}
use Rattle.ob_text_words.specs.Values as Values
use Rattle.ob_text_words.specs.Values.{AreValues, is_of_mode, types_of}
use Rattle.ob_text_words.specs.Words.{Word, lines, words}
use Rattle.ob_text_values_reading.specs.LineBeginnings.{BeginsWithValue, TakesValues}
use Rattle.ob_text_values_reading.proofs.WrittenWords.{SaysFirst, feed_said}

types_none : (m : Bool) → types_of m [] ≡ []
types_none true = refl
types_none false = refl

types_other : (m : Bool) (f : Formal) (fs : List Formal) → is_of_mode m f ≡ false → types_of m (f ∷ fs) ≡ types_of m fs
types_other true f fs v = rw v refl
types_other false f fs v = rw v refl

types_mode : (m : Bool) (f : Formal) (fs : List Formal) → is_of_mode m f ≡ true → types_of m (f ∷ fs) ≡ f.scalar_type ∷ types_of m fs
types_mode true f fs v = rw v refl
types_mode false f fs v = rw v refl

-- the values of the mode that a text says so far, for so many parameters: with others for what is left they are values of all
pub record SaidTo (m : Bool) (formals : List Formal) (text : List ℕ) (i : ℕ) (left : List ℕ) (done : List Scalar) : Type 0 where
  pub said : List Word
  pub joins : (ws : List Word) (others : List Scalar) → AreValues (types_of m (drop i formals)) ws others →
      AreValues (types_of m formals) (said ++ ws) (done ++ others)
  pub parts : SaysFirst text said left

pub nothing_yet : (m : Bool) (formals : List Formal) (text : List ℕ) → SaidTo m formals text 0 text []
nothing_yet m formals text = record { said = []; joins = λ ws others h. h; parts = λ l ls e. e }

module _ (m : Bool) (formals : List Formal) (text : List ℕ) (i : ℕ) (left : List ℕ) (done : List Scalar) (f d : Formal)
    (below : i < length formals) (is : f ≡ get_or formals i d) (so_far : SaidTo m formals text i left done) where
  pub other_mode : is_of_mode m f ≡ false → SaidTo m formals text (i + 1) left done
  other_mode v =
      let same : types_of m (drop i formals) ≡ types_of m (drop (i + 1) formals) =
      rw (drop-cons formals i d, ← is, add-one) (types_other m f (drop (suc i) formals) v) in
      record { said = so_far.said; joins = λ ws others h. so_far.joins ws others (rw same h); parts = so_far.parts }

  pub one_value_more : (s : Scalar) (rest : List ℕ) → is_of_mode m f ≡ true → BeginsWithValue f.scalar_type left s rest →
      SaidTo m formals text (i + 1) rest (done ++ s ∷ [])
  one_value_more s rest v h =
      let first : types_of m (drop i formals) ≡ f.scalar_type ∷ types_of m (drop (i + 1) formals) =
      rw (drop-cons formals i d, ← is, add-one) (types_mode m f (drop (suc i) formals) v) in
      record {
        said = so_far.said ++ h.word ∷ [];
        joins = λ ws others k. rw (append_assoc, append_assoc) (so_far.joins (h.word ∷ ws) (s ∷ others) (rw first (Values.more h.says k)));
        parts = λ l ls e. rw append_assoc (so_far.parts (h.word ∷ l) ls (h.parts l ls e));
      }

-- all parameters, and the end of the line
pub all_said : (m : Bool) (formals : List Formal) (text : List ℕ) (i : ℕ) (left : List ℕ) (done : List Scalar) (rest : List ℕ) →
    length formals ≤ i → left ≡ 10 ∷ rest →
    SaidTo m formals text i left done → TakesValues (types_of m formals) text done rest
all_said m formals text i left done rest past feed so_far =
    let no_formals : drop i formals ≡ [] = drop_all i formals past in
    let values : AreValues (types_of m formals) (so_far.said ++ []) (done ++ []) = so_far.joins [] [] (rw (no_formals, types_none m) Values.none) in
    record {
      line = so_far.said ++ [];
      says = subst (λ (vs : List Scalar). AreValues (types_of m formals) (so_far.said ++ []) vs) (append-nil done) values;
      parts = so_far.parts [] (map words (lines rest)) (ap (λ t. map words (lines t)) feed ∙ feed_said 10 rest refl);
    }
