-- Values read one by one.
use Rattle.std.proofs.Common.{◌≡◌, ◌≢◌, ℕ, ◌+◌, ◌-◌, ◌<◌, ◌≤◌, suc, List, [], ◌∷◌, ◌++◌, length, drop, get_or, ◌⊎◌, inl, inr, true, false, refl, sym, ◌∙◌, ap, arith, add-one, drop-cons, append_assoc, append-nil, Bool}
use Rattle.std.proofs.lemmas.List.{drop_all, length_push, length-drop}
use Rattle.ob_interface.specs.declared.export.Formal.{Formal}
use Rattle.ob_interface.specs.declared.scalar.Scalar.{Scalar}
use Rattle.ob_interface.specs.declared.scalar.ScalarType.{ScalarType}
use Rattle.ob_text_words.specs.Words.{Word}
use Rattle.ob_text_words.specs.Values.{IsValue, AreValues, types_of, is_of_mode, none, more}

-- values of a type and of those behind it
record First (ts : List ScalarType) (ws : List Word) (ss : List Scalar) : Type 0 where
  type : ScalarType
  types : List ScalarType
  word : Word
  words : List Word
  value : Scalar
  values : List Scalar
  ts_is : ts ≡ type ∷ types
  ws_is : ws ≡ word ∷ words
  ss_is : ss ≡ value ∷ values
  first : IsValue type word value
  others : AreValues types words values

AreValues-cases : (ts : List ScalarType) (ws : List Word) (ss : List Scalar) → AreValues ts ws ss →
    ((ts ≡ []) × (ws ≡ []) × (ss ≡ [])) ⊎ First ts ws ss
AreValues-cases ts ws ss none = inl (refl, refl, refl)
AreValues-cases ts ws ss (more {type = t} {types = ts'} {word = w} {ws = ws'} {s = s} {ss = ss'} a as') =
    inr (record { type = t; types = ts'; word = w; words = ws'; value = s; values = ss'; ts_is = refl; ws_is = refl; ss_is = refl; first = a; others = as' })

AreValues-first : (t : ScalarType) (ts : List ScalarType) (ws : List Word) (ss : List Scalar) → AreValues (t ∷ ts) ws ss →
    (w : Word) × (rest : List Word) × (s : Scalar) × (behind : List Scalar) × (ws ≡ w ∷ rest) × IsValue t w s × AreValues ts rest behind
AreValues-first t ts ws ss h =
    elim (AreValues-cases (t ∷ ts) ws ss h) [
      | inl p ↦ absurd (cc (p.0))
      | inr p ↦
          let heads : p.type ≡ t = cc (p.ts_is) in
          let tails : p.types ≡ ts = cc (p.ts_is) in
          (p.word, p.words, p.value, p.values, p.ws_is, rw (← heads) p.first, rw (← tails) p.others)
    ]

no_values : (ws : List Word) (ss : List Scalar) → AreValues [] ws ss → ws ≡ []
no_values ws ss h =
    elim (AreValues-cases [] ws ss h) [ inl p ↦ p.1 | inr p ↦ absurd (cc (p.ts_is)) ]

types-none : (m : Bool) → types_of m [] ≡ []
types-none true = refl
types-none false = refl

types-other : (m : Bool) (f : Formal) (fs : List Formal) → is_of_mode m f ≡ false → types_of m (f ∷ fs) ≡ types_of m fs
types-other true f fs v = rw v refl
types-other false f fs v = rw v refl

types-mode : (m : Bool) (f : Formal) (fs : List Formal) → is_of_mode m f ≡ true → types_of m (f ∷ fs) ≡ f.scalar_type ∷ types_of m fs
types-mode true f fs v = rw v refl
types-mode false f fs v = rw v refl

-- after so many parameters these values of the mode are read: with others for what is left they are values of all, and there are no others
pub record HasRead (m : Bool) (formals : List Formal) (ws : List Word) (i : ℕ) (done : List Scalar) : Type 0 where
  pub within : length done ≤ length ws
  pub joins : (behind : List Scalar) → AreValues (types_of m (drop i formals)) (drop (length done) ws) behind →
      AreValues (types_of m formals) ws (done ++ behind)
  pub splits : (all : List Scalar) → AreValues (types_of m formals) ws all →
      (behind : List Scalar) × AreValues (types_of m (drop i formals)) (drop (length done) ws) behind

pub HasRead-none : (m : Bool) (formals : List Formal) (ws : List Word) → HasRead m formals ws 0 []
HasRead-none m formals ws = record { within = omega arith; joins = λ behind h. h; splits = λ all h. (all, h) }

module _ (m : Bool) (formals : List Formal) (ws : List Word) (i : ℕ) (done : List Scalar) (f d : Formal) (below : i < length formals) (is : f ≡ get_or formals i d) (so_far : HasRead m formals ws i done) where
  values-other : is_of_mode m f ≡ false → types_of m (drop i formals) ≡ types_of m (drop (i + 1) formals)
  values-other v = rw (drop-cons formals i d, ← is, add-one) (types-other m f (drop (suc i) formals) v)

  values-mode : is_of_mode m f ≡ true → types_of m (drop i formals) ≡ f.scalar_type ∷ types_of m (drop (i + 1) formals)
  values-mode v = rw (drop-cons formals i d, ← is, add-one) (types-mode m f (drop (suc i) formals) v)

  -- a parameter of the other mode has no value here
  pub HasRead-skip : is_of_mode m f ≡ false → HasRead m formals ws (i + 1) done
  HasRead-skip v =
      record {
        within = so_far.within;
        joins = λ behind h. so_far.joins behind (rw (values-other v) h);
        splits = λ all h. let b = so_far.splits all h in (b.0, rw (values-other v) at b.1);
      }

  -- what is left says a first value and others
  splits_first : is_of_mode m f ≡ true → (all : List Scalar) → AreValues (types_of m formals) ws all →
      (w : Word) × (rest : List Word) × (s : Scalar) × (behind : List Scalar)
      × (drop (length done) ws ≡ w ∷ rest) × IsValue f.scalar_type w s × AreValues (types_of m (drop (i + 1) formals)) rest behind
  splits_first v all h =
      let b = so_far.splits all h in AreValues-first f.scalar_type _ _ b.0 (rw (values-mode v) at b.1)

  -- the word at the place of the next value says one
  pub HasRead-more : (w : Word) (s : Scalar) → is_of_mode m f ≡ true → length done < length ws → w ≡ get_or ws (length done) w →
      IsValue f.scalar_type w s → HasRead m formals ws (i + 1) (done ++ s ∷ [])
  HasRead-more w s v short at a =
      let one_more : length (done ++ s ∷ []) ≡ length done + 1 = length_push done s in
      let here : drop (length done) ws ≡ w ∷ drop (length done + 1) ws = rw (drop-cons ws (length done) w, ← at, add-one) refl in
      record {
        within = omega arith;
        joins = λ behind h.
            rw append_assoc (so_far.joins (s ∷ behind) (rw (values-mode v, here) (more a (rw one_more at h))));
        splits = λ all h.
            let p = splits_first v all h in
            let tails : p.1 ≡ drop (length done + 1) ws = cc in
            (p.3, rw (one_more, ← tails) p.6);
      }

  -- there is no such word
  pub no_word : is_of_mode m f ≡ true → length ws ≤ length done → (all : List Scalar) → AreValues (types_of m formals) ws all → ⊥
  no_word v long all h =
      let p = splits_first v all h in
      let empty : drop (length done) ws ≡ [] = drop_all (length done) ws long in
      absurd (cc (p.4))

  -- there is one, and it says no value
  pub no_value : (w : Word) → is_of_mode m f ≡ true → length done < length ws → w ≡ get_or ws (length done) w →
      ((s : Scalar) → IsValue f.scalar_type w s → ⊥) → (all : List Scalar) → AreValues (types_of m formals) ws all → ⊥
  no_value w v short at misfit all h =
      let p = splits_first v all h in
      let here : drop (length done) ws ≡ w ∷ drop (suc (length done)) ws = rw (drop-cons ws (length done) w, ← at) refl in
      let heads : p.0 ≡ w = cc (p.4) in
      misfit p.2 (rw heads at p.5)

-- all parameters and all words
pub HasRead-all : (m : Bool) (formals : List Formal) (ws : List Word) (i : ℕ) (done : List Scalar) → length formals ≤ i →
    length done ≡ length ws → HasRead m formals ws i done → AreValues (types_of m formals) ws done
HasRead-all m formals ws i done past long so_far =
    let no_formals : drop i formals ≡ [] = drop_all i formals past in
    let no_words : drop (length done) ws ≡ [] = drop_all (length done) ws (omega arith) in
    rw append-nil at (so_far.joins [] (rw (no_formals, no_words, types-none m) none))

-- words are left
pub left_over : (m : Bool) (formals : List Formal) (ws : List Word) (i : ℕ) (done : List Scalar) → length formals ≤ i →
    length done ≢ length ws → HasRead m formals ws i done → (all : List Scalar) → AreValues (types_of m formals) ws all → ⊥
left_over m formals ws i done past differ so_far all h =
    let no_formals : drop i formals ≡ [] = drop_all i formals past in
    let b = so_far.splits all h in
    let empty : drop (length done) ws ≡ [] = no_values _ b.0 (rw (no_formals, types-none m) at b.1) in
    let long : length ws - length done ≡ 0 = sym (length-drop (length done) ws) ∙ ap length empty in
    differ (omega (arith, so_far.within))
