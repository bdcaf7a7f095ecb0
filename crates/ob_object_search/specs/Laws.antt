-- Laws of a module's object: a call has one outcome, and states with the same words are the same.
use Rattle.std.proofs.Common.{◌≡◌, ◌∙◌, ap, refl, sym, ℕ, ◌≤◌, List, [], ◌∷◌, ◌++◌, length, append_assoc, arith}
use Rattle.std.specs.Prelude.{pos, negsuc, true, false}
use Rattle.ob_interface.specs.Call.{ObjectCall, Reply}
use Rattle.ob_interface.specs.declared.scalar.Scalar.{Scalar}
use Rattle.ob_interface.specs.declared.scalar.Scalar.TheVariants.{Int, Bool as Truth}
use Rattle.ob_object_run.specs.LegalOrder.{CallEnds}
use Rattle.ob_object_search.specs.Words.{word_of, count_of, value_words, parts_words, held_words, words_of}
use Rattle.ob_meaning.specs.ByPositionObject.{Effect}
use Rattle.ob_meaning.specs.ByPositionStore.{Activation, Held, Holds, Refers, Place}
use Rattle.ob_meaning.specs.ByPositionValue as Values
use Rattle.ob_typing.specs.Program.{Program}

module _ (program : Program) (budget : ℕ) (call : ObjectCall) (before after other : Activation) (reply answer : Reply) where
  pub one_outcome : CallEnds program budget call before after reply → CallEnds program budget call before other answer → (after ≡ other) × (reply ≡ answer)
  one_outcome h g = (ap (λ (e : Effect). e.state) (sym h ∙ g), ap (λ (e : Effect). e.reply) (sym h ∙ g))

-- scalars with the same word are the same
pub scalar_apart : (s t : Scalar) → word_of s ≡ word_of t → s ≡ t
scalar_apart (Int (pos n)) (Int (pos m)) h = ap (λ (k : ℕ). Int (pos k)) (omega (arith, h))
scalar_apart (Int (pos n)) (Int (negsuc m)) h = absurd (omega (arith, h))
scalar_apart (Int (pos n)) (Truth true) h = absurd (omega (arith, h))
scalar_apart (Int (pos n)) (Truth false) h = absurd (omega (arith, h))
scalar_apart (Int (negsuc n)) (Int (pos m)) h = absurd (omega (arith, h))
scalar_apart (Int (negsuc n)) (Int (negsuc m)) h = ap (λ (k : ℕ). Int (negsuc k)) (omega (arith, h))
scalar_apart (Int (negsuc n)) (Truth true) h = absurd (omega (arith, h))
scalar_apart (Int (negsuc n)) (Truth false) h = absurd (omega (arith, h))
scalar_apart (Truth true) (Int (pos m)) h = absurd (omega (arith, h))
scalar_apart (Truth true) (Int (negsuc m)) h = absurd (omega (arith, h))
scalar_apart (Truth true) (Truth true) h = refl
scalar_apart (Truth true) (Truth false) h = absurd (omega (arith, h))
scalar_apart (Truth false) (Int (pos m)) h = absurd (omega (arith, h))
scalar_apart (Truth false) (Int (negsuc m)) h = absurd (omega (arith, h))
scalar_apart (Truth false) (Truth true) h = absurd (omega (arith, h))
scalar_apart (Truth false) (Truth false) h = refl

-- the word of a scalar begins nothing else
no_scalar : (s : Scalar) (k : ℕ) → word_of s ≡ k → 3 ≤ k → k ≤ 4 → ⊥
no_scalar (Int (pos n)) k h low high = omega (arith, h, low, high)
no_scalar (Int (negsuc n)) k h low high = omega (arith, h, low, high)
no_scalar (Truth true) k h low high = omega (arith, h, low, high)
no_scalar (Truth false) k h low high = omega (arith, h, low, high)

-- lists with the same first item
first_is : (x y : ℕ) (xs ys : List ℕ) → x ∷ xs ≡ y ∷ ys → (x ≡ y) × (xs ≡ ys)
first_is x y xs ys h = (cc, cc)

-- lists of one length before others
lists_apart : (vs ws xs ys : List ℕ) → length vs ≡ length ws → vs ++ xs ≡ ws ++ ys → (vs ≡ ws) × (xs ≡ ys)
lists_apart [] [] xs ys same h = (refl, h)
lists_apart [] (w ∷ ws) xs ys same h = absurd (omega (arith, same))
lists_apart (v ∷ vs) [] xs ys same h = absurd (omega (arith, same))
lists_apart (v ∷ vs) (w ∷ ws) xs ys same h =
    let f = first_is v w (vs ++ xs) (ws ++ ys) h in
    let r = lists_apart vs ws xs ys (omega (arith, same)) f.1 in
    let head = f.0 in
    let tail = r.0 in
    (cc, r.1)

-- no value's words begin another one's, whatever follows
mutual
  value_apart : (v w : Values.Value) (xs ys : List ℕ) → value_words v ++ xs ≡ value_words w ++ ys → (v ≡ w) × (xs ≡ ys)
  value_apart (Values.Single s) (Values.Single t) xs ys h =
      let f = first_is (word_of s) (word_of t) xs ys h in
      (ap Values.Single (scalar_apart s t f.0), f.1)
  value_apart (Values.Single s) (Values.Parts ws) xs ys h = absurd (no_scalar s 3 (first_is (word_of s) 3 _ _ h).0 (omega arith) (omega arith))
  value_apart (Values.Parts vs) (Values.Single t) xs ys h = absurd (no_scalar t 3 (sym (first_is 3 (word_of t) _ _ h).0) (omega arith) (omega arith))
  value_apart (Values.Parts vs) (Values.Parts ws) xs ys h =
      let f = first_is (count_of vs) (count_of ws) _ _ (first_is 3 3 _ _ h).1 in
      let r = parts_apart vs ws xs ys f.0 f.1 in
      (ap Values.Parts r.0, r.1)

  parts_apart : (vs ws : Values.Values) (xs ys : List ℕ) → count_of vs ≡ count_of ws → parts_words vs ++ xs ≡ parts_words ws ++ ys → (vs ≡ ws) × (xs ≡ ys)
  parts_apart Values.no_part Values.no_part xs ys same h = (refl, h)
  parts_apart Values.no_part (Values.part w ws) xs ys same h = absurd (omega (arith, same))
  parts_apart (Values.part v vs) Values.no_part xs ys same h = absurd (omega (arith, same))
  parts_apart (Values.part v vs) (Values.part w ws) xs ys same h =
      let f = value_apart v w (parts_words vs ++ xs) (parts_words ws ++ ys) (sym (append_assoc (value_words v) (parts_words vs) xs) ∙ h ∙ append_assoc (value_words w) (parts_words ws) ys) in
      let r = parts_apart vs ws xs ys (omega (arith, same)) f.1 in
      let first = f.0 in
      let rest = r.0 in
      (cc, r.1)

value_begins : (v : Values.Value) (k : ℕ) (xs ys : List ℕ) → value_words v ++ xs ≡ k ∷ ys → k ≡ 4 → ⊥
value_begins (Values.Single s) k xs ys h is = no_scalar s k (first_is (word_of s) k _ _ h).0 (omega (arith, is)) (omega (arith, is))
value_begins (Values.Parts vs) k xs ys h is = let f = (first_is 3 k _ _ h).0 in omega (arith, f, is)

abbrev place_at : (activation position : ℕ) → List ℕ → Place
place_at activation position path = record { activation = activation; position = position; path = path }

place_apart : (p q : Place) (xs ys : List ℕ) → held_words (Refers p) ++ xs ≡ held_words (Refers q) ++ ys → (p ≡ q) × (xs ≡ ys)
place_apart p q xs ys h =
    let a = first_is p.activation q.activation _ _ (first_is 4 4 _ _ h).1 in
    let b = first_is p.position q.position _ _ a.1 in
    let c = first_is (length p.path) (length q.path) _ _ b.1 in
    let d = lists_apart p.path q.path xs ys c.0 c.1 in
    (ap (λ (n : ℕ). place_at n p.position p.path) a.0 ∙ ap (λ (n : ℕ). place_at q.activation n p.path) b.0 ∙ ap (λ (path : List ℕ). place_at q.activation q.position path) d.0, d.1)

held_apart : (g h : Held) (xs ys : List ℕ) → held_words g ++ xs ≡ held_words h ++ ys → (g ≡ h) × (xs ≡ ys)
held_apart (Holds v) (Holds w) xs ys e = let r = value_apart v w xs ys e in (ap Holds r.0, r.1)
held_apart (Holds v) (Refers q) xs ys e = absurd (value_begins v 4 xs _ e refl)
held_apart (Refers p) (Holds w) xs ys e = absurd (value_begins w 4 ys _ (sym e) refl)
held_apart (Refers p) (Refers q) xs ys e = let r = place_apart p q xs ys e in (ap Refers r.0, r.1)

-- what is held has a word
has_word : (h : Held) (xs : List ℕ) → held_words h ++ xs ≡ [] → ⊥
has_word (Holds (Values.Single s)) xs e = cc
has_word (Holds (Values.Parts vs)) xs e = cc
has_word (Refers p) xs e = cc

pub words_told_apart : (a b : Activation) → words_of a ≡ words_of b → a ≡ b
words_told_apart [] [] h = refl
words_told_apart [] (g ∷ b) h = absurd (has_word g (words_of b) (sym h))
words_told_apart (g ∷ a) [] h = absurd (has_word g (words_of a) h)
words_told_apart (g ∷ a) (h ∷ b) e =
    let r = held_apart g h (words_of a) (words_of b) e in
    let first = r.0 in
    let rest = words_told_apart a b r.1 in
    cc
