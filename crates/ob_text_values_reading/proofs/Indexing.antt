-- The names that are told so far, as a set, and as a list in which none stands twice.
use Rattle.std.proofs.Common.{◌≡◌, ◌∙◌, ℕ, Bool, ◌||◌, true, false, cond, List, [], ◌∷◌, ◌++◌, All, refl, sym, ap, arith, String, string_bytes}
use Rattle.std.proofs.lemmas.Bool.{false≢true}
use Rattle.std.proofs.lemmas.List.Elements.{All-head, All-tail, All-cons, All-nil, All-push}
use Rattle.std.proofs.lemmas.List.Folds.{list_any-append, list_any_none}
use Rattle.std.proofs.lemmas.Map.Text.{btree_set_updates_text}
use Rattle.std.proofs.lemmas.Slice.Eq.{bytes_eq-Decides}
use Rattle.std.specs.BTreeSet.{BTreeSet, IsEmpty, UpdatesBy, contains_text}
use Rattle.std.specs.Cmp.Lexicographic.{slice_cmp}
use Rattle.std.specs.List.{list_any}
use Rattle.std.specs.Ordering.{is_eq, nat_cmp}
use Rattle.std.specs.Str.{bytes_eq}
use Rattle.std.specs.String.{string_cmp}
use Rattle.std.specs.declared.alloc.Global.{Global}
use Rattle.ob_carry.specs.Carried.{AreDistinctEntries, Entry, NoneNamed}
use Rattle.ob_text_values_reading.specs.Indexed.{IsIndexed}

-- ---- none of this name

none_passes : {X : Type 0} (p : X → Bool) (xs : List X) → list_any p xs ≡ false → All (λ x. p x ≡ false) xs
none_passes p [] h = All-nil (λ x. p x ≡ false)
none_passes {X} p (x ∷ xs) h = split (p x) refl h (λ k. none_passes p xs k)
  where
    split : (b : Bool) → p x ≡ b → (b || list_any p xs) ≡ false → (list_any p xs ≡ false → All (λ x. p x ≡ false) xs) → All (λ x. p x ≡ false) (x ∷ xs)
    split true e k rest = absurd (false≢true (sym k))
    split false e k rest = All-cons (λ x. p x ≡ false) x xs e (rest k)

pub new_name : (names : BTreeSet (String Global)) (told : List Entry) (name : List ℕ) → IsIndexed names told → contains_text names name ≡ false → NoneNamed told name
new_name names told name indexed h = none_passes (λ e. bytes_eq name e.name) told (sym (indexed name) ∙ h)

pub old_name : (names : BTreeSet (String Global)) (told : List Entry) (name : List ℕ) → IsIndexed names told → contains_text names name ≡ true → NoneNamed told name → ⊥
old_name names told name indexed h new = false≢true (sym (list_any_none (λ e. bytes_eq name e.name) told new) ∙ sym (indexed name) ∙ h)

-- ---- one name more

either_way : (b c : Bool) → cond b true c ≡ (c || b)
either_way true true = refl
either_way true false = refl
either_way false true = refl
either_way false false = refl

or_none : (b : Bool) → (b || false) ≡ b
or_none true = refl
or_none false = refl

either_order : (m n : List ℕ) → bytes_eq m n ≡ bytes_eq n m
either_order m n = grind (arith, bytes_eq-Decides m n, bytes_eq-Decides n m)

pub indexed_more : (old new : BTreeSet (String Global)) (key : String Global) (told : List Entry) (e : Entry) → string_bytes key ≡ e.name → IsIndexed old told →
    UpdatesBy string_cmp (λ k. slice_cmp nat_cmp (string_bytes key) (string_bytes k)) old new true → IsIndexed new (told ++ e ∷ [])
indexed_more old new key told e is indexed updates q =
    btree_set_updates_text (string_bytes key) old new true updates q
    ∙ ap (λ c. cond (bytes_eq (string_bytes key) q) true c) (indexed q)
    ∙ either_way (bytes_eq (string_bytes key) q) (list_any (λ f. bytes_eq q f.name) told)
    ∙ ap (λ n. list_any (λ f. bytes_eq q f.name) told || bytes_eq n q) is
    ∙ ap (λ b. list_any (λ f. bytes_eq q f.name) told || b) (either_order e.name q ∙ sym (or_none (bytes_eq q e.name)))
    ∙ sym (list_any-append (λ f. bytes_eq q f.name) told (e ∷ []))

pub indexed_none : (names : BTreeSet (String Global)) (told : List Entry) → told ≡ [] → IsEmpty names → IsIndexed names told
indexed_none names told e empty q = rw e (ap (λ ks. list_any (λ k. is_eq (slice_cmp nat_cmp q (string_bytes k))) ks) empty)

-- ---- no name stands twice

distinct_behind : (told : List Entry) (e : Entry) → AreDistinctEntries told → NoneNamed told e.name → AreDistinctEntries (told ++ e ∷ [])
distinct_behind [] e h new = (All-nil (λ (f : Entry). bytes_eq e.name f.name ≡ false), tt)
distinct_behind (f ∷ told) e h new = (
  All-push (λ (g : Entry). bytes_eq f.name g.name ≡ false) told e h.0 (either_order f.name e.name ∙ (All-head (λ (g : Entry). bytes_eq e.name g.name ≡ false) f told new)),
  distinct_behind told e h.1 (All-tail (λ (g : Entry). bytes_eq e.name g.name ≡ false) f told new),
)

pub distinct_more : (told : List Entry) (e : Entry) → AreDistinctEntries told → NoneNamed told e.name → AreDistinctEntries (told ++ e ∷ [])
distinct_more told e h new = distinct_behind told e h new
