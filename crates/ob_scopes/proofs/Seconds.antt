-- Names that are tested one after another.
use Rattle.std.proofs.Common.{◌≡◌, ℕ, ◌+◌, Bool, true, false, cond, List, [], ◌∷◌, ◌++◌, Option, Some, None, is_some, option_map, String, refl, sym, ap, ◌∙◌}
use Rattle.std.specs.Prelude.{◌||◌, bytes_eq, string_bytes, if◌then◌else◌}
use Rattle.std.specs.declared.alloc.Global.{Global}
use Rattle.std.specs.String.{string_cmp}
use Rattle.std.specs.Map.{lookup}
use Rattle.std.specs.BTreeMap.{BTreeMap, UpdatesBy, IsEmpty, get_by_text, is_at}
use Rattle.std.specs.Cmp.Lexicographic.{slice_cmp}
use Rattle.std.specs.Ordering.{nat_cmp}
use Rattle.std.proofs.lemmas.Map.Text.{btree_map_updates_text}
use Rattle.ob_grammar.specs.Tree
use Rattle.ob_typing.specs.Types.{Taken, and_taken, second}
use Rattle.ob_checked.specs.declared.fields.Fields.{Fields}
use Rattle.ob_checked.specs.declared.types.DataType.{DataType}
use Rattle.ob_checked.specs.Fields.{found_from, position_from}
use Rattle.ob_checked.specs.Types.{fields_in}
use Rattle.ob_scopes.specs.TakenNames.{taken_in, taken_by}

-- taken by the one or the other
abbrev pub or_taken : Taken → Taken → Taken
or_taken before taken name = before name || taken name

module _ {X : Type 0} where
  -- a name more
  pub taken_in-updated : (m n : BTreeMap (String Global) X) (key name : List ℕ) (x : X) → key ≡ name →
      UpdatesBy string_cmp (λ k. slice_cmp nat_cmp key (string_bytes k)) m n (Some x) → taken_in n ≡ and_taken (taken_in m) name
  taken_in-updated m n key name x is h = (λ i q. at q i) ∙ ap (and_taken (taken_in m)) is
    where
      by : (b : Bool) (old : Option X) → is_some (cond b (Some x) old) ≡ cond b true (is_some old)
      by true old = refl
      by false old = refl

      at : (q : List ℕ) → taken_in n q ≡ and_taken (taken_in m) key q
      at q = ap is_some (btree_map_updates_text key m n (Some x) h q) ∙ by (bytes_eq key q) (get_by_text m q)

  pub taken_in-empty : (m : BTreeMap (String Global) X) → IsEmpty m → taken_in m ≡ (λ q. false)
  taken_in-empty m e = ap (λ es q. is_some (lookup (is_at (λ k. slice_cmp nat_cmp q (string_bytes k))) es)) e

pub none_before : (before taken : Taken) → before ≡ (λ q. false) → taken ≡ or_taken before taken
none_before before taken h = ap (λ t. or_taken t taken) (sym h)

pub and_or_taken : (before taken : Taken) (name : List ℕ) → or_taken (and_taken before name) taken ≡ and_taken (or_taken before taken) name
and_or_taken before taken name = λ i q. at (bytes_eq name q) (before q) (taken q) i
  where
    at : (b c d : Bool) → ((if b then true else c) || d) ≡ (if b then true else (c || d))
    at true c d = refl
    at false c d = refl

pub not_either : (a b : Bool) → a ≡ false → b ≡ false → (b || a) ≡ false
not_either a b h k = rw k h

pub second_here : (taken : Taken) (name : Tree.Name) (names : List Tree.Name) → taken name.text ≡ true → second taken (name ∷ names) ≡ Some name
second_here taken name names h = rw h refl

pub second_behind : (taken : Taken) (name : Tree.Name) (names : List Tree.Name) → taken name.text ≡ false →
    second taken (name ∷ names) ≡ second (and_taken taken name.text) names
second_behind taken name names h = rw h refl

pub either : (a b : Bool) → b ≡ true → (a || b) ≡ true
either true b h = refl
either false b h = h

pub second_none : (taken : Taken) (name : Tree.Name) (names : List Tree.Name) → second taken (name ∷ names) ≡ None →
    (taken name.text ≡ false) × (second (and_taken taken name.text) names ≡ None)
second_none taken name names h = at (taken name.text) h
  where
    at : (b : Bool) → (if b then Some name else second (and_taken taken name.text) names) ≡ None → (b ≡ false) × (second (and_taken taken name.text) names ≡ None)
    at true k = absurd cc
    at false k = (refl, k)

-- the names of a record's fields, by a map of their positions
module _ (fields : Fields) (m : BTreeMap (String Global) ℕ) where
  pub taken_by-positions : ((q : List ℕ) → get_by_text m q ≡ position_from 0 (fields_in fields) q) → taken_in m ≡ taken_by fields
  taken_by-positions h = λ i q. at q i
    where
      first : (x : Option (ℕ × DataType)) → is_some (option_map (λ f. f.0) x) ≡ is_some x
      first None = refl
      first (Some x) = refl

      at : (q : List ℕ) → taken_in m q ≡ taken_by fields q
      at q = ap is_some (h q) ∙ first (found_from 0 (fields_in fields) q)

-- one field more, of a new name
pub found_from-free : (fields : Fields) (name : List ℕ) → taken_by fields name ≡ false → found_from 0 (fields_in fields) name ≡ None
found_from-free fields name h = none (found_from 0 (fields_in fields) name) h
  where
    none : (o : Option (ℕ × DataType)) → is_some o ≡ false → o ≡ None
    none None e = refl
    none (Some y) e = absurd cc

found_from-push : (n : ℕ) (fs : List (String Global × DataType)) (f : String Global × DataType) (q : List ℕ) →
    is_some (found_from n (fs ++ f ∷ []) q) ≡ (is_some (found_from n fs q) || bytes_eq (string_bytes f.0) q)
found_from-push n [] f q = at (bytes_eq (string_bytes f.0) q)
  where
    at : (b : Bool) → is_some {T = ℕ × DataType} (if b then Some (n, f.1) else None) ≡ (false || b)
    at true = refl
    at false = refl
found_from-push n (g ∷ fs) f q = at (bytes_eq (string_bytes g.0) q) (found_from-push (n + 1) fs f q)
  where
    at : (b : Bool) → is_some (found_from (n + 1) (fs ++ f ∷ []) q) ≡ (is_some (found_from (n + 1) fs q) || bytes_eq (string_bytes f.0) q) →
        is_some {T = ℕ × DataType} (if b then Some (n, g.1) else found_from (n + 1) (fs ++ f ∷ []) q)
        ≡ (is_some {T = ℕ × DataType} (if b then Some (n, g.1) else found_from (n + 1) fs q) || bytes_eq (string_bytes f.0) q)
    at true rest = refl
    at false rest = rest

pub taken_by-pushed : (old new : Fields) (f : String Global × DataType) (name : List ℕ) → string_bytes f.0 ≡ name →
    fields_in new ≡ fields_in old ++ f ∷ [] → taken_by new ≡ and_taken (taken_by old) name
taken_by-pushed old new f name is h = (λ i q. at q i) ∙ ap (and_taken (taken_by old)) is
  where
    swapped : (a b : Bool) → (a || b) ≡ (if b then true else a)
    swapped true true = refl
    swapped true false = refl
    swapped false true = refl
    swapped false false = refl

    at : (q : List ℕ) → taken_by new q ≡ and_taken (taken_by old) (string_bytes f.0) q
    at q =
        ap (λ fs. is_some (found_from 0 fs q)) h ∙ found_from-push 0 (fields_in old) f q
        ∙ swapped (is_some (found_from 0 (fields_in old) q)) (bytes_eq (string_bytes f.0) q)
