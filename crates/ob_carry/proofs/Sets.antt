-- Sets of procedures of which each calls only others of the set.
use Rattle.std.proofs.Common.{◌≡◌, refl, sym, ap, ◌∙◌, subst, arith, ℕ, zero, suc, ◌+◌, ◌<◌, ◌≤◌, Bool, true, List, [], ◌∷◌, ◌++◌, length, take, get_or, Option, Some, None, Vec, Result, Ok, Err, IfOk, inl, inr}
use Rattle.std.specs.Prelude.{slice_get}
use Rattle.std.specs.List.{AllZip}
use Rattle.std.specs.declared.alloc.Global.{Global}
use Rattle.std.proofs.lemmas.Bool.{cases_lt}
use Rattle.std.proofs.lemmas.List.{take_more, take_all}
use Rattle.std.proofs.lemmas.Option.{same_Some, slice_get-get_or, slice_get_within}
use Rattle.ob_checked.specs.declared.program.Procedure.{Procedure}
use Rattle.ob_checked.specs.View.{statements_in}
use Rattle.ob_carry.specs.ReadOnly.{AllSpareModule}
use Rattle.ob_carry.specs.ReadOnlyExports.{AllKeep, AreCalls, IsClosed, StaysIn, in_flags}

abbrev Calls : Type 0
Calls = Option (Vec ℕ Global)

-- as far as the procedures of smaller numbers go
abbrev pub ClosedBelow : ℕ → List Calls → List Bool → Type 0
ClosedBelow n found flags =
    (number : ℕ) (calls : Calls) → number < n → in_flags flags number ≡ true → slice_get found number ≡ Some calls → StaysIn flags calls

pub zip_push : {A B : Type 0} (R : A → B → Type 0) (xs : List A) (ys : List B) (x : A) (y : B) → AllZip R xs ys → R x y → AllZip R (xs ++ x ∷ []) (ys ++ y ∷ [])
zip_push R [] [] x y zip r = (r, tt)
zip_push R [] (b ∷ ys) x y zip r = absurd zip
zip_push R (a ∷ xs) [] x y zip r = absurd zip
zip_push R (a ∷ xs) (b ∷ ys) x y zip r = (zip.0, zip_push R xs ys x y zip.1 r)

-- what holds of each good answer
pub where_ok : {A E : Type 0} (P Q : A → Type 0) (r : Result A E) → ((a : A) → P a → Q a) → IfOk r P → IfOk r Q
where_ok P Q (Ok a) go h = go a h
where_ok P Q (Err e) go h = tt

-- the calls that were found so far
abbrev pub FoundBelow : ℕ → List Procedure → List Calls → Type 0
FoundBelow n procedures found = AllZip AreCalls (take n procedures) found

pub found_more : (procedures : List Procedure) (found : List Calls) (i : ℕ) (p : Procedure) (calls : Calls) → i < length procedures → p ≡ get_or procedures i p →
    FoundBelow i procedures found → AreCalls p calls → FoundBelow (i + 1) procedures (found ++ calls ∷ [])
found_more procedures found i p calls within is below here =
    subst (λ (ps : List Procedure). AllZip AreCalls ps (found ++ calls ∷ [])) (sym (take_more procedures i p within ∙ ap (λ (q : Procedure). take i procedures ++ q ∷ []) (sym is)))
    (zip_push AreCalls (take i procedures) found p calls below here)

pub found_all : (procedures : List Procedure) (found : List Calls) (n : ℕ) → length procedures ≤ n → FoundBelow n procedures found → AllZip AreCalls procedures found
found_all procedures found n past below = subst (λ (ps : List Procedure). AllZip AreCalls ps found) (take_all n procedures past) below

pub closed_none : (found : List Calls) (flags : List Bool) → ClosedBelow 0 found flags
closed_none found flags number calls lt told at = absurd (omega (arith, lt))

pub closed_more : (found : List Calls) (flags : List Bool) (i : ℕ) (x : Calls) → i < length found → x ≡ get_or found i x → ClosedBelow i found flags →
    (in_flags flags i ≡ true → StaysIn flags x) → ClosedBelow (i + 1) found flags
closed_more found flags i x within is below here number calls lt told at =
    elim (cases_lt number i) [
      | inl less ↦ below number calls less told at
      | inr le ↦
          let same : number ≡ i = omega (arith, lt, le) in
          let this : x ≡ calls = same_Some x calls (sym (slice_get-get_or found i x within ∙ ap Some (sym is)) ∙ ap (slice_get found) (sym same) ∙ at) in
          subst (StaysIn flags) this (here (ap (in_flags flags) (sym same) ∙ told))
    ]

pub closed_all : (found : List Calls) (flags : List Bool) (n : ℕ) → length found ≤ n → ClosedBelow n found flags → IsClosed found flags
closed_all found flags n past below number calls told at =
    let within = slice_get_within found number calls at in
    below number calls (omega (arith, within, past)) told at

pub nothing_closed : (found : List Calls) → IsClosed found []
nothing_closed found number calls told at = absurd (none number told)
  where
    none : (k : ℕ) → in_flags [] k ≡ true → ⊥
    none zero h = cc
    none (suc k) h = cc

partner : {A B : Type 0} (R : A → B → Type 0) (xs : List A) (ys : List B) (n : ℕ) (x : A) → AllZip R xs ys → slice_get xs n ≡ Some x → (y : B) × (slice_get ys n ≡ Some y) × R x y
partner R [] ys n x zip at = absurd cc
partner R (a ∷ xs) [] n x zip at = absurd zip
partner R (a ∷ xs) (b ∷ ys) zero x zip at = (b, refl, subst (λ z. R z b) (same_Some a x at) zip.0)
partner R (a ∷ xs) (b ∷ ys) (suc n) x zip at = partner R xs ys n x zip.1 at

spares_by : (flags : List Bool) (p : Procedure) (y : Calls) → AreCalls p y → StaysIn flags y → AllSpareModule (in_flags flags) (statements_in p.body.items)
spares_by flags p None by stays = absurd stays
spares_by flags p (Some calls) by stays = by (in_flags flags) stays

-- what is closed keeps the rule
pub all_keep : (procedures : List Procedure) (found : List Calls) (flags : List Bool) → AllZip AreCalls procedures found → IsClosed found flags → AllKeep procedures flags
all_keep procedures found flags zip closed number p told at =
    let y = partner AreCalls procedures found number p zip at in
    spares_by flags p y.0 y.2 (closed number y.0 told y.1)
