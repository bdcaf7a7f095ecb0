-- Expected kinds one by one.
use Rattle.std.proofs.Common.{◌≡◌, ℕ, ◌+◌, ◌<◌, List, [], ◌∷◌, ◌++◌, length, take, get_or, sym, subst}
use Rattle.std.proofs.lemmas.List.{take_more}
use Rattle.ob_scan.specs.declared.token.Kind.{Kind}
use Rattle.ob_explain_names.specs.Expected.{Expected, none, stands, missing, IsExpected}

pub one_more : {text : List ℕ} {at : ℕ} (all expected : List Kind) (kind : Kind) → Expected text at all expected → IsExpected text at kind →
    Expected text at (all ++ kind ∷ []) (expected ++ kind ∷ [])
one_more all expected kind none is = stands is none
one_more all expected kind (stands {all = a} {expected = e} h r) is = stands h (one_more a e kind r is)
one_more all expected kind (missing {all = a} {expected = e} h r) is = missing h (one_more a e kind r is)

pub not_one_more : {text : List ℕ} {at : ℕ} (all expected : List Kind) (kind : Kind) → Expected text at all expected → ¬ IsExpected text at kind →
    Expected text at (all ++ kind ∷ []) expected
not_one_more all expected kind none is = missing is none
not_one_more all expected kind (stands {all = a} {expected = e} h r) is = stands h (not_one_more a e kind r is)
not_one_more all expected kind (missing {all = a} {expected = e} h r) is = missing h (not_one_more a e kind r is)

-- one more kind is tried
pub one_tried : {text : List ℕ} {at : ℕ} (all : List Kind) (i : ℕ) (d : Kind) (expected more : List Kind) → i < length all →
    Expected text at (take i all) expected → IsExpected text at (get_or all i d) → more ≡ expected ++ get_or all i d ∷ [] →
    Expected text at (take (i + 1) all) more
one_tried {text} {at} all i d expected more lt h is e =
    let P : List Kind → Type 0 = λ l. Expected text at (take (i + 1) all) l in
    let Q : List Kind → Type 0 = λ l. Expected text at l (expected ++ get_or all i d ∷ []) in
    subst P (sym e) (subst Q (sym (take_more all i d lt)) (one_more (take i all) expected (get_or all i d) h is))

pub none_tried : {text : List ℕ} {at : ℕ} (all : List Kind) (i : ℕ) (d : Kind) (expected more : List Kind) → i < length all →
    Expected text at (take i all) expected → ¬ IsExpected text at (get_or all i d) → more ≡ expected → Expected text at (take (i + 1) all) more
none_tried {text} {at} all i d expected more lt h is e =
    let P : List Kind → Type 0 = λ l. Expected text at (take (i + 1) all) l in
    let Q : List Kind → Type 0 = λ l. Expected text at l expected in
    subst P (sym e) (subst Q (sym (take_more all i d lt)) (not_one_more (take i all) expected (get_or all i d) h is))
