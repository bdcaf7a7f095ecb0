-- The tokens in parentheses one by one.
use Rattle.std.proofs.Common.{◌≡◌, ℕ, ◌+◌, ◌<◌, ◌≤◌, ◌||◌, Bool, true, false, cond, List, [], ◌∷◌, length, get_or, drop, refl, sym, ◌∙◌, ap, add-one, drop-cons, drop_of_length-le}
use Rattle.std.specs.List.{list_any}
use Rattle.ob_scan.specs.declared.token.Token.{Token}
use Rattle.ob_explain_parts.specs.Inside.{closes_there, gives_truth, open_behind, within}

-- an operator that gives a BOOLEAN stands in the parentheses, where so many others are open
abbrev pub truth_from : (opened : ℕ) → List Token → Bool
truth_from opened behind = list_any (λ t. gives_truth t.kind) (within opened behind)

step : (opened : ℕ) (ts : List Token) (i : ℕ) (d : Token) → i < length ts →
    within opened (drop i ts)
    ≡ cond (closes_there opened (get_or ts i d).kind) [] (get_or ts i d ∷ within (open_behind opened (get_or ts i d).kind) (drop (i + 1) ts))
unfolding within
step opened ts i d lt =
    let t : Token = get_or ts i d in
    ap (within opened) (drop-cons ts i d lt)
    ∙ ap (λ n. cond (closes_there opened t.kind) [] (t ∷ within (open_behind opened t.kind) (drop n ts))) (sym (add-one i))

any_step : (opened : ℕ) (ts : List Token) (i : ℕ) (d : Token) → i < length ts → closes_there opened (get_or ts i d).kind ≡ false →
    truth_from opened (drop i ts)
    ≡ (gives_truth (get_or ts i d).kind || truth_from (open_behind opened (get_or ts i d).kind) (drop (i + 1) ts))
any_step opened ts i d lt on =
    let first : Token = get_or ts i d in
    let more : List Token = within (open_behind opened first.kind) (drop (i + 1) ts) in
    let here : within opened (drop i ts) ≡ first ∷ more = step opened ts i d lt ∙ rw on refl in
    ap (λ inside. list_any (λ t. gives_truth t.kind) inside) here

pub ends_there : (opened : ℕ) (ts : List Token) (i : ℕ) (d : Token) → i < length ts →
    closes_there opened (get_or ts i d).kind ≡ true → truth_from opened (drop i ts) ≡ false
ends_there opened ts i d lt is =
    let here : within opened (drop i ts) ≡ [] = step opened ts i d lt ∙ rw is refl in
    ap (λ inside. list_any (λ t. gives_truth t.kind) inside) here

pub is_there : (opened : ℕ) (ts : List Token) (i : ℕ) (d : Token) → i < length ts →
    closes_there opened (get_or ts i d).kind ≡ false → gives_truth (get_or ts i d).kind ≡ true → truth_from opened (drop i ts) ≡ true
is_there opened ts i d lt on is = any_step opened ts i d lt on ∙ rw is refl

pub goes_on : (opened : ℕ) (ts : List Token) (i : ℕ) (d : Token) → i < length ts →
    closes_there opened (get_or ts i d).kind ≡ false → gives_truth (get_or ts i d).kind ≡ false →
    truth_from opened (drop i ts) ≡ truth_from (open_behind opened (get_or ts i d).kind) (drop (i + 1) ts)
goes_on opened ts i d lt on isnt = any_step opened ts i d lt on ∙ rw isnt refl

pub none_left : (opened : ℕ) (ts : List Token) (i : ℕ) → length ts ≤ i → truth_from opened (drop i ts) ≡ false
unfolding within
none_left opened ts i past = ap (truth_from opened) (drop_of_length-le ts past)
