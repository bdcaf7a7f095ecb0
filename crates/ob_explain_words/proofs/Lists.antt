-- The tokens of lists one by one.
use Rattle.std.proofs.Common.{◌≡◌, ℕ, ◌+◌, ◌<◌, ◌≤◌, true, false, cond, List, Option, Some, None, length, get_or, drop, refl, sym, ◌∙◌, ap, add-one, drop-cons, drop_of_length-le}
use Rattle.std.specs.Prelude.{option_and_then}
use Rattle.ob_scan.specs.declared.token.Token.{Token}
use Rattle.ob_explain_words.specs.Types.{ends_lists, list_words, reading_behind, with_list}
use Rattle.ob_explain_words.specs.declared.type_lists.Reading.{Reading}

step : (words : List Token → Option ℕ) (last total : ℕ) (reading : Reading) (ts : List Token) (i : ℕ) (d : Token) → i < length ts →
    list_words words last total reading (drop i ts)
    ≡ cond (ends_lists reading (get_or ts i d).kind) (Some total)
    (option_and_then (λ more. list_words words last more (reading_behind last reading (get_or ts i d)) (drop (i + 1) ts))
    (with_list words total reading (get_or ts i d).kind (drop (i + 1) ts)))
unfolding list_words
step words last total reading ts i d lt =
    let t : Token = get_or ts i d in
    ap (list_words words last total reading) (drop-cons ts i d lt)
    ∙ ap (λ n. cond (ends_lists reading t.kind) (Some total)
    (option_and_then (λ more. list_words words last more (reading_behind last reading t) (drop n ts)) (with_list words total reading t.kind (drop n ts)))) (sym (add-one i))

pub ends_there : (words : List Token → Option ℕ) (last total : ℕ) (reading : Reading) (ts : List Token) (i : ℕ) (d : Token) → i < length ts →
    ends_lists reading (get_or ts i d).kind ≡ true → list_words words last total reading (drop i ts) ≡ Some total
ends_there words last total reading ts i d lt is = step words last total reading ts i d lt ∙ rw is refl

pub goes_on : (words : List Token → Option ℕ) (last total more : ℕ) (reading : Reading) (ts : List Token) (i : ℕ) (d : Token) → i < length ts →
    ends_lists reading (get_or ts i d).kind ≡ false → with_list words total reading (get_or ts i d).kind (drop (i + 1) ts) ≡ Some more →
    list_words words last total reading (drop i ts) ≡ list_words words last more (reading_behind last reading (get_or ts i d)) (drop (i + 1) ts)
goes_on words last total more reading ts i d lt isnt told = step words last total reading ts i d lt ∙ rw (isnt, told) refl

pub not_told : (words : List Token → Option ℕ) (last total : ℕ) (reading : Reading) (ts : List Token) (i : ℕ) (d : Token) → i < length ts →
    ends_lists reading (get_or ts i d).kind ≡ false → with_list words total reading (get_or ts i d).kind (drop (i + 1) ts) ≡ None →
    list_words words last total reading (drop i ts) ≡ None
not_told words last total reading ts i d lt isnt told = step words last total reading ts i d lt ∙ rw (isnt, told) refl

pub none_left : (words : List Token → Option ℕ) (last total : ℕ) (reading : Reading) (ts : List Token) (i : ℕ) → length ts ≤ i →
    list_words words last total reading (drop i ts) ≡ None
unfolding list_words
none_left words last total reading ts i past = ap (list_words words last total reading) (drop_of_length-le ts past)
