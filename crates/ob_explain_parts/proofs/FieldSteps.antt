-- The tokens of a record one by one.
use Rattle.std.proofs.Common.{◌≡◌, ℕ, ◌+◌, ◌<◌, ◌≤◌, true, false, cond, List, length, get_or, drop, sym, ◌∙◌, ap, add-one, drop-cons, drop_of_length-le}
use Rattle.ob_scan.specs.declared.token.Token.{Token}
use Rattle.ob_explain_parts.specs.Fields.{ends_fields, fields_behind, listing_behind, with_field}
use Rattle.ob_explain_parts.specs.declared.fields.Listing.{Listing}

step : (found : List Token) (listing : Listing) (ts : List Token) (i : ℕ) (d : Token) → i < length ts →
    fields_behind found listing (drop i ts)
    ≡ cond (ends_fields listing (get_or ts i d).kind) found
    (fields_behind (with_field found listing (get_or ts i d)) (listing_behind listing (get_or ts i d).kind) (drop (i + 1) ts))
unfolding fields_behind
step found listing ts i d lt =
    let t : Token = get_or ts i d in
    ap (fields_behind found listing) (drop-cons ts i d lt)
    ∙ ap (λ n. cond (ends_fields listing t.kind) found (fields_behind (with_field found listing t) (listing_behind listing t.kind) (drop n ts))) (sym (add-one i))

pub ends_there : (found : List Token) (listing : Listing) (ts : List Token) (i : ℕ) (d : Token) → i < length ts →
    ends_fields listing (get_or ts i d).kind ≡ true → fields_behind found listing (drop i ts) ≡ found
ends_there found listing ts i d lt is =
    step found listing ts i d lt
    ∙ ap (λ b. cond b found (fields_behind (with_field found listing (get_or ts i d)) (listing_behind listing (get_or ts i d).kind) (drop (i + 1) ts))) is

pub goes_on : (found : List Token) (listing : Listing) (ts : List Token) (i : ℕ) (d : Token) → i < length ts →
    ends_fields listing (get_or ts i d).kind ≡ false →
    fields_behind found listing (drop i ts)
    ≡ fields_behind (with_field found listing (get_or ts i d)) (listing_behind listing (get_or ts i d).kind) (drop (i + 1) ts)
goes_on found listing ts i d lt isnt =
    step found listing ts i d lt
    ∙ ap (λ b. cond b found (fields_behind (with_field found listing (get_or ts i d)) (listing_behind listing (get_or ts i d).kind) (drop (i + 1) ts))) isnt

pub none_left : (found : List Token) (listing : Listing) (ts : List Token) (i : ℕ) → length ts ≤ i → fields_behind found listing (drop i ts) ≡ found
unfolding fields_behind
none_left found listing ts i past = ap (fields_behind found listing) (drop_of_length-le ts past)
