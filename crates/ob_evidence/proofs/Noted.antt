-- Facts that are noted one behind the other.
use Rattle.std.proofs.Common.{◌≡◌, ◌+◌, ◌<◌, ◌++◌, ◌∙◌, ℕ, Bool, true, false, List, [], ◌∷◌, length, take, get_or, refl, sym, ap}
use Rattle.std.specs.Prelude.{filter, map}
use Rattle.std.proofs.lemmas.List.{append-nil, map-append, take_more}
use Rattle.std.proofs.lemmas.List.Elements.{filter-append}
use Rattle.ob_explain_sentences.specs.declared.table_rows.Fact.{Fact}
use Rattle.ob_evidence.specs.Facts.{facts_in, with_fact}

behind : (facts : List Fact) (is : Bool) (fact : Fact) → facts ++ facts_in ((is, fact) ∷ []) ≡ with_fact facts is fact
behind facts true fact = refl
behind facts false fact = append-nil facts

one_more : (pairs : List (Bool × Fact)) (is : Bool) (fact : Fact) → facts_in (pairs ++ (is, fact) ∷ []) ≡ with_fact (facts_in pairs) is fact
one_more pairs is fact =
    let holds : Bool × Fact → Bool = λ p. p.0 in
    let said : Bool × Fact → Fact = λ p. p.1 in
    let last : List (Bool × Fact) = (is, fact) ∷ [] in
    ap (λ (l : List (Bool × Fact)). map said l) (filter-append holds pairs last)
    ∙ (map-append said (filter holds pairs) (filter holds last) ∙ behind (facts_in pairs) is fact)

-- one more of some facts is looked at
pub noted : (pairs : List (Bool × Fact)) (i : ℕ) (d : Bool × Fact) (facts more : List Fact) → i < length pairs → facts ≡ facts_in (take i pairs) →
    more ≡ with_fact facts (get_or pairs i d).0 (get_or pairs i d).1 → more ≡ facts_in (take (i + 1) pairs)
noted pairs i d facts more lt so_far e =
    let p : Bool × Fact = get_or pairs i d in
    e
    ∙ (ap (λ (fs : List Fact). with_fact fs p.0 p.1) so_far
    ∙ (sym (one_more (take i pairs) p.0 p.1) ∙ ap (λ (l : List (Bool × Fact)). facts_in l) (sym (take_more pairs i d lt))))
