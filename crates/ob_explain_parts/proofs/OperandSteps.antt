-- The tokens of an operand one by one, from its end on.
use Rattle.std.proofs.Common.{◌≡◌, ℕ, ◌+◌, ◌<◌, ◌≤◌, true, false, cond, List, Option, length, get_or, drop, refl, sym, ◌∙◌, ap, add-one, drop-cons, drop_of_length-le}
use Rattle.ob_scan.specs.declared.token.Token.{Token}
use Rattle.ob_explain_parts.specs.Parts.{brackets_before, name_before, operand_start, stands_before}

step : (brackets : ℕ) (name : Option Token) (ts : List Token) (i : ℕ) (d : Token) → i < length ts →
    operand_start brackets name (drop i ts)
    ≡ cond (stands_before brackets name (get_or ts i d).kind) name
    (operand_start (brackets_before brackets (get_or ts i d).kind) (name_before brackets (get_or ts i d)) (drop (i + 1) ts))
unfolding operand_start
step brackets name ts i d lt =
    let t : Token = get_or ts i d in
    ap (operand_start brackets name) (drop-cons ts i d lt)
    ∙ ap (λ n. cond (stands_before brackets name t.kind) name (operand_start (brackets_before brackets t.kind) (name_before brackets t) (drop n ts))) (sym (add-one i))

pub stops_there : (brackets : ℕ) (name : Option Token) (ts : List Token) (i : ℕ) (d : Token) → i < length ts →
    stands_before brackets name (get_or ts i d).kind ≡ true → operand_start brackets name (drop i ts) ≡ name
stops_there brackets name ts i d lt is = step brackets name ts i d lt ∙ rw is refl

pub goes_back : (brackets : ℕ) (name : Option Token) (ts : List Token) (i : ℕ) (d : Token) → i < length ts →
    stands_before brackets name (get_or ts i d).kind ≡ false →
    operand_start brackets name (drop i ts)
    ≡ operand_start (brackets_before brackets (get_or ts i d).kind) (name_before brackets (get_or ts i d)) (drop (i + 1) ts)
goes_back brackets name ts i d lt isnt = step brackets name ts i d lt ∙ rw isnt refl

pub none_left : (brackets : ℕ) (name : Option Token) (ts : List Token) (i : ℕ) → length ts ≤ i → operand_start brackets name (drop i ts) ≡ name
unfolding operand_start
none_left brackets name ts i past = ap (operand_start brackets name) (drop_of_length-le ts past)
