-- Tokens of calls and of headings one by one.
use Rattle.std.proofs.Common.{◌≡◌, ℕ, zero, suc, ◌+◌, ◌-◌, ◌<◌, ◌≤◌, Bool, true, false, cond, List, Option, Some, None, length, get_or, drop, refl, sym, ◌∙◌, ap, add-one, drop-cons, drop_of_length-le, arith}
use Rattle.ob_scan.specs.declared.token.Token.{Token}
use Rattle.ob_explain_tokens.specs.Kinds.{is_right}
use Rattle.ob_explain_parts.specs.Parameters.{comma, handed_at, is_outside, is_parameter, parameter_named, still_in_type}

-- what is left of the tokens before an actual

step : (first : Option Token) (commas : ℕ) (ts : List Token) (i : ℕ) (d : Token) → i < length ts →
    handed_at first commas (drop i ts)
    ≡ cond (is_outside (get_or ts i d).kind) (record { first = first; number = commas })
    (handed_at (Some (get_or ts i d)) (commas + comma (get_or ts i d).kind) (drop (i + 1) ts))
unfolding handed_at
step first commas ts i d lt =
    let t : Token = get_or ts i d in
    ap (handed_at first commas) (drop-cons ts i d lt)
    ∙ ap (λ n. cond (is_outside t.kind) (record { first = first; number = commas }) (handed_at (Some t) (commas + comma t.kind) (drop n ts))) (sym (add-one i))

pub stands_outside : (first : Option Token) (commas : ℕ) (ts : List Token) (i : ℕ) (d : Token) → i < length ts →
    is_outside (get_or ts i d).kind ≡ true → handed_at first commas (drop i ts) ≡ record { first = first; number = commas }
stands_outside first commas ts i d lt is =
    step first commas ts i d lt
    ∙ ap (λ b. cond b (record { first = first; number = commas }) (handed_at (Some (get_or ts i d)) (commas + comma (get_or ts i d).kind) (drop (i + 1) ts))) is

pub goes_back : (first : Option Token) (commas : ℕ) (ts : List Token) (i : ℕ) (d : Token) → i < length ts →
    is_outside (get_or ts i d).kind ≡ false →
    handed_at first commas (drop i ts) ≡ handed_at (Some (get_or ts i d)) (commas + comma (get_or ts i d).kind) (drop (i + 1) ts)
goes_back first commas ts i d lt is =
    step first commas ts i d lt
    ∙ ap (λ b. cond b (record { first = first; number = commas }) (handed_at (Some (get_or ts i d)) (commas + comma (get_or ts i d).kind) (drop (i + 1) ts))) is

pub none_left : (first : Option Token) (commas : ℕ) (ts : List Token) (i : ℕ) → length ts ≤ i → handed_at first commas (drop i ts) ≡ record { first = None; number = commas }
unfolding handed_at
none_left first commas ts i past = ap (handed_at first commas) (drop_of_length-le ts past)

-- what is left of the tokens of a heading

pub ends_there : (number : ℕ) (in_type : Bool) (ts : List Token) (i : ℕ) (d : Token) → i < length ts →
    is_right (get_or ts i d).kind ≡ true → parameter_named number in_type (drop i ts) ≡ None
unfolding parameter_named
ends_there zero in_type ts i d lt is = ap (parameter_named zero in_type) (drop-cons ts i d lt) ∙ rw is refl
ends_there (suc number) in_type ts i d lt is = ap (parameter_named (suc number) in_type) (drop-cons ts i d lt) ∙ rw is refl

pub is_there : (in_type : Bool) (ts : List Token) (i : ℕ) (d : Token) → i < length ts →
    is_right (get_or ts i d).kind ≡ false → is_parameter in_type (get_or ts i d).kind ≡ true →
    parameter_named 0 in_type (drop i ts) ≡ Some (get_or ts i d)
unfolding parameter_named
is_there in_type ts i d lt on is = ap (parameter_named zero in_type) (drop-cons ts i d lt) ∙ rw (on, is) refl

pub is_behind : (number : ℕ) (in_type : Bool) (ts : List Token) (i : ℕ) (d : Token) → i < length ts → (number ≡ 0 → ⊥) →
    is_right (get_or ts i d).kind ≡ false → is_parameter in_type (get_or ts i d).kind ≡ true →
    parameter_named number in_type (drop i ts) ≡ parameter_named (number - 1) in_type (drop (i + 1) ts)
unfolding parameter_named
is_behind zero in_type ts i d lt some on is = absurd (some refl)
is_behind (suc number) in_type ts i d lt some on is =
    let less : number ≡ suc number - 1 = omega arith in
    ap (parameter_named (suc number) in_type) (drop-cons ts i d lt) ∙ rw (on, is) refl
    ∙ ap (λ n. parameter_named n in_type (drop (suc i) ts)) less ∙ ap (λ n. parameter_named (suc number - 1) in_type (drop n ts)) (sym (add-one i))

pub no_name : (number : ℕ) (in_type : Bool) (ts : List Token) (i : ℕ) (d : Token) → i < length ts →
    is_right (get_or ts i d).kind ≡ false → is_parameter in_type (get_or ts i d).kind ≡ false →
    parameter_named number in_type (drop i ts) ≡ parameter_named number (still_in_type in_type (get_or ts i d).kind) (drop (i + 1) ts)
unfolding parameter_named
no_name zero in_type ts i d lt on isnt =
    ap (parameter_named zero in_type) (drop-cons ts i d lt) ∙ rw (on, isnt) refl
    ∙ ap (λ n. parameter_named zero (still_in_type in_type (get_or ts i d).kind) (drop n ts)) (sym (add-one i))
no_name (suc number) in_type ts i d lt on isnt =
    ap (parameter_named (suc number) in_type) (drop-cons ts i d lt) ∙ rw (on, isnt) refl
    ∙ ap (λ n. parameter_named (suc number) (still_in_type in_type (get_or ts i d).kind) (drop n ts)) (sym (add-one i))

pub no_parameter : (number : ℕ) (in_type : Bool) (ts : List Token) (i : ℕ) → length ts ≤ i → parameter_named number in_type (drop i ts) ≡ None
unfolding parameter_named
no_parameter number in_type ts i past = ap (parameter_named number in_type) (drop_of_length-le ts past)
