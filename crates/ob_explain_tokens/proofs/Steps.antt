-- Tokens one by one.
use Rattle.std.proofs.Common.{◌≡◌, ℕ, suc, ◌+◌, ◌<◌, ◌≤◌, true, false, cond, List, Option, Some, None, length, get_or, drop, sym, ◌∙◌, ap, add-one, drop-cons, drop_of_length-le}
use Rattle.ob_scan.specs.declared.token.Token.{Token}
use Rattle.ob_explain_tokens.specs.Actuals.{comma, commas, ends_call}
use Rattle.ob_explain_tokens.specs.ClosedConstructs.{closed_before, name_of_end, or_here}

-- the commas of what is left

pub comma_here : (ts : List Token) (i : ℕ) (d : Token) → i < length ts → ends_call (get_or ts i d).kind ≡ false →
    commas (drop i ts) ≡ comma (get_or ts i d).kind + commas (drop (i + 1) ts)
unfolding commas
comma_here ts i d lt on =
    let t : Token = get_or ts i d in
    ap commas (drop-cons ts i d lt)
    ∙ ap (λ b. cond b 0 (comma t.kind + commas (drop (suc i) ts))) on
    ∙ ap (λ n. comma t.kind + commas (drop n ts)) (sym (add-one i))

pub ended_here : (ts : List Token) (i : ℕ) (d : Token) → i < length ts → ends_call (get_or ts i d).kind ≡ true → commas (drop i ts) ≡ 0
unfolding commas
ended_here ts i d lt on =
    let t : Token = get_or ts i d in
    ap commas (drop-cons ts i d lt) ∙ ap (λ b. cond b 0 (comma t.kind + commas (drop (suc i) ts))) on

pub no_more : (ts : List Token) (i : ℕ) → length ts ≤ i → commas (drop i ts) ≡ 0
unfolding commas
no_more ts i past = ap commas (drop_of_length-le ts past)

-- what is left of the tokens before an END

step : (closed : ℕ) (behind : Option Token) (ts : List Token) (i : ℕ) (d : Token) → i < length ts →
    name_of_end closed behind (drop i ts)
    ≡ or_here behind (λ fewer. name_of_end fewer (Some (get_or ts i d)) (drop (i + 1) ts)) (closed_before (get_or ts i d).kind closed)
unfolding name_of_end
step closed behind ts i d lt =
    let t : Token = get_or ts i d in
    ap (name_of_end closed behind) (drop-cons ts i d lt)
    ∙ ap (λ n. or_here behind (λ fewer. name_of_end fewer (Some t) (drop n ts)) (closed_before t.kind closed)) (sym (add-one i))

pub goes_back : (closed : ℕ) (behind : Option Token) (ts : List Token) (i fewer : ℕ) (d : Token) → i < length ts →
    closed_before (get_or ts i d).kind closed ≡ Some fewer →
    name_of_end closed behind (drop i ts) ≡ name_of_end fewer (Some (get_or ts i d)) (drop (i + 1) ts)
goes_back closed behind ts i fewer d lt is =
    step closed behind ts i d lt ∙ ap (or_here behind (λ n. name_of_end n (Some (get_or ts i d)) (drop (i + 1) ts))) is

pub opens_here : (closed : ℕ) (behind : Option Token) (ts : List Token) (i : ℕ) (d : Token) → i < length ts →
    closed_before (get_or ts i d).kind closed ≡ None → name_of_end closed behind (drop i ts) ≡ behind
opens_here closed behind ts i d lt is =
    step closed behind ts i d lt ∙ ap (or_here behind (λ n. name_of_end n (Some (get_or ts i d)) (drop (i + 1) ts))) is

pub none_left : (closed : ℕ) (behind : Option Token) (ts : List Token) (i : ℕ) → length ts ≤ i → name_of_end closed behind (drop i ts) ≡ None
unfolding name_of_end
none_left closed behind ts i past = ap (name_of_end closed behind) (drop_of_length-le ts past)
