-- Tokens one by one.
use Rattle.std.proofs.Common.{◌≡◌, ℕ, ◌+◌, ◌<◌, ◌≤◌, ◌||◌, Bool, true, false, List, length, get_or, drop, sym, ◌∙◌, ap, add-one, drop-cons, drop_of_length-le}
use Rattle.ob_scan.specs.declared.token.Token.{Token}
use Rattle.ob_explain_arguments.specs.DeclaredNames.{declares, is_its_name, is_procedure}

module _ (text name : List ℕ) (behind : Bool) (ts : List Token) (i : ℕ) where
  step : (d : Token) → i < length ts →
      declares text name behind (drop i ts) ≡ (is_its_name text name behind (get_or ts i d) || declares text name (is_procedure (get_or ts i d).kind) (drop (i + 1) ts))
  unfolding declares
  step d lt =
      let t : Token = get_or ts i d in
      ap (declares text name behind) (drop-cons ts i d lt)
      ∙ ap (λ n. is_its_name text name behind t || declares text name (is_procedure t.kind) (drop n ts)) (sym (add-one i))

  pub found_here : (d : Token) → i < length ts → is_its_name text name behind (get_or ts i d) ≡ true → declares text name behind (drop i ts) ≡ true
  found_here d lt is = step d lt ∙ ap (λ (b : Bool). b || declares text name (is_procedure (get_or ts i d).kind) (drop (i + 1) ts)) is

  pub goes_on : (d : Token) → i < length ts → is_its_name text name behind (get_or ts i d) ≡ false →
      declares text name behind (drop i ts) ≡ declares text name (is_procedure (get_or ts i d).kind) (drop (i + 1) ts)
  goes_on d lt is = step d lt ∙ ap (λ (b : Bool). b || declares text name (is_procedure (get_or ts i d).kind) (drop (i + 1) ts)) is

  pub none_left : length ts ≤ i → declares text name behind (drop i ts) ≡ false
  unfolding declares
  none_left past = ap (declares text name behind) (drop_of_length-le ts past)
