-- The tokens of selectors one by one.
use Rattle.std.proofs.Common.{◌≡◌, ℕ, ◌+◌, ◌<◌, ◌≤◌, true, false, cond, List, Option, Some, None, length, get_or, drop, refl, sym, ◌∙◌, ap, add-one, drop-cons, drop_of_length-le}
use Rattle.ob_scan.specs.declared.token.Token.{Token}
use Rattle.ob_explain_names.specs.declared.known.Known.{Known}
use Rattle.ob_explain_parts.specs.Parts.{ends_parts, part_behind, selected, selecting_behind}
use Rattle.ob_explain_parts.specs.declared.variable_parts.Selecting.{Selecting}
use Rattle.ob_explain_parts.specs.declared.declared_types.Standing.{Standing}

module _ (text : List ℕ) (known : List Known) (tokens : List Token) where
  step : (selecting : Selecting) (part : Option Standing) (ts : List Token) (i : ℕ) (d : Token) → i < length ts →
      selected text known tokens selecting part (drop i ts)
      ≡ cond (ends_parts selecting (get_or ts i d).kind) (record { part = part; next = Some (get_or ts i d) })
      (selected text known tokens (selecting_behind selecting (get_or ts i d).kind) (part_behind text known tokens selecting part (get_or ts i d)) (drop (i + 1) ts))
  unfolding selected
  step selecting part ts i d lt =
      let t : Token = get_or ts i d in
      ap (selected text known tokens selecting part) (drop-cons ts i d lt)
      ∙ ap (λ n. cond (ends_parts selecting t.kind) (record { part = part; next = Some t })
      (selected text known tokens (selecting_behind selecting t.kind) (part_behind text known tokens selecting part t) (drop n ts))) (sym (add-one i))

  pub ends_there : (selecting : Selecting) (part : Option Standing) (ts : List Token) (i : ℕ) (d : Token) → i < length ts →
      ends_parts selecting (get_or ts i d).kind ≡ true →
      selected text known tokens selecting part (drop i ts) ≡ record { part = part; next = Some (get_or ts i d) }
  ends_there selecting part ts i d lt is = step selecting part ts i d lt ∙ rw is refl

  pub goes_on : (selecting : Selecting) (part : Option Standing) (ts : List Token) (i : ℕ) (d : Token) → i < length ts →
      ends_parts selecting (get_or ts i d).kind ≡ false →
      selected text known tokens selecting part (drop i ts)
      ≡ selected text known tokens (selecting_behind selecting (get_or ts i d).kind) (part_behind text known tokens selecting part (get_or ts i d)) (drop (i + 1) ts)
  goes_on selecting part ts i d lt isnt = step selecting part ts i d lt ∙ rw isnt refl

  pub none_left : (selecting : Selecting) (part : Option Standing) (ts : List Token) (i : ℕ) → length ts ≤ i →
      selected text known tokens selecting part (drop i ts) ≡ record { part = part; next = None }
  unfolding selected
  none_left selecting part ts i past = ap (selected text known tokens selecting part) (drop_of_length-le ts past)
