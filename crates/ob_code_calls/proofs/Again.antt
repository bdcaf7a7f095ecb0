-- Calls that are made again lead to the words that they led to.
use Rattle.std.proofs.Common.{◌≡◌, ◌∙◌, ℕ, ◌+◌, ◌<◌, ◌≤◌, List, [], ◌∷◌, ◌++◌, length, get_or, drop, refl, sym, ap, subst, All, inl, inr}
use Rattle.std.specs.Prelude.{ℤ, ◌⊎◌}
use Rattle.std.proofs.lemmas.List.{drop_all, drop_more}
use Rattle.std.proofs.lemmas.List.Elements.{All-push}
use Rattle.ob_code_calls.specs.Calls.{left_by, left_by_all}
use Rattle.ob_code_correct.specs.CodeMeaning.{EngineParts}
use Rattle.ob_interface.specs.Call.{ObjectCall}

module _ (parts : EngineParts) where
  -- one call behind others
  pub left_behind : (block : List ℤ) (calls : List ObjectCall) (call : ObjectCall) → left_by_all parts block (calls ++ call ∷ []) ≡ left_by parts (left_by_all parts block calls) call
  left_behind block [] call = refl
  left_behind block (c ∷ calls) call = left_behind (left_by parts block c) calls call

  -- so the words behind one call more
  pub left_more : (kept before after : List ℤ) (since noted : List ObjectCall) (call : ObjectCall) → before ≡ left_by_all parts kept since → after ≡ left_by parts before call →
      noted ≡ since ++ call ∷ [] → after ≡ left_by_all parts kept noted
  left_more kept before after since noted call is made more =
      made ∙ ap (λ (b : List ℤ). left_by parts b call) is ∙ sym (left_behind kept since call) ∙ ap (left_by_all parts kept) (sym more)

  -- one call of a list taken off the front
  pub left_next : (block next made : List ℤ) (calls : List ObjectCall) (n : ℕ) (call : ObjectCall) → n < length calls → call ≡ get_or calls n call → next ≡ left_by parts block call →
      left_by_all parts block (drop n calls) ≡ made → left_by_all parts next (drop (n + 1) calls) ≡ made
  left_next block next made calls n call below here is so_far =
      ap (λ (b : List ℤ). left_by_all parts b (drop (n + 1) calls)) is
      ∙ sym (ap (left_by_all parts block) (drop_more calls n call below ∙ ap (λ (c : ObjectCall). c ∷ drop (n + 1) calls) (sym here)))
      ∙ so_far

  -- and none left
  pub left_last : (block made : List ℤ) (calls : List ObjectCall) (n : ℕ) → length calls ≤ n → left_by_all parts block (drop n calls) ≡ made → block ≡ made
  left_last block made calls n all so_far = ap (left_by_all parts block) (sym (drop_all n calls all)) ∙ so_far

-- what holds of the noted calls and of one more holds of those that are noted then
pub noted_more : {X : Type 0} (P : X → Type 0) (since noted : List X) (call : X) → (noted ≡ since ++ call ∷ []) ⊎ (noted ≡ since) → All P since → P call → All P noted
noted_more {X} P since noted call (inl more) all one = subst (λ (calls : List X). All P calls) (sym more) (All-push P since call all one)
noted_more {X} P since noted call (inr same) all one = subst (λ (calls : List X). All P calls) (sym same) all
