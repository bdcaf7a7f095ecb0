-- Calls, as they are told.
use Rattle.std.proofs.Common.{◌≡◌, sym, ap, ◌∙◌, subst, List, [], ◌∷◌, ◌++◌, Some, inl, inr}
use Rattle.std.specs.List.{slice_get}
use Rattle.wf_history.proofs.Positions.{place_push}
use Rattle.wf_outcomes.specs.OutcomeOrders.{AreCallsTold, AreRepliesTold, CallTold}

module _ {State Call Reply : Type 0} (Effect : Call → State → State → Reply → Type 0) (scripts : List (List Call)) (opening : State) where
  pub none_told : (calls : List (CallTold Reply)) → calls ≡ [] → AreCallsTold Effect scripts opening calls
  none_told calls none = λ k told at. let e : slice_get [] k ≡ Some told = ap (λ (l : List (CallTold Reply)). slice_get l k) (sym none) ∙ at in absurd (cc)

  pub one_told : (calls : List (CallTold Reply)) → AreCallsTold Effect scripts opening calls → (one : CallTold Reply) → ∥ AreRepliesTold Effect scripts opening one.id one.replies ∥₁ →
      (after : List (CallTold Reply)) → after ≡ calls ++ one ∷ [] → AreCallsTold Effect scripts opening after
  one_told calls h one new after pushed = subst (AreCallsTold Effect scripts opening) (sym pushed) (λ k told at.
      elim (place_push calls one k told at) [
        | inl old ↦ h k told old
        | inr now ↦ subst (λ (t : CallTold Reply). ∥ AreRepliesTold Effect scripts opening t.id t.replies ∥₁) now.1 new
      ])
