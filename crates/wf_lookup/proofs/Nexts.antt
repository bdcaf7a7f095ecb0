-- The first events of a history, and one more.
use Rattle.std.proofs.Common.{◌≡◌, ◌∙◌, ℕ, suc, ◌+◌, List, [], ◌∷◌, ◌++◌, Some, ap, arith, subst, take}
use Rattle.std.specs.List.{slice_get}
use Rattle.wf_history.proofs.Positions.{take_next}
use Rattle.wf_history.specs.History.{Event, IsHistory}
use Rattle.wf_lookup.proofs.Turns.{take_whole}

module _ {Call Reply : Type 0} (es : List (Event Call Reply)) (k : ℕ) (e : Event Call Reply) where
  pub taken_next : slice_get es k ≡ Some e → take (k + 1) es ≡ take k es ++ e ∷ []
  taken_next here = let one_more : k + 1 ≡ suc k = omega arith in ap (λ (n : ℕ). take n es) one_more ∙ take_next es k e here

  pub next_whole : IsHistory es → slice_get es k ≡ Some e → IsHistory (take k es ++ e ∷ [])
  next_whole whole here = subst (λ (l : List (Event Call Reply)). IsHistory l) (taken_next here) (take_whole (k + 1) es whole)
