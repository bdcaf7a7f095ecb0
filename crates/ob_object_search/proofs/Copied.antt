-- The events of a history with the names of their processes, one after the other.
use Rattle.std.proofs.Common.{◌≡◌, ◌∙◌, ℕ, suc, ◌+◌, List, [], ◌∷◌, ◌++◌, Some, length, take, ap, subst, arith}
use Rattle.std.proofs.lemmas.List.{map-append, take-map}
use Rattle.std.specs.List.{slice_get}
use Rattle.ob_interface.specs.Call.{ObjectCall, Reply}
use Rattle.ob_text_reading.proofs.Naming.{named_history}
use Rattle.ob_text_reading.specs.Names.{AreApart, AreBelow, named, named_all}
use Rattle.wf_history.proofs.Positions.{take_next}
use Rattle.wf_history.specs.History.{Event, IsHistory}
use Rattle.wf_lookup.proofs.Turns.{take_whole}

module _ (names : List ℕ) (apart : AreApart names) (history : List (Event ObjectCall Reply)) (below : AreBelow (length names) history) (whole : IsHistory history)
    (k : ℕ) (e : Event ObjectCall Reply) (here : slice_get history k ≡ Some e) where
  pub copied_next : named_all names (take (k + 1) history) ≡ named_all names (take k history) ++ named names e ∷ []
  copied_next =
      let one_more : k + 1 ≡ suc k = omega arith in
      ap (named_all names) (ap (λ (n : ℕ). take n history) one_more ∙ take_next history k e here) ∙ map-append (named names) (take k history) (e ∷ [])

  pub copied_whole : IsHistory (named_all names (take k history) ++ named names e ∷ [])
  copied_whole =
      subst (λ (es : List (Event ObjectCall Reply)). IsHistory es) (take-map (named names) (k + 1) history ∙ copied_next)
      (take_whole (k + 1) (named_all names history) (named_history names apart history below whole))
