-- The changes of calls, one call more.
use Rattle.std.proofs.Common.{◌≡◌, ◌∙◌, ℕ, ◌+◌, ◌<◌, ◌≤◌, List, [], ◌∷◌, ◌++◌, drop, length, get_or, sym, ap, append_assoc, append-nil}
use Rattle.ob_interface.specs.Call.{ObjectCall, Reply}
use Rattle.ob_mean.proofs.Runs.{drop_here, drop_beyond}
use Rattle.ob_object_calls.specs.DetailLines.{all_changes_at, changes_at}
use Rattle.ob_meaning.specs.ByPositionObject.{effect}
use Rattle.ob_meaning.specs.ByPositionStore.{Activation}
use Rattle.ob_typing.specs.Program.{Program}

module _ (program : Program) (budget : ℕ) (all : List ObjectCall) where
  pub changes_next : (position : ℕ) (call : ObjectCall) (state next : Activation) (reply : Reply) (so_far made : List (List ℕ)) (text : List ℕ) →
      position < length all → call ≡ get_or all position call → effect program call budget state ≡ record { state = next; reply = reply } →
      text ≡ changes_at program state next → so_far ++ all_changes_at program budget state (drop position all) ≡ made →
      (so_far ++ text ∷ []) ++ all_changes_at program budget next (drop (position + 1) all) ≡ made
  changes_next position call state next reply so_far made text below here gives is before =
      let rest = drop (position + 1) all in
      let calls : drop position all ≡ call ∷ rest = drop_here all position call below ∙ ap (λ c. c ∷ rest) (sym here) in
      append_assoc so_far (text ∷ []) (all_changes_at program budget next rest)
      ∙ ap (λ t. so_far ++ t ∷ all_changes_at program budget next rest) is
      ∙ sym (ap (λ e. so_far ++ changes_at program state e.state ∷ all_changes_at program budget e.state rest) gives)
      ∙ sym (ap (λ cs. so_far ++ all_changes_at program budget state cs) calls)
      ∙ before

  pub changes_last : (position : ℕ) (state : Activation) (so_far made : List (List ℕ)) → length all ≤ position →
      so_far ++ all_changes_at program budget state (drop position all) ≡ made → so_far ≡ made
  changes_last position state so_far made beyond before =
      sym (append-nil so_far) ∙ sym (ap (λ cs. so_far ++ all_changes_at program budget state cs) (drop_beyond all position beyond)) ∙ before
