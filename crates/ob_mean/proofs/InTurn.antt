-- Calls one at a time, and one call more.
use Rattle.std.proofs.Common.{◌≡◌, ap, sym, ◌∙◌, ℕ, List, [], ◌∷◌, ◌++◌, ◌<◌, ◌≤◌, ◌+◌, length, drop, get_or, append_assoc}
use Rattle.std.proofs.lemmas.List.{append-nil}
use Rattle.ob_typing.specs.Program.{Program}
use Rattle.ob_interface.specs.Call.{ObjectCall, Reply}
use Rattle.ob_meaning.specs.ByPositionStore.{Activation}
use Rattle.ob_meaning.specs.ByPositionObject.{effect}
use Rattle.ob_mean.specs.Sequences.{replies_to}
use Rattle.ob_mean.proofs.Runs.{drop_here, drop_beyond}

module _ (program : Program) (budget : ℕ) (all : List ObjectCall) (made : List Reply) where
  -- behind the call at a position
  pub made_next : (position : ℕ) (call : ObjectCall) (state next : Activation) (so_far : List Reply) (reply : Reply) → position < length all →
      call ≡ get_or all position call → effect program call budget state ≡ record { state = next; reply = reply } →
      so_far ++ replies_to program budget state (drop position all) ≡ made →
      (so_far ++ reply ∷ []) ++ replies_to program budget next (drop (position + 1) all) ≡ made
  made_next position call state next so_far reply below here gives before =
      let rest = drop (position + 1) all in
      let calls : drop position all ≡ call ∷ rest = drop_here all position call below ∙ ap (λ c. c ∷ rest) (sym here) in
      append_assoc so_far (reply ∷ []) (replies_to program budget next rest)
      ∙ sym (ap (λ e. so_far ++ e.reply ∷ replies_to program budget e.state rest) gives)
      ∙ sym (ap (λ cs. so_far ++ replies_to program budget state cs) calls)
      ∙ before

  -- behind all calls
  pub all_made : (position : ℕ) (state : Activation) (so_far : List Reply) → length all ≤ position →
      so_far ++ replies_to program budget state (drop position all) ≡ made → so_far ≡ made
  all_made position state so_far beyond before =
      sym (append-nil so_far) ∙ sym (ap (λ cs. so_far ++ replies_to program budget state cs) (drop_beyond all position beyond)) ∙ before
