-- A call of an export that is known to change no variable leaves the state as it is.
use Rattle.std.proofs.Common.{◌≡◌, ap, sym, ◌∙◌, ℕ, zero, suc, List, [], ◌∷◌, true, false, get_or}
use Rattle.std.specs.Prelude.{Bool, slice_get, Some}
use Rattle.std.specs.Coded.{Coded-set, coded_list, coded_ℕ}
use Rattle.std.proofs.Math.Logic.{∥∥₁_elim}
use Rattle.ob_interface.specs.Call.{ObjectCall, Reply}
use Rattle.ob_object_run.specs.LegalOrder.{CallEnds}
use Rattle.ob_object_search.specs.Laws.{words_told_apart}
use Rattle.ob_object_search.specs.Words.{words_of}
use Rattle.ob_meaning.specs.ByPositionStore.{Activation}
use Rattle.ob_meaning.specs.ByPositionObject.{Effect, effect}
use Rattle.ob_carry.specs.ReadOnly.{TellsReadOnly}
use Rattle.ob_object_search.proofs.ByCode.{coded_reply}
use Rattle.ob_state_replies.specs.StateReplies.{TellsStateReplies}
use Rattle.wf_order.specs.Rules.{RepliesAlike}
use Rattle.ob_typing.specs.Program.{Program}

told_at : (told : List Bool) (k : ℕ) → get_or told k false ≡ true → slice_get told k ≡ Some true
told_at [] k h = absurd (cc)
told_at (b ∷ told) zero h = ap (λ (x : Bool). Some x) h
told_at (b ∷ told) (suc k) h = told_at told k h

module _ (program : Program) (told : List Bool) (tells : ∥ TellsReadOnly program told ∥₁) where
  pub leaves_state : (budget : ℕ) (call : ObjectCall) (before after : Activation) (reply : Reply) → get_or told call.export false ≡ true →
      CallEnds program budget call before after reply → before ≡ after
  leaves_state budget call before after reply known ends =
      words_told_apart before after
      (∥∥₁_elim tells (Coded-set (coded_list coded_ℕ) (words_of before) (words_of after))
      (λ t. ap words_of (t.true_of call.export (told_at told call.export known) budget call.arguments before after reply ends)))

-- and one of an export whose reply is known to depend on no argument replies as another one
module _ (program : Program) (told : List Bool) (tells : ∥ TellsStateReplies program told ∥₁) where
  pub replies_so : (budget : ℕ) (call other : ObjectCall) → get_or told call.export false ≡ true → other.export ≡ call.export → RepliesAlike (CallEnds program budget other) (CallEnds program budget call)
  replies_so budget call other known same before after reply ends =
      let own = effect program call budget before in
      let its = effect program other budget before in
      let alike : own.reply ≡ its.reply =
      ∥∥₁_elim tells (Coded-set coded_reply own.reply its.reply)
      (λ t. t.true_of call.export (told_at told call.export known) budget call.arguments other.arguments before ∙
      ap (λ (export : ℕ). (effect program (record { export = export; arguments = other.arguments }) budget before).reply) (sym same)) in
      (own.state, ap (λ (r : Reply). record { state = own.state; reply = r }) (alike ∙ ap (λ (e : Effect). e.reply) ends))
