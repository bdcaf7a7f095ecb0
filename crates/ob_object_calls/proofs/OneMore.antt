-- Calls made one at a time, one call more.
use Rattle.std.proofs.Common.{◌≡◌, ◌∙◌, ℕ, suc, List, [], ◌∷◌, ◌++◌, Some, ap, slice_get, subst, sym, take}
use Rattle.ob_interface.specs.Call.{ObjectCall, Reply}
use Rattle.ob_object_calls.specs.MadeCalls.{LeadTo}
use Rattle.ob_meaning.specs.ByPositionObject.{Effect, effect}
use Rattle.ob_meaning.specs.ByPositionStore.{Activation}
use Rattle.ob_typing.specs.Program.{Program}
use Rattle.wf_history.proofs.Positions.{take_next}
use Rattle.wf_history.specs.History.{Event}
use Rattle.wf_history.specs.Legal.{HasBegun, OneAtATime, none, more}
use Rattle.wf_history.specs.declared.event.CallId.{CallId}

module _ {State Call Reply : Type 0} where
  made_more : {Made : CallId → Call → Type 0} {Does : Call → State → State → Reply → Type 0} (ids : List CallId) (replies : List Reply) (before state after : State) (id : CallId) (call : Call) (reply : Reply) →
      OneAtATime Made Does before ids replies state → Made id call → Does call state after reply →
      OneAtATime Made Does before (ids ++ id ∷ []) (replies ++ reply ∷ []) after
  made_more [] [] before state after id call reply (none) made ends = more made ends none
  made_more [] (r ∷ replies) before state after id call reply h made ends = elim h [ ]
  made_more (i ∷ ids) [] before state after id call reply h made ends = elim h [ ]
  made_more (i ∷ ids) (r ∷ replies) before state after id call reply (more {between = between} first step rest) made ends =
      more first step (made_more ids replies between state after id call reply rest made ends)

module _ {State : Type 0} (Does : ObjectCall → State → State → Reply → Type 0) (opening : State) (history : List (Event ObjectCall Reply)) where
  pub lead_none : (state : State) → state ≡ opening → LeadTo Does opening history [] state
  lead_none state same = ([], subst (λ (s : State). OneAtATime (HasBegun history) Does opening [] [] s) (sym same) none)

  pub lead_more : (ids : List CallId) (k : ℕ) (id : CallId) (call : ObjectCall) (state after : State) (reply : Reply) → slice_get ids k ≡ Some id → LeadTo Does opening history (take k ids) state →
      HasBegun history id call → Does call state after reply → LeadTo Does opening history (take (suc k) ids) after
  lead_more ids k id call state after reply here lead begun ends =
      subst (λ (is : List CallId). LeadTo Does opening history is after) (sym (take_next ids k id here))
      (lead.0 ++ reply ∷ [], made_more (take k ids) lead.0 opening state after id call reply lead.1 begun ends)

-- what a call came to, of the program and the call that it was made for
pub call_ends : (program given : Program) (call made : ObjectCall) (budget : ℕ) (before : Activation) (e : Effect) → given ≡ program → made ≡ call →
    effect given made budget before ≡ e → effect program call budget before ≡ e
call_ends program given call made budget before e programs calls is =
    ap (λ (c : ObjectCall). effect program c budget before) (sym calls) ∙ ap (λ (p : Program). effect p made budget before) (sym programs) ∙ is
