-- Calls made one at a time: one call more, and two ways to make the same calls.
use Rattle.std.proofs.Common.{◌≡◌, ◌∙◌, refl, sym, ap, subst, ℕ, zero, suc, List, [], ◌∷◌, ◌++◌, take, Some}
use Rattle.std.proofs.lemmas.Option.{same_Some}
use Rattle.std.specs.List.{slice_get, Contains}
use Rattle.ob_interface.specs.Call.{ObjectCall}
use Rattle.ob_typing.specs.Program.{Program}
use Rattle.ob_meaning.specs.ByPositionStore.{Activation}
use Rattle.ob_meaning.specs.ByPositionObject.{Effect, effect}
use Rattle.wf_history.specs.declared.event.CallId.{CallId}
use Rattle.wf_history.specs.History.{Event, End, IsHistory}
use Rattle.wf_history.specs.Legal.{OneAtATime, HasBegun, RepliesAgree, none, more}
use Rattle.ob_object_run.specs.OrderFaults.{LeadsTo}
use Rattle.wf_history.proofs.Once.{one_call}
use Rattle.wf_history.proofs.Positions.{take_next}

module _ {Call Reply : Type 0} where
  pub agree_more : (history : List (Event Call Reply)) (ids : List CallId) (replies : List Reply) (id : CallId) (reply : Reply) →
      RepliesAgree history ids replies → ((other : Reply) → Contains history (End id other) → other ≡ reply) →
      RepliesAgree history (ids ++ id ∷ []) (replies ++ reply ∷ [])
  agree_more history [] [] id reply h same = more same none
  agree_more history [] (r ∷ replies) id reply h same = elim h [ ]
  agree_more history (i ∷ ids) [] id reply h same = elim h [ ]
  agree_more history (i ∷ ids) (r ∷ replies) id reply (more first rest) same = more first (agree_more history ids replies id reply rest same)

module _ {State Call Reply : Type 0} where
  -- one call more
  pub made_more : {Made : CallId → Call → Type 0} {Effect : Call → State → State → Reply → Type 0} (ids : List CallId) (replies : List Reply) (before state after : State) (id : CallId) (call : Call) (reply : Reply) →
      OneAtATime Made Effect before ids replies state → Made id call → Effect call state after reply →
      OneAtATime Made Effect before (ids ++ id ∷ []) (replies ++ reply ∷ []) after
  made_more [] [] before state after id call reply (none) made ends = more made ends none
  made_more [] (r ∷ replies) before state after id call reply h made ends = elim h [ ]
  made_more (i ∷ ids) [] before state after id call reply h made ends = elim h [ ]
  made_more (i ∷ ids) (r ∷ replies) before state after id call reply (more {between = between} first step rest) made ends =
      more first step (made_more ids replies between state after id call reply rest made ends)

  pub leads_none : (Effect : Call → State → State → Reply → Type 0) (opening : State) (history : List (Event Call Reply)) (order : List CallId) (state : State) → state ≡ opening → LeadsTo Effect opening history order 0 state
  leads_none Effect opening history order state same = record {
    replies = [];
    made = subst (λ (s : State). OneAtATime (HasBegun history) Effect opening [] [] s) (sym same) none;
    agree = none;
  }

  -- along a list, one place more
  pub leads_more : (Effect : Call → State → State → Reply → Type 0) (opening : State) (history : List (Event Call Reply)) (order : List CallId) (k : ℕ) (state after : State) (id : CallId) (call : Call) (reply : Reply) →
      LeadsTo Effect opening history order k state → slice_get order k ≡ Some id → HasBegun history id call → Effect call state after reply →
      ((other : Reply) → Contains history (End id other) → other ≡ reply) → LeadsTo Effect opening history order (suc k) after
  leads_more Effect opening history order k state after id call reply leads here begun ends same =
      let next = take_next order k id here in
      record {
        replies = leads.replies ++ reply ∷ [];
        made = subst (λ (ids : List CallId). OneAtATime (HasBegun history) Effect opening ids (leads.replies ++ reply ∷ []) after) (sym next)
            (made_more (take k order) leads.replies opening state after id call reply leads.made begun ends);
        agree = subst (λ (ids : List CallId). RepliesAgree history ids (leads.replies ++ reply ∷ [])) (sym next)
            (agree_more history (take k order) leads.replies id reply leads.agree same);
      }

  module _ (Effect Other : Call → State → State → Reply → Type 0) (one : (call : Call) (state after last : State) (reply answer : Reply) → Effect call state after reply → Other call state last answer → (after ≡ last) × (reply ≡ answer)) (history : List (Event Call Reply)) (whole : IsHistory history) where
    -- two ways to make the same calls lead to one state
    pub same_state : (ids : List CallId) (replies answers : List Reply) (before after last : State) →
        OneAtATime (HasBegun history) Effect before ids replies after → OneAtATime (HasBegun history) Other before ids answers last → after ≡ last
    same_state [] [] [] before after last (none) (none) = refl
    same_state [] (r ∷ replies) answers before after last h g = elim h [ ]
    same_state [] [] (a ∷ answers) before after last h g = elim g [ ]
    same_state (id ∷ ids) [] answers before after last h g = elim h [ ]
    same_state (id ∷ ids) (r ∷ replies) [] before after last h g = elim g [ ]
    same_state (id ∷ ids) (r ∷ replies) (a ∷ answers) before after last (more {between = between} {call = call} made ends rest) (more {between = middle} {call = other} also so others) =
        let same = one_call history whole id call other made also in
        let both = one other before between middle r a (subst (λ (c : Call). Effect c before between r) same ends) so in
        same_state ids replies answers between after last rest (subst (λ (s : State). OneAtATime (HasBegun history) Other s ids answers last) (sym both.0) others)

    -- the other way passes a state that was reached, and the call there ends with the history's reply
    pub passes : (ids : List CallId) (k : ℕ) (id : CallId) (call : Call) (replies answers : List Reply) (before state last : State) →
        slice_get ids k ≡ Some id → HasBegun history id call →
        OneAtATime (HasBegun history) Effect before (take k ids) replies state →
        OneAtATime (HasBegun history) Other before ids answers last → RepliesAgree history ids answers →
        (after : State) × (answer : Reply) × Other call state after answer × ((reply : Reply) → Contains history (End id reply) → reply ≡ answer)
    passes [] k id call replies answers before state last here begun h g agree = absurd (cc)
    passes (i ∷ ids) k id call replies [] before state last here begun h g agree = elim g [ ]
    passes (i ∷ ids) zero id call (r ∷ replies) (a ∷ answers) before state last here begun h g agree = elim h [ ]
    passes (i ∷ ids) zero id call [] (a ∷ answers) before state last here begun (none) (more {between = middle} {call = other} also so others) (more first rest) =
        let here_is : i ≡ id = same_Some i id here in
        let same = one_call history whole i other call also (subst (λ (j : CallId). HasBegun history j call) (sym here_is) begun) in (
          middle,
          a,
          subst (λ (c : Call). Other c before middle a) same so,
          subst (λ (j : CallId). (reply : Reply) → Contains history (End j reply) → reply ≡ a) here_is first,
        )
    passes (i ∷ ids) (suc k) id call [] (a ∷ answers) before state last here begun h g agree = elim h [ ]
    passes (i ∷ ids) (suc k) id call (r ∷ replies) (a ∷ answers) before state last here begun (more {between = between} {call = made_call} made ends rest) (more {between = middle} {call = other} also so others) (more first agreed) =
        let same = one_call history whole i made_call other made also in
        let both = one other before between middle r a (subst (λ (c : Call). Effect c before between r) same ends) so in
        passes ids k id call replies answers between state last here begun rest
        (subst (λ (s : State). OneAtATime (HasBegun history) Other s ids answers last) (sym both.0) others) agreed

-- what a call came to, of the program and the call that it was made for
pub call_ends : (program given : Program) (call made : ObjectCall) (budget : ℕ) (before : Activation) (e : Effect) → given ≡ program → made ≡ call →
    effect given made budget before ≡ e → effect program call budget before ≡ e
call_ends program given call made budget before e programs calls is =
    ap (λ (c : ObjectCall). effect program c budget before) (sym calls) ∙ ap (λ (p : Program). effect p made budget before) (sym programs) ∙ is
