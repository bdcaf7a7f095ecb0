-- What a call of an order comes to is found, or the order has no fault of another reply.
use Rattle.std.proofs.Common.{◌≡◌, ℕ, suc, List, [], ◌∷◌, ◌++◌, Some, drop, inl, slice_get, subst, sym, take}
use Rattle.std.specs.List.{Contains}
use Rattle.ob_interface.specs.Call.{ObjectCall, Reply}
use Rattle.ob_object_run.specs.OrderFaults.{AnswersOtherwise, IsArranged}
use Rattle.ob_object_calls.proofs.Items.{split_here}
use Rattle.ob_object_calls.specs.MadeCalls.{HasUnbegun, IsMadeThere, IsMeant}
use Rattle.wf_history.proofs.Positions.{contains_at, place_of, place_take, take_next}
use Rattle.wf_history.specs.History.{Event, End}
use Rattle.wf_history.specs.declared.event.CallId.{CallId}

module _ {State : Type 0} (Does : ObjectCall → State → State → Reply → Type 0) (opening : State) (history : List (Event ObjectCall Reply)) (order : List CallId) (id : CallId) where
  abbrev pub NoFault : Type 0
  NoFault = ¬ (IsArranged history order × AnswersOtherwise Does opening history order id)

  -- the order lacks the call
  pub unlisted : ¬ Contains order id → NoFault
  unlisted lacks f = lacks (contains_at order f.1.next.place id f.1.next.here)

  -- the call has not ended
  pub untold : ((reply : Reply) → ¬ Contains history (End id reply)) → NoFault
  untold none f = none f.1.reply f.1.ended

  -- a call up to a place of the order never began
  pub unbegun : (place : ℕ) → slice_get order place ≡ Some id → HasUnbegun history (take place order ++ id ∷ []) → NoFault
  unbegun place here u f =
      let listed : Contains (take (suc place) order) u.0 = subst (λ (ids : List CallId). Contains ids u.0) (sym (take_next order place id here)) u.1 in
      let p = place_of (take (suc place) order) u.0 listed in
      f.0.known p.0 u.0 (place_take (suc place) order p.0 u.0 p.1).0 (inl u.2)

  -- the call is found, with all that its place says
  pub found : (place : ℕ) → slice_get order place ≡ Some id → (told meant : Reply) → Contains history (End id told) → IsMeant Does opening history (take place order) id meant →
      (before : List CallId) → before ≡ take place order → IsMadeThere Does opening history order id (record { before = before; told = told; meant = meant })
  found place here told meant ended means before is =
      subst (λ (ids : List CallId). IsMadeThere Does opening history order id (record { before = ids; told = told; meant = meant })) (sym is)
      (record { behind = drop (suc place) order; here = split_here order place id here; told = ended; meant = means })
