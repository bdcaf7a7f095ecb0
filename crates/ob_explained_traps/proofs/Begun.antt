-- The calls of an order as they began: they fit the module, and each of a legal order did begin.
use Rattle.std.proofs.Common.{◌≡◌, ℕ, zero, suc, List, [], ◌∷◌, ◌++◌, All, Some, ap, length, refl, slice_get, subst}
use Rattle.std.proofs.lemmas.List.Elements.{All-cons, All-nil}
use Rattle.std.proofs.lemmas.Option.{same_Some}
use Rattle.std.specs.List.{Contains}
use Rattle.ob_checked.specs.Exports.{signatures}
use Rattle.ob_code_correct.proofs.CodeLaw.{fitting_signed}
use Rattle.ob_code_correct.specs.Carried.{BegunFit}
use Rattle.ob_code_correct.specs.Compiled.{Fits}
use Rattle.ob_explained_traps.specs.RecordTraps.{AreBegun, IsUnbegun}
use Rattle.ob_interface.specs.Call.{ObjectCall, Reply}
use Rattle.ob_interface.specs.Export.{CallFits}
use Rattle.ob_object_calls.specs.Beginnings.{BeginsPlaced}
use Rattle.ob_object_calls.specs.Verified.{IsLegalRecord}
use Rattle.ob_object_calls.specs.VerifyFaults.{of_order}
use Rattle.ob_object_calls.specs.declared.verifying.VerifyFault.TheVariants as Faults
use Rattle.ob_object_run.specs.LegalOrder.{CallEnds}
use Rattle.ob_object_run.specs.declared.order_checker.OrderFault.{OrderFault}
use Rattle.ob_object_run.specs.declared.order_checker.OrderFault.TheVariants as Order
use Rattle.ob_text_reading.specs.RecordLines.{IsRecord, Told}
use Rattle.ob_typing.specs.Program.{Program}
use Rattle.wf_history.proofs.Positions.{place_of}
use Rattle.wf_history.specs.History.{Event}
use Rattle.wf_history.specs.Legal.{HasBegun, OneAtATime, none, more}
use Rattle.wf_history.specs.declared.event.CallId.{CallId}

module _ (history : List (Event ObjectCall Reply)) where
  -- there are as many calls as names
  pub begun_long : (order : List CallId) (calls : List ObjectCall) → AreBegun history order calls → length order ≡ length calls
  begun_long [] [] begun = refl
  begun_long [] (call ∷ calls) begun = absurd begun
  begun_long (id ∷ order) [] begun = absurd begun
  begun_long (id ∷ order) (call ∷ calls) begun = ap suc (begun_long order calls begun.1)

  -- one more
  pub begun_push : (order : List CallId) (calls : List ObjectCall) (id : CallId) (call : ObjectCall) → AreBegun history order calls →
      HasBegun history id call → AreBegun history (order ++ id ∷ []) (calls ++ call ∷ [])
  begun_push [] [] id call begun now = (now, tt)
  begun_push [] (other ∷ calls) id call begun now = absurd begun
  begun_push (other ∷ order) [] id call begun now = absurd begun
  begun_push (other ∷ order) (made ∷ calls) id call begun now = (begun.0, begun_push order calls id call begun.1 now)

-- each of them fits, where each call that began does
pub begun_fit : (program : Program) (history : List (Event ObjectCall Reply)) → BegunFit (Fits program) history →
    (order : List CallId) (calls : List ObjectCall) → AreBegun history order calls → All (λ c. CallFits (signatures program) c) calls
begun_fit program history fit [] [] begun = All-nil (λ c. CallFits (signatures program) c)
begun_fit program history fit [] (call ∷ calls) begun = absurd begun
begun_fit program history fit (id ∷ order) [] begun = absurd begun
begun_fit program history fit (id ∷ order) (call ∷ calls) begun =
    All-cons (λ c. CallFits (signatures program) c) call calls ((fitting_signed program call).signed (fit id call begun.0))
    (begun_fit program history fit order calls begun.1)

-- what is made one at a time was made
made_at : {State Call Answer : Type 0} {Made : CallId → Call → Type 0} {Effect : Call → State → State → Answer → Type 0} {before after : State} {ids : List CallId} {answers : List Answer} →
    OneAtATime Made Effect before ids answers after → (k : ℕ) (id : CallId) → slice_get ids k ≡ Some id → (call : Call) × Made id call
made_at none k id here = absurd (cc)
made_at {Made = Made} (more {id = other} {call = call} made does later) zero id here =
    (call, subst (λ (i : CallId). Made i call) (same_Some other id here) made)
made_at (more made does later) (suc k) id here = made_at later k id here

module _ (program : Program) (text : List ℕ) (tells : Told) (alone : (other : Told) → IsRecord program text other → other ≡ tells) where
  each_began : IsLegalRecord BeginsPlaced CallEnds program text → (id : CallId) → Contains tells.order id → (call : ObjectCall) × HasBegun tells.events id call
  each_began r =
      subst (λ (t : Told). (id : CallId) → Contains t.order id → (call : ObjectCall) × HasBegun t.events id call) (alone r.tells r.is_record)
      (λ id has. let p = place_of r.tells.order id has in made_at r.legal.made p.0 id p.1)

  -- so none of a legal order never did
  pub all_begun : (e : OrderFault) → IsUnbegun tells.events tells.order e → IsLegalRecord BeginsPlaced CallEnds program text → of_order e ≡ Faults.NoMemory
  all_begun (Order.Unknown id) h r = let b = each_began r id h.0 in absurd (h.1 b.0 b.1)
  all_begun (Order.Missing id) h r = absurd h
  all_begun (Order.TooEarly id) h r = absurd h
  all_begun (Order.OtherReply id) h r = absurd h
  all_begun Order.NoMemory h r = refl
