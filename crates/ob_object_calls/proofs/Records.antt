-- What is found of a record's text, as what is answered.
use Rattle.std.proofs.Common.{◌≡◌, ◌≢◌, List, ℕ, refl, ap, ◌∙◌, subst, ◌⊎◌, inl, inr}
use Rattle.ob_mean.specs.declared.openings.OpenFault.{OpenFault}
use Rattle.ob_mean.specs.declared.openings.OpenFault.TheVariants as Open
use Rattle.ob_object_run.specs.LegalOrder.{CallEnds, IsLegalOrder}
use Rattle.ob_object_run.specs.OrderFaults.{IsOrderFault}
use Rattle.ob_object_run.specs.declared.order_checker.OrderFault.{OrderFault}
use Rattle.ob_object_run.specs.declared.order_checker.OrderFault.TheVariants as Order
use Rattle.ob_object_calls.proofs.Beginnings.{no_trap, one_state, one_trap}
use Rattle.ob_object_calls.proofs.OneLine.{one_among}
use Rattle.ob_object_calls.specs.Beginnings.{BeginsPlaced, IsBeginningFault, TrapsPlaced}
use Rattle.ob_object_calls.specs.Verified.{IsLegalRecord}
use Rattle.ob_object_calls.specs.VerifyFaults.{HasFaultFrom, HasRecordFault, IsNumbered, TellsMemoryApart, of_open, of_order, of_record}
use Rattle.ob_object_calls.specs.declared.verifying.VerifyFault.{VerifyFault}
use Rattle.ob_object_calls.specs.declared.verifying.VerifyFault.TheVariants as Faults
use Rattle.ob_meaning.specs.ByPositionStore.{Activation}
use Rattle.ob_text_reading.specs.RecordLines.{IsRecord, IsRecordFault, record_lines, Told}
use Rattle.ob_text_reading.specs.declared.record_reading.RecordFault.{RecordFault}
use Rattle.ob_text_reading.specs.declared.record_reading.RecordFault.TheVariants as Record
use Rattle.ob_typing.specs.Program.{Program}

-- a fault is told as want of memory or has a number

pub record_apart : (e : RecordFault) → TellsMemoryApart (of_record e)
record_apart (Record.Form line) = inr tt
record_apart Record.NoMemory = inl refl

pub open_apart : (e : OpenFault) → TellsMemoryApart (of_open e)
open_apart (Open.Trap k) = inr (λ same. cc)
open_apart Open.NoMemory = inl refl

pub order_apart : (e : OrderFault) → TellsMemoryApart (of_order e)
order_apart (Order.Unknown id) = inr (λ same. cc)
order_apart (Order.Missing id) = inr (λ same. cc)
order_apart (Order.TooEarly id) = inr (λ same. cc)
order_apart (Order.OtherReply id) = inr (λ same. cc)
order_apart Order.NoMemory = inl refl

-- the fault of an order that is told
pub told_order : (e : OrderFault) → e ≡ Order.NoMemory → of_order e ≡ Faults.NoMemory
told_order e same = ap of_order same

order_told : (e fault : OrderFault) → fault ≢ Order.NoMemory → (fault ≡ Order.NoMemory) ⊎ ((e ≡ fault) ⊎ (e ≡ Order.NoMemory)) → (of_order e ≡ Faults.Order fault) ⊎ (of_order e ≡ Faults.NoMemory)
order_told e fault numbered h =
    elim h [
      | inl none ↦ absurd (numbered none)
      | inr is ↦ elim is [ inl same ↦ inl (ap of_order same ∙ kept fault numbered) | inr none ↦ inr (told_order e none) ]
    ]
  where
    kept : (f : OrderFault) → f ≢ Order.NoMemory → of_order f ≡ Faults.Order f
    kept (Order.Unknown id) numbered = refl
    kept (Order.Missing id) numbered = refl
    kept (Order.TooEarly id) numbered = refl
    kept (Order.OtherReply id) numbered = refl
    kept Order.NoMemory numbered = absurd (numbered refl)

abbrev Legal : Program → List ℕ → Type 0
Legal program text = IsLegalRecord BeginsPlaced CallEnds program text

abbrev HasFault : Program → List ℕ → VerifyFault → Type 0
HasFault program text fault = HasRecordFault BeginsPlaced TrapsPlaced CallEnds program text fault

module _ (program : Program) (text : List ℕ) where
  -- a text that is no record

  pub record_fails : (e : RecordFault) → IsRecordFault program text e → HasFault program text (of_record e)
  record_fails (Record.Form line) h = h
  record_fails Record.NoMemory h = tt

  pub no_record : (e : RecordFault) → IsRecordFault program text e → Legal program text → of_record e ≡ Faults.NoMemory
  no_record (Record.Form line) h r = absurd (h.none tt r.tells r.is_record)
  no_record Record.NoMemory h r = refl

  pub one_form : (e : RecordFault) → IsRecordFault program text e → (fault : VerifyFault) → IsNumbered fault → HasFault program text fault →
      (of_record e ≡ fault) ⊎ (of_record e ≡ Faults.NoMemory)
  one_form Record.NoMemory h fault numbered f = inr refl
  one_form (Record.Form line) h (Faults.Text e) numbered f = absurd f
  one_form (Record.Form line) h (Faults.Form other) numbered f = inl (ap Faults.Form (one_among program (record_lines text) line other h.stands f.stands))
  one_form (Record.Form line) h (Faults.Open (Open.Trap k)) numbered f = absurd (h.none tt f.tells f.is_record)
  one_form (Record.Form line) h (Faults.Open Open.NoMemory) numbered f = absurd f
  one_form (Record.Form line) h (Faults.Order e) numbered f = absurd (h.none tt f.tells f.is_record)
  one_form (Record.Form line) h Faults.NoMemory numbered f = absurd numbered

  -- one that is a record
  module _ (tells : Told) (is_record : IsRecord program text tells) (alone : (other : Told) → IsRecord program text other → other ≡ tells) where
    no_form : (line : ℕ) → IsRecordFault program text (Record.Form line) → ⊥
    no_form line h = h.none tt tells is_record

    -- the record tells one beginning
    same_beginning : (other : Told) → IsRecord program text other → (state : Activation) → BeginsPlaced program other.carried state → BeginsPlaced program tells.carried state
    same_beginning other r state h = subst (λ (t : Told). BeginsPlaced program t.carried state) (alone other r) h

    same_trapping : (other : Told) → IsRecord program text other → (k : ℕ) → TrapsPlaced program other.carried k → TrapsPlaced program tells.carried k
    same_trapping other r k h = subst (λ (t : Told). TrapsPlaced program t.carried k) (alone other r) h

    -- no state to begin with

    pub open_fails : (e : OpenFault) → IsBeginningFault program tells.carried e → HasFault program text (of_open e)
    open_fails (Open.Trap k) h = record { tells = tells; is_record = is_record; traps = h }
    open_fails Open.NoMemory h = tt

    pub no_opening : (e : OpenFault) → IsBeginningFault program tells.carried e → Legal program text → of_open e ≡ Faults.NoMemory
    no_opening (Open.Trap k) h r = absurd (no_trap program tells.carried r.opening k (same_beginning r.tells r.is_record r.opening r.begins) h)
    no_opening Open.NoMemory h r = refl

    pub one_opening : (e : OpenFault) → IsBeginningFault program tells.carried e → (fault : VerifyFault) → IsNumbered fault → HasFault program text fault →
        (of_open e ≡ fault) ⊎ (of_open e ≡ Faults.NoMemory)
    one_opening Open.NoMemory h fault numbered f = inr refl
    one_opening (Open.Trap k) h (Faults.Text e) numbered f = absurd f
    one_opening (Open.Trap k) h (Faults.Form line) numbered f = absurd (no_form line f)
    one_opening (Open.Trap k) h (Faults.Open (Open.Trap j)) numbered f = inl (ap (λ (n : ℕ). Faults.Open (Open.Trap n)) (one_trap program tells.carried k j h (same_trapping f.tells f.is_record j f.traps)))
    one_opening (Open.Trap k) h (Faults.Open Open.NoMemory) numbered f = absurd f
    one_opening (Open.Trap k) h (Faults.Order e) numbered f = absurd (no_trap program tells.carried f.opening k (same_beginning f.tells f.is_record f.opening f.begins) h)
    one_opening (Open.Trap k) h Faults.NoMemory numbered f = absurd numbered

    -- a state to begin with
    module _ (opening : Activation) (begins : BeginsPlaced program tells.carried opening) where
      pub legal_here : (last : Activation) → IsLegalOrder program tells.budget opening tells.events tells.order last → Legal program text
      legal_here last legal = record { tells = tells; is_record = is_record; opening = opening; begins = begins; last = last; legal = legal }

      order_of : (r : Legal program text) → IsLegalOrder program tells.budget opening tells.events tells.order r.last
      order_of r =
          subst (λ (s : Activation). IsLegalOrder program tells.budget s tells.events tells.order r.last) (one_state program tells.carried r.opening opening (same_beginning r.tells r.is_record r.opening r.begins) begins)
          (subst (λ (t : Told). IsLegalOrder program t.budget r.opening t.events t.order r.last) (alone r.tells r.is_record) r.legal)

      order_fault : (e : OrderFault) → IsOrderFault program tells.budget opening tells.events tells.order e → HasFaultFrom (CallEnds program tells.budget) opening tells.events tells.order e
      order_fault (Order.Unknown id) h = h
      order_fault (Order.Missing id) h = h
      order_fault (Order.TooEarly id) h = h
      order_fault (Order.OtherReply id) h = h
      order_fault Order.NoMemory h = tt

      fault_of_order : (e : OrderFault) → HasFaultFrom (CallEnds program tells.budget) opening tells.events tells.order e → IsOrderFault program tells.budget opening tells.events tells.order e
      fault_of_order (Order.Unknown id) h = h
      fault_of_order (Order.Missing id) h = h
      fault_of_order (Order.TooEarly id) h = h
      fault_of_order (Order.OtherReply id) h = h
      fault_of_order Order.NoMemory h = tt

      fault_at : (e : OrderFault) → IsOrderFault program tells.budget opening tells.events tells.order e → HasFault program text (Faults.Order e)
      fault_at e h = record { tells = tells; is_record = is_record; opening = opening; begins = begins; fails = order_fault e h }

      pub order_fails : (e : OrderFault) → IsOrderFault program tells.budget opening tells.events tells.order e → HasFault program text (of_order e)
      order_fails (Order.Unknown id) h = fault_at (Order.Unknown id) h
      order_fails (Order.Missing id) h = fault_at (Order.Missing id) h
      order_fails (Order.TooEarly id) h = fault_at (Order.TooEarly id) h
      order_fails (Order.OtherReply id) h = fault_at (Order.OtherReply id) h
      order_fails Order.NoMemory h = tt

      pub accepted_here : (e : OrderFault) → ((last : Activation) → IsLegalOrder program tells.budget opening tells.events tells.order last → e ≡ Order.NoMemory) →
          Legal program text → of_order e ≡ Faults.NoMemory
      accepted_here e accepted r = told_order e (accepted r.last (order_of r))

      found : (fault : OrderFault) → HasFault program text (Faults.Order fault) → IsOrderFault program tells.budget opening tells.events tells.order fault
      found fault f =
          fault_of_order fault
          (subst (λ (s : Activation). HasFaultFrom (CallEnds program tells.budget) s tells.events tells.order fault) (one_state program tells.carried f.opening opening (same_beginning f.tells f.is_record f.opening f.begins) begins)
          (subst (λ (t : Told). HasFaultFrom (CallEnds program t.budget) f.opening t.events t.order fault) (alone f.tells f.is_record) f.fails))

      -- the order is told to have this fault, or to be legal
      module _ (e : OrderFault) (exact : (fault : OrderFault) → IsOrderFault program tells.budget opening tells.events tells.order fault → (fault ≡ Order.NoMemory) ⊎ ((e ≡ fault) ⊎ (e ≡ Order.NoMemory))) where
        pub one_order : (fault : VerifyFault) → IsNumbered fault → HasFault program text fault → (of_order e ≡ fault) ⊎ (of_order e ≡ Faults.NoMemory)
        one_order (Faults.Text other) numbered f = absurd f
        one_order (Faults.Form line) numbered f = absurd (no_form line f)
        one_order (Faults.Open (Open.Trap k)) numbered f = absurd (no_trap program tells.carried opening k begins (same_trapping f.tells f.is_record k f.traps))
        one_order (Faults.Open Open.NoMemory) numbered f = absurd f
        one_order (Faults.Order fault) numbered f = order_told e fault numbered (exact fault (found fault f))
        one_order Faults.NoMemory numbered f = absurd numbered

      -- where the order is legal, nothing is at fault
      pub no_fault : ((fault : OrderFault) → IsOrderFault program tells.budget opening tells.events tells.order fault → (fault ≡ Order.NoMemory) ⊎ ⊥) →
          (fault : VerifyFault) → IsNumbered fault → HasFault program text fault → ⊥
      no_fault exact (Faults.Text other) numbered f = f
      no_fault exact (Faults.Form line) numbered f = no_form line f
      no_fault exact (Faults.Open (Open.Trap k)) numbered f = no_trap program tells.carried opening k begins (same_trapping f.tells f.is_record k f.traps)
      no_fault exact (Faults.Open Open.NoMemory) numbered f = f
      no_fault exact (Faults.Order fault) numbered f = elim (exact fault (found fault f)) [ inl none ↦ numbered none | inr never ↦ never ]
      no_fault exact Faults.NoMemory numbered f = numbered
