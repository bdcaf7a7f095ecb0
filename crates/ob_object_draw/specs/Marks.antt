-- Which call is marked in the picture of a record, by the bytes of a module and of the record.
use Rattle.std.specs.Prelude.{◌≡◌, List, ℕ, Option, Some, None, option_map, string_bytes}
use Rattle.ob_object_draw.specs.declared.record_pictures.DrawRecordFault.{DrawRecordFault}
use Rattle.ob_object_draw.specs.declared.record_pictures.DrawRecordFault.TheVariants as Faults
use Rattle.ob_object_draw.specs.declared.marking.Marked.{Marked}
use Rattle.ob_object_run.specs.declared.order_checker.OrderFault.{OrderFault}
use Rattle.ob_object_run.specs.declared.order_checker.OrderFault.TheVariants as Order
use Rattle.ob_object_calls.specs.Verified.{IsVerified}
use Rattle.ob_object_calls.specs.VerifyFaults.{IsFaultOfRecord}
use Rattle.ob_object_calls.specs.declared.verifying.VerifyFault.{VerifyFault}
use Rattle.ob_object_calls.specs.declared.verifying.VerifyFault.TheVariants as Verify
use Rattle.ob_picture_chart.specs.Charts.{Mark}
use Rattle.wf_history.specs.declared.event.CallId.{CallId}

-- the fault of an order is one of this call
abbrev pub IsOf : OrderFault → CallId → Type 0
IsOf (Order.Missing id) call = call ≡ id
IsOf (Order.Unknown id) call = call ≡ id
IsOf (Order.TooEarly id) call = call ≡ id
IsOf (Order.OtherReply id) call = call ≡ id
IsOf Order.NoMemory call = ⊥

-- the record's order has a fault, which is one of this call
pub record IsOrderFaultOf (module_text record_text : List ℕ) (id : CallId) : Type 0 where
  pub fault : OrderFault
  pub fails : IsFaultOfRecord module_text record_text (Verify.Order fault)
  pub is_of : IsOf fault id

-- of a record whose order is a legal one no call is marked; of any other one that of its fault
abbrev pub IsCallMarked : (module_text record_text : List ℕ) → Option CallId → Type 0
IsCallMarked module_text record_text None = IsVerified module_text record_text
IsCallMarked module_text record_text (Some id) = IsOrderFaultOf module_text record_text id

abbrev pub id_of : Marked → CallId
id_of marked = marked.id

-- a mark, without pointers
abbrev pub marks_of : Option Marked → Option Mark
marks_of None = None
marks_of (Some marked) = Some (record { id = marked.id; words = string_bytes marked.words })

-- the faults before one of the order
abbrev pub of_verify : VerifyFault → DrawRecordFault
of_verify (Verify.Text e) = Faults.Text e
of_verify (Verify.Form line) = Faults.Form line
of_verify (Verify.Open e) = Faults.Open e
of_verify (Verify.Order e) = Faults.NoMemory
of_verify Verify.NoMemory = Faults.NoMemory
