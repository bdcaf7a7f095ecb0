-- What each fault says of the bytes of a module and of a record.
use Rattle.std.specs.Prelude.{◌≡◌, ◌≢◌, ◌⊎◌, ℕ, List, MatchResult, Option, Result}
use Rattle.ob_check.specs.CheckedText.{IsNumberedText, IsTextFault}
use Rattle.ob_check.specs.declared.module_text.TextFault.{TextFault}
use Rattle.ob_check.specs.declared.module_text.TextFault.TheVariants as Text
use Rattle.ob_code_correct.specs.Named.{CallMeans}
use Rattle.ob_interface.specs.Call.{ObjectCall, Reply}
use Rattle.ob_mean.specs.declared.openings.OpenFault.{OpenFault}
use Rattle.ob_mean.specs.declared.openings.OpenFault.TheVariants as Open
use Rattle.ob_object_run.specs.OrderFaults.{AnswersOtherwise, IsArranged, IsListFault}
use Rattle.ob_object_run.specs.declared.order_checker.OrderFault.{OrderFault}
use Rattle.ob_object_run.specs.declared.order_checker.OrderFault.TheVariants as Order
use Rattle.ob_object_calls.specs.Beginnings.{BeginsNamed, TrapsNamed}
use Rattle.ob_object_calls.specs.declared.verifying.VerifyFault.{VerifyFault}
use Rattle.ob_object_calls.specs.declared.verifying.VerifyFault.TheVariants as Faults
use Rattle.ob_meaning.specs.ByPositionStore.{Activation}
use Rattle.ob_scan.specs.declared.fault.ScanFault.TheVariants as Scan
use Rattle.ob_text_reading.specs.RecordLines.{IsRecord, IsRecordFault, Told}
use Rattle.ob_text_reading.specs.declared.record_reading.RecordFault.{RecordFault}
use Rattle.ob_text_reading.specs.declared.record_reading.RecordFault.TheVariants as Record
use Rattle.ob_typing.specs.ModuleText.{IsModule}
use Rattle.ob_typing.specs.Program.{Program}
use Rattle.wf_history.specs.declared.event.CallId.{CallId}
use Rattle.wf_history.specs.History.{Event}

-- what each fault of an order says, by what calls do from a state
abbrev pub HasFaultFrom : {State : Type 0} (Effect : ObjectCall → State → State → Reply → Type 0) (opening : State) (history : List (Event ObjectCall Reply)) (order : List CallId) → OrderFault → Type 0
HasFaultFrom Effect opening history order (Order.Unknown id) = IsListFault history order (Order.Unknown id)
HasFaultFrom Effect opening history order (Order.Missing id) = IsListFault history order (Order.Missing id)
HasFaultFrom Effect opening history order (Order.TooEarly id) = IsListFault history order (Order.TooEarly id)
HasFaultFrom Effect opening history order (Order.OtherReply id) = IsArranged history order × AnswersOtherwise Effect opening history order id
HasFaultFrom Effect opening history order Order.NoMemory = Unit {0}

-- with which state the calls of a record begin, or with which trap they do not, by the values that were carried over, and how calls with
-- a budget lead from state to state
module _ {State : Type 0} (Begins : Program → Option Activation → State → Type 0) (Traps : Program → Option Activation → ℕ → Type 0) (Ends : Program → (budget : ℕ) → ObjectCall → State → State → Reply → Type 0) where
  module _ (program : Program) (text : List ℕ) where
    -- the text is a record of the program's object, whose body traps before its calls begin
    pub record HasOpenTrap (trap : ℕ) : Type 0 where
      pub tells : Told
      pub is_record : IsRecord program text tells
      pub traps : Traps program tells.carried trap

    -- the text is a record of the program's object, there is a state with which its calls begin, and its order has this fault from there
    pub record HasOrderFault (fault : OrderFault) : Type 0 where
      pub tells : Told
      pub is_record : IsRecord program text tells
      pub opening : State
      pub begins : Begins program tells.carried opening
      pub fails : HasFaultFrom (Ends program tells.budget) opening tells.events tells.order fault

    -- what each fault says of the text, as a record of the program's object
    abbrev pub HasRecordFault : VerifyFault → Type 0
    HasRecordFault (Faults.Text e) = ⊥
    HasRecordFault (Faults.Form line) = IsRecordFault program text (Record.Form line)
    HasRecordFault (Faults.Open (Open.Trap trap)) = HasOpenTrap trap
    HasRecordFault (Faults.Open Open.NoMemory) = ⊥
    HasRecordFault (Faults.Order e) = HasOrderFault e
    HasRecordFault Faults.NoMemory = Unit {0}

module _ (module_text record_text : List ℕ) where
  -- one text is a module, and the other one has this fault as a record of its object, by what the module's body and its calls mean
  pub record IsFaultOfRecord (fault : VerifyFault) : Type 0 where
    pub program : Program
    pub is_module : IsModule module_text program
    pub fails : HasRecordFault BeginsNamed TrapsNamed CallMeans program record_text fault

  -- what each fault says of both texts
  abbrev pub IsVerifyFault : VerifyFault → Type 0
  IsVerifyFault (Faults.Text e) = IsTextFault module_text e
  IsVerifyFault (Faults.Form line) = IsFaultOfRecord (Faults.Form line)
  IsVerifyFault (Faults.Open e) = IsFaultOfRecord (Faults.Open e)
  IsVerifyFault (Faults.Order e) = IsFaultOfRecord (Faults.Order e)
  IsVerifyFault Faults.NoMemory = Unit {0}

-- want of memory is told in one place

abbrev pub of_text : TextFault → VerifyFault
of_text Text.NoMemory = Faults.NoMemory
of_text e = Faults.Text e

abbrev pub of_record : RecordFault → VerifyFault
of_record (Record.Form line) = Faults.Form line
of_record Record.NoMemory = Faults.NoMemory

abbrev pub of_open : OpenFault → VerifyFault
of_open Open.NoMemory = Faults.NoMemory
of_open e = Faults.Open e

abbrev pub of_order : OrderFault → VerifyFault
of_order Order.NoMemory = Faults.NoMemory
of_order e = Faults.Order e

-- a fault with a number, so no want of memory
abbrev pub IsNumbered : VerifyFault → Type 0
IsNumbered (Faults.Text e) = IsNumberedText e
IsNumbered (Faults.Form line) = Unit {0}
IsNumbered (Faults.Open e) = e ≢ Open.NoMemory
IsNumbered (Faults.Order e) = e ≢ Order.NoMemory
IsNumbered Faults.NoMemory = ⊥

-- this fault is answered, want of memory aside
abbrev pub TellsFault : {T : Type 0} → Result T VerifyFault → VerifyFault → Type 0
TellsFault result fault = MatchResult result (λ _. ⊥) (λ e. (e ≡ fault) ⊎ (e ≡ Faults.NoMemory))

-- want of memory is told by its own variant alone
abbrev pub TellsMemoryApart : VerifyFault → Type 0
TellsMemoryApart fault = (fault ≡ Faults.NoMemory) ⊎ IsNumbered fault

-- what is said of a module's text over the scanner's bound
abbrev pub too_long : VerifyFault
too_long = Faults.Text (Text.Scan Scan.TooLong)
