-- What calls come to by position is what they come to by name.
use Rattle.std.proofs.Common.{◌≡◌, ℕ, List, false, None, Option, Some, subst}
use Rattle.ob_meaning.specs.Resolved.{IsResolved}
use Rattle.ob_meaning.specs.Same.{SameState}
use Rattle.ob_check.specs.CheckedText.{IsNumberedText, TellsTextMemoryApart, is_text_memory}
use Rattle.ob_check.specs.declared.module_text.TextFault.{TextFault}
use Rattle.ob_code_correct.proofs.Named.{names_simulate}
use Rattle.ob_code_correct.specs.Carried.{BegunFit, Simulates}
use Rattle.ob_code_correct.specs.Compiled.{Fits}
use Rattle.ob_code_correct.specs.Named.{CallMeans}
use Rattle.ob_interface.specs.Call.{ObjectCall, Reply}
use Rattle.ob_meaning.specs.ByNameObject.{State}
use Rattle.ob_object_run.specs.LegalOrder.{CallEnds}
use Rattle.ob_object_run.specs.OrderFaults.{AnswersOtherwise, IsArranged, IsListFault}
use Rattle.ob_object_run.specs.declared.order_checker.OrderFault.{OrderFault}
use Rattle.ob_object_run.specs.declared.order_checker.OrderFault.TheVariants as Order
use Rattle.ob_object_calls.specs.MadeCalls.{IsFound, IsMadeThere, MadeCall}
use Rattle.ob_object_calls.specs.Early.{IsOvertakenFound}
use Rattle.ob_object_calls.specs.RecordCalls.{IsCallFound, IsFoundIn, IsMadeIn, IsOvertakenFoundIn, IsCallOvertaken}
use Rattle.ob_object_calls.proofs.Beginnings.{beginning_named, no_trap, one_state, record_opened}
use Rattle.ob_object_calls.proofs.VerifyFitting.{calls_fit}
use Rattle.ob_object_calls.proofs.Openings.{module_resolved}
use Rattle.ob_object_calls.proofs.CallTexts.{fault_in}
use Rattle.ob_object_calls.specs.Beginnings.{BeginsNamed, BeginsPlaced, TrapsPlaced}
use Rattle.ob_object_calls.specs.VerifyFaults.{HasOrderFault, IsFaultOfRecord}
use Rattle.ob_object_calls.specs.declared.verifying.VerifyFault.{VerifyFault}
use Rattle.ob_object_calls.specs.declared.verifying.VerifyFault.TheVariants as Faults
use Rattle.ob_meaning.specs.ByPositionStore.{Activation}
use Rattle.ob_text_reading.specs.RecordLines.{IsRecord, IsRecordFault, Told}
use Rattle.ob_text_reading.specs.declared.record_reading.RecordFault.TheVariants as Record
use Rattle.ob_typing.specs.ModuleText.{IsModule}
use Rattle.ob_typing.specs.Program.{Program}
use Rattle.wf_history.specs.History.{Event}
use Rattle.wf_history.specs.Legal.{HasBegun, OneAtATime, none, more}
use Rattle.wf_history.specs.declared.event.CallId.{CallId}

module _ {From To : Type 0} (fits : ObjectCall → Type 0) (Is : From → To → Type 0) (Does : ObjectCall → From → From → Reply → Type 0) (Means : ObjectCall → To → To → Reply → Type 0) (simulates : Simulates fits Is Does Means) where
  -- calls made there, which lead to a state that this one is
  record MadeOver (Made : CallId → ObjectCall → Type 0) (there : To) (ids : List CallId) (answers : List Reply) (last : From) : Type 0 where
    end : To
    made : OneAtATime Made Means there ids answers end
    is : Is last end

  made_over : (Made : CallId → ObjectCall → Type 0) → ((id : CallId) (call : ObjectCall) → Made id call → fits call) →
      (ids : List CallId) (answers : List Reply) (here last : From) (there : To) → Is here there → OneAtATime Made Does here ids answers last → MadeOver Made there ids answers last
  made_over Made fit ids answers here last there is none = record { end = there; made = none; is = is }
  made_over Made fit ids answers here last there is (more {between = between} {id = id} {ids = rest} {call = call} {answer = answer} {answers = others} made does later) =
      let f = simulates call here between there answer (fit id call made) is does in
      let l = made_over Made fit rest others between last f.next f.is later in
      record { end = l.end; made = more made f.ends l.made; is = l.is }

  made_named : (history : List (Event ObjectCall Reply)) (order : List CallId) → BegunFit fits history → (here : From) (there : To) → Is here there → (id : CallId) (made : MadeCall) →
      IsMadeThere Does here history order id made → IsMadeThere Means there history order id made
  made_named history order fit here there is id made m =
      let o = made_over (HasBegun history) fit made.before m.meant.lead.0 here m.meant.state there is m.meant.lead.1 in
      let f = simulates m.meant.call m.meant.state m.meant.after o.end made.meant (fit id m.meant.call m.meant.begun) o.is m.meant.ends in
      record {
        behind = m.behind;
        here = m.here;
        told = m.told;
        meant = record {
          state = o.end;
          lead = (m.meant.lead.0, o.made);
          call = m.meant.call;
          begun = m.meant.begun;
          after = f.next;
          ends = f.ends;
        };
      }

in_named : (program : Program) → IsResolved program → (text : List ℕ) (id : CallId) (made : MadeCall) →
    IsMadeIn BeginsPlaced CallEnds program text id made → IsMadeIn BeginsNamed CallMeans program text id made
in_named program good text id made m =
    let o = beginning_named program good m.tells.carried (record_opened program text m.tells m.is_record) m.opening m.begins in
    let fit = calls_fit program text m.tells m.is_record in
    record {
      tells = m.tells;
      is_record = m.is_record;
      opening = o.0;
      begins = o.1;
      there = made_named (Fits program) (λ (activation : Activation) (state : State). SameState program state activation) (CallEnds program m.tells.budget)
          (CallMeans program m.tells.budget) (names_simulate program m.tells.budget good) m.tells.events m.tells.order fit m.opening o.0 o.2 id made m.there;
    }

-- what is found in a record by position, by name
pub found_named : (module_text record_text : List ℕ) (program : Program) → IsModule module_text program → ((other : Program) → IsModule module_text other → other ≡ program) →
    (id : CallId) (made : Option MadeCall) → IsFoundIn program record_text id made → IsCallFound module_text record_text id made
found_named module_text record_text program is_module alone id None lacks =
    λ f. lacks (fault_in module_text record_text program is_module alone (Faults.Order (Order.OtherReply id)) f)
found_named module_text record_text program is_module alone id (Some made) m =
    record { program = program; is_module = is_module; is_made = in_named program (module_resolved module_text program is_module) record_text id made m }

-- a text that is no module has no fault as a record's module
pub no_fault_of_text : (module_text record_text : List ℕ) (e : TextFault) (fault : VerifyFault) →
    (IsNumberedText e → (program : Program) → IsModule module_text program → ⊥) → TellsTextMemoryApart e → is_text_memory e ≡ false →
    ¬ IsFaultOfRecord module_text record_text fault
no_fault_of_text module_text record_text e fault no_module apart numbered f = no_module (numbered, apart) f.program f.is_module

-- nor has a text that is no record one of an order
pub no_fault_of_record : (program : Program) (text : List ℕ) (line : ℕ) (e : OrderFault) → IsRecordFault program text (Record.Form line) →
    ¬ HasOrderFault BeginsPlaced TrapsPlaced CallEnds program text e
no_fault_of_record program text line e h f = h.none tt f.tells f.is_record

module _ (program : Program) (text : List ℕ) (id : CallId) where
  -- the order that the record tells has the fault of another reply
  abbrev Fails : Told → Activation → Type 0
  Fails tells opening = IsArranged tells.events tells.order × AnswersOtherwise (CallEnds program tells.budget) opening tells.events tells.order id

  module _ (tells : Told) (is_record : IsRecord program text tells) (alone : (other : Told) → IsRecord program text other → other ≡ tells) where
    same_beginning : (other : Told) → IsRecord program text other → (state : Activation) → BeginsPlaced program other.carried state → BeginsPlaced program tells.carried state
    same_beginning other r state h = subst (λ (t : Told). BeginsPlaced program t.carried state) (alone other r) h

    -- nothing is found where the body traps
    pub none_of_beginning : (k : ℕ) → TrapsPlaced program tells.carried k → IsFoundIn program text id None
    none_of_beginning k traps f = no_trap program tells.carried f.opening k (same_beginning f.tells f.is_record f.opening f.begins) traps

    -- what is found in the order that the record tells
    pub found_here : (opening : Activation) → BeginsPlaced program tells.carried opening → (made : Option MadeCall) →
        IsFound (CallEnds program tells.budget) opening tells.events tells.order id made → IsFoundIn program text id made
    found_here opening begins None lacks =
        λ f. lacks
        (subst (λ (t : Told). Fails t opening) (alone f.tells f.is_record)
        (subst (λ (s : Activation). Fails f.tells s) (one_state program tells.carried f.opening opening (same_beginning f.tells f.is_record f.opening f.begins) begins) f.fails))
    found_here opening begins (Some made) m = record { tells = tells; is_record = is_record; opening = opening; begins = begins; there = m }

  -- the call that another one overtook, in the order that the record tells
  pub overtaken_here : (tells : Told) → IsRecord program text tells → ((other : Told) → IsRecord program text other → other ≡ tells) →
      (other : Option CallId) → IsOvertakenFound tells.events tells.order id other → IsOvertakenFoundIn program text id other
  overtaken_here tells is_record alone None lacks =
      λ f. lacks (subst (λ (t : Told). IsListFault t.events t.order (Order.TooEarly id)) (alone f.tells f.is_record) f.fails)
  overtaken_here tells is_record alone (Some other) h = record { tells = tells; is_record = is_record; there = h }

-- the same of the module's text
pub overtaken_named : (module_text record_text : List ℕ) (program : Program) → IsModule module_text program → ((other : Program) → IsModule module_text other → other ≡ program) →
    (id : CallId) (other : Option CallId) → IsOvertakenFoundIn program record_text id other → IsCallOvertaken module_text record_text id other
overtaken_named module_text record_text program is_module alone id None lacks =
    λ f. lacks (fault_in module_text record_text program is_module alone (Faults.Order (Order.TooEarly id)) f)
overtaken_named module_text record_text program is_module alone id (Some other) h =
    record { program = program; is_module = is_module; is_overtaken = h }
