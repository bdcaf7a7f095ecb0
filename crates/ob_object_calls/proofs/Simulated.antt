-- What a simulation carries from states of one kind to states of another: legal orders, and faults of orders.
use Rattle.std.proofs.Common.{List, take}
use Rattle.ob_code_correct.specs.Carried.{BegunFit, LegalTo, Simulates}
use Rattle.ob_interface.specs.Call.{ObjectCall, Reply}
use Rattle.ob_object_run.specs.OrderFaults.{AnswersOtherwise}
use Rattle.ob_object_run.specs.declared.order_checker.OrderFault.{OrderFault}
use Rattle.ob_object_run.specs.declared.order_checker.OrderFault.TheVariants as Order
use Rattle.ob_object_calls.specs.VerifyFaults.{HasFaultFrom}
use Rattle.wf_history.specs.Legal.{HasBegun, IsLegal, OneAtATime, none, more}
use Rattle.wf_history.specs.declared.event.CallId.{CallId}
use Rattle.wf_history.specs.History.{Event}

module _ {From To : Type 0} (fits : ObjectCall → Type 0) (Is : From → To → Type 0) (Effect : ObjectCall → From → From → Reply → Type 0) (Meant : ObjectCall → To → To → Reply → Type 0) (simulates : Simulates fits Is Effect Meant) where
  -- calls made there, which lead to a state that this one is
  record MadeThere (Made : CallId → ObjectCall → Type 0) (there : To) (ids : List CallId) (answers : List Reply) (last : From) : Type 0 where
    end : To
    made : OneAtATime Made Meant there ids answers end
    is : Is last end

  made_there : (Made : CallId → ObjectCall → Type 0) → ((id : CallId) (call : ObjectCall) → Made id call → fits call) →
      (ids : List CallId) (answers : List Reply) (here last : From) (there : To) → Is here there → OneAtATime Made Effect here ids answers last → MadeThere Made there ids answers last
  made_there Made fit ids answers here last there is none = record { end = there; made = none; is = is }
  made_there Made fit ids answers here last there is (more {between = between} {id = id} {ids = rest} {call = call} {answer = answer} {answers = others} made does later) =
      let f = simulates call here between there answer (fit id call made) is does in
      let l = made_there Made fit rest others between last f.next f.is later in
      record { end = l.end; made = more made f.ends l.made; is = l.is }

  module _ (history : List (Event ObjectCall Reply)) (order : List CallId) (fit : BegunFit fits history) (here : From) (there : To) (is : Is here there) where
    -- the order is legal there
    pub legal_there : (last : From) → IsLegal Effect here history order last → LegalTo fits Is Effect Meant there history order last
    legal_there last l =
        let m = made_there (HasBegun history) fit order l.replies here last there is l.made in
        record { end = m.end; legal = record { once = l.once; ended = l.ended; in_time = l.in_time; replies = l.replies; made = m.made; agree = l.agree }; is = m.is }

    otherwise_there : (id : CallId) → AnswersOtherwise Effect here history order id → AnswersOtherwise Meant there history order id
    otherwise_there id a =
        let m = made_there (HasBegun history) fit (take a.next.place order) a.next.leads.replies here a.before there is a.next.leads.made in
        let f = simulates a.call a.before a.after m.end a.answer (fit id a.call a.next.begun) m.is a.ends in
        record {
          call = a.call;
          before = m.end;
          next = record {
            place = a.next.place;
            here = a.next.here;
            begun = a.next.begun;
            leads = record { replies = a.next.leads.replies; made = m.made; agree = a.next.leads.agree };
          };
          after = f.next;
          answer = a.answer;
          ends = f.ends;
          reply = a.reply;
          ended = a.ended;
          other = a.other;
        }

    pub fault_there : (e : OrderFault) → HasFaultFrom Effect here history order e → HasFaultFrom Meant there history order e
    fault_there (Order.Unknown id) h = h
    fault_there (Order.Missing id) h = h
    fault_there (Order.TooEarly id) h = h
    fault_there (Order.OtherReply id) h = (h.0, otherwise_there id h.1)
    fault_there Order.NoMemory h = tt
