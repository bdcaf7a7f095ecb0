-- The order that is found, put into a record, is verified.
use Rattle.std.proofs.Common.{ℕ, List, Option, subst, sym}
use Rattle.ob_code_correct.specs.Named.{CallMeans}
use Rattle.ob_interface.specs.Call.{ObjectCall, Reply}
use Rattle.ob_object_search.specs.Agreeing.{FoundOrdersAreVerified}
use Rattle.ob_object_search.specs.Searched.{budget_of}
use Rattle.ob_object_calls.specs.Beginnings.{BeginsNamed}
use Rattle.ob_meaning.specs.ByPositionStore.{Activation}
use Rattle.wf_history.specs.declared.event.CallId.{CallId}
use Rattle.wf_history.specs.History.{Event}
use Rattle.wf_history.specs.Legal.{IsLegal}

pub verified : FoundOrdersAreVerified
verified module_text history_text record_text asked order l records =
    let r = records l.program l.is_module in
    let start = l.has_order.start in
    let same = r.same start.tells start.is_history in
    record {
      program = l.program;
      is_module = l.is_module;
      is_legal = record {
        tells = r.told;
        is_record = r.is_record;
        opening = start.opening;
        begins = subst (λ (c : Option Activation). BeginsNamed l.program c start.opening) (sym same.carried) start.begins;
        last = l.has_order.last;
        legal = subst (λ (b : ℕ). IsLegal (CallMeans l.program b) start.opening r.told.events r.told.order l.has_order.last) (sym same.budget)
            (subst (λ (events : List (Event ObjectCall Reply)). IsLegal (CallMeans l.program (budget_of asked start.tells.budget)) start.opening events r.told.order l.has_order.last) (sym same.events)
            (subst (λ (ids : List CallId). IsLegal (CallMeans l.program (budget_of asked start.tells.budget)) start.opening start.tells.events ids l.has_order.last) (sym same.order) l.has_order.legal));
      };
    }
