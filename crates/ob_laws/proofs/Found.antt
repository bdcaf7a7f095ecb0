-- The record of a history with a legal order fits the module of its object.
use Rattle.std.proofs.Common.{◌≡◌, ℕ, ◌-◌, ◌≤◌, List, ◌∷◌, ◌++◌, All, Option, Some, slice_get, subst, sym, arith}
use Rattle.std.proofs.lemmas.List.Elements.{All-contains, All-nil}
use Rattle.std.specs.List.{Contains}
use Rattle.ob_meaning.specs.Resolved.{IsResolved}
use Rattle.ob_meaning.specs.Same.{SameState}
use Rattle.ob_code_correct.specs.Kept.{OpeningsAreStates}
use Rattle.ob_code_correct.proofs.Named.{positions_simulate}
use Rattle.ob_code_correct.specs.Carried.{BegunFit, LegalTo}
use Rattle.ob_code_correct.specs.Compiled.{CallEnds, Fits}
use Rattle.ob_code_correct.specs.Named.{CallMeans}
use Rattle.ob_code_scheme.specs.Types.{IsStateOf}
use Rattle.ob_code_scheme.specs.WellFormed.{IsWellFormed}
use Rattle.ob_interface.specs.Call.{ObjectCall, Reply}
use Rattle.ob_meaning.specs.ByNameObject.{State, most_turns}
use Rattle.ob_laws.proofs.Along.{all_begun, last_typed, replied}
use Rattle.ob_laws.proofs.Events.{begun_call, member_of}
use Rattle.ob_laws.proofs.Replies.{call_fits}
use Rattle.ob_laws.proofs.SameStates.{one_state}
use Rattle.ob_text_record.specs.Record.{Record}
use Rattle.ob_object_search.proofs.Fitting.{calls_fit, history_opened}
use Rattle.ob_laws.proofs.Told.{IsSmall, budget_small, events_small, events_whole, some_processes}
use Rattle.ob_laws.proofs.Typed.{carried_typed}
use Rattle.ob_object_calls.proofs.Typed.{beginning_typed}
use Rattle.ob_laws.specs.FoundRecords.{FoundIsVerified, FoundIsWritable, MayBeAsked}
use Rattle.ob_object_search.specs.SearchRecords.{IsHistoryRecord}
use Rattle.ob_object_calls.proofs.Beginnings.{beginning_placed}
use Rattle.ob_object_calls.proofs.Openings.{module_resolved}
use Rattle.ob_object_calls.proofs.Simulated.{legal_there}
use Rattle.ob_object_calls.specs.Beginnings.{BeginsNamed, BeginsPlaced}
use Rattle.ob_object_calls.specs.Verified.{IsVerified}
use Rattle.ob_meaning.specs.ByPositionStore.{Activation}
use Rattle.ob_text_reading.specs.HistoryLines.{HistoryTold}
use Rattle.ob_laws.specs.Writable.{AreCarried, IsCounted, IsNamed, IsReplyOf, IsWritable, IsWritableEvent, LegalIsVerified}
use Rattle.ob_typing.specs.ModuleText.{IsModule}
use Rattle.ob_typing.specs.Program.{Program}
use Rattle.wf_lookup.proofs.Counted.{needed_within}
use Rattle.wf_lookup.specs.Beginnings.{needed}
use Rattle.wf_history.proofs.Positions.{place_of}
use Rattle.wf_history.specs.declared.event.CallId.{CallId}
use Rattle.wf_history.specs.History.{Event, Begin, Applied, End, IsHistory, own_calls}
use Rattle.wf_history.specs.Legal.{HasBegun}
use Rattle.wf_table.specs.declared.schedule.Turns.{Turns}

abbrev pub ModulesAreWellFormed : Type 0
ModulesAreWellFormed = (text : List ℕ) (program : Program) → IsModule text program → IsWellFormed program

module _ (states : OpeningsAreStates) (program : Program) (good : IsResolved program) (well : IsWellFormed program) (text : List ℕ) (asked : Option ℕ) (may : MayBeAsked asked)
    (r : Record) (h : IsHistoryRecord BeginsNamed CallMeans SameState program text asked r) where
  abbrev tells : HistoryTold
  tells = h.start.tells

  abbrev Events : Type 0
  Events = List (Event ObjectCall Reply)

  -- ---- calls, processes and numbers

  begun : BegunFit (Fits program) r.history
  begun = subst (λ (es : Events). BegunFit (Fits program) es) (sym h.history) (calls_fit program text tells h.start.is_history)

  whole : IsHistory r.history
  whole = subst (λ (es : Events). IsHistory es) (sym h.history) (events_whole program text tells h.start.is_history)

  small : (e : Event ObjectCall Reply) → Contains r.history e → IsSmall e
  small e has =
      All-contains IsSmall tells.events e (events_small program text tells h.start.is_history) (subst (λ (es : Events). Contains es e) h.history has)

  within : (e : Event ObjectCall Reply) → Contains r.history e → needed e ≤ r.processes
  within e has =
      let p = place_of tells.events e (subst (λ (es : Events). Contains es e) h.history has) in
      subst (λ (n : ℕ). needed e ≤ n) (sym h.processes) (needed_within tells.events p.0 e p.1)

  begins_named : (id : CallId) (call : ObjectCall) → HasBegun r.history id call → IsNamed r.processes id
  begins_named id call has = let below = within (Begin id call) has in record { below = omega (arith, below); small = small (Begin id call) has }

  ends_named : (id : CallId) (reply : Reply) → Contains r.history (End id reply) → IsNamed r.processes id
  ends_named id reply has = let below = within (End id reply) has in record { below = omega (arith, below); small = small (End id reply) has }

  -- ---- the order, by position

  record IsPlaced : Type 0 where
    opening : Activation
    begins : BeginsPlaced program tells.carried opening
    same : SameState program h.start.opening opening

  placed : IsPlaced
  placed = let o = beginning_placed program good tells.carried h.start.opening h.start.begins in record { opening = o.0; begins = o.1; same = o.2 }

  opening_typed : IsStateOf program.variables placed.opening
  opening_typed = beginning_typed program well states tells.carried (history_opened program text tells h.start.is_history) placed.opening placed.begins

  carried : LegalTo (Fits program) (λ (state : State) (activation : Activation). SameState program state activation) (CallMeans program r.budget) (CallEnds program r.budget) placed.opening r.history r.order h.last
  carried =
      legal_there (Fits program) (λ (state : State) (activation : Activation). SameState program state activation) (CallMeans program r.budget) (CallEnds program r.budget) (positions_simulate program r.budget good)
      r.history r.order begun h.start.opening placed.opening placed.same h.last h.legal

  -- it leads to the record's state
  state_typed : IsStateOf program.variables r.state
  state_typed =
      subst (λ (a : Activation). IsStateOf program.variables a) (one_state program h.last carried.end r.state carried.is h.leads)
      (last_typed program r.budget well r.history begun r.order carried.legal.replies placed.opening carried.end opening_typed carried.legal.made)

  order_named : All (IsNamed r.processes) r.order
  order_named =
      all_begun program r.budget well r.history begun (IsNamed r.processes) begins_named r.order carried.legal.replies placed.opening carried.end carried.legal.made

  -- ---- events

  reply_of : (before behind : Events) (id : CallId) (reply : Reply) → r.history ≡ before ++ End id reply ∷ behind →
      (call : ObjectCall) → slice_get (own_calls id.process before) (id.number - 1) ≡ Some call → IsReplyOf program call.export reply
  reply_of before behind id reply is call at =
      let ended = member_of before behind (End id reply) r.history is in
      let there = place_of r.order id (carried.legal.ended id reply ended) in
      let found = replied program r.budget well r.history begun r.order carried.legal.replies placed.opening carried.end opening_typed carried.legal.made carried.legal.agree there.0 id reply there.1 ended in
      subst (λ (c : ObjectCall). IsReplyOf program c.export reply) (begun_call before (End id reply ∷ behind) r.history id call found.call whole is at found.begun) found.fits

  event_is : (before behind : Events) (e : Event ObjectCall Reply) → r.history ≡ before ++ e ∷ behind → IsWritableEvent program r.processes before e
  event_is before behind (Begin id call) is =
      let has = member_of before behind (Begin id call) r.history is in (begins_named id call has, call_fits program call (begun id call has))
  event_is before behind (Applied ids) is = absurd (small (Applied ids) (member_of before behind (Applied ids) r.history is))
  event_is before behind (End id reply) is =
      (ends_named id reply (member_of before behind (End id reply) r.history is), reply_of before behind id reply is)

  pub writable : IsWritable program r
  writable = record {
    least = subst (λ (n : ℕ). 1 ≤ n) (sym h.processes) (some_processes tells.events);
    most = h.few;
    budget = subst (λ (b : ℕ). b ≤ most_turns) (sym h.budget) (budget_small program text tells h.start.is_history asked may);
    carried = subst (λ (c : Option Activation). AreCarried program c) (sym h.carried) (carried_typed program tells.carried (history_opened program text tells h.start.is_history));
    whole = whole;
    events = event_is;
    order = order_named;
    schedule = subst (λ (ts : List Turns). All IsCounted ts) (sym h.schedule) (All-nil IsCounted);
    variables = state_typed;
  }

-- ---- from both texts

pub found_writable : ModulesAreWellFormed → OpeningsAreStates → FoundIsWritable
found_writable formed states module_text history_text output asked may found =
    writable states found.program (module_resolved module_text found.program found.is_module) (formed module_text found.program found.is_module) history_text asked may found.r found.is_record

pub found_verified : FoundIsWritable → LegalIsVerified → FoundIsVerified
found_verified writable_of verified module_text history_text output asked may found =
    let h = found.is_record in
    subst (λ (bytes : List ℕ). IsVerified module_text bytes) (sym found.written)
    (verified module_text found.program h.start.opening h.last found.r found.is_module
    (subst (λ (c : Option Activation). BeginsNamed found.program c h.start.opening) (sym h.carried) h.start.begins)
    (writable_of module_text history_text output asked may found) h.legal)
