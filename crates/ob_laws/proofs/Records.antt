-- The record of a run of an object fits the object's module.
use Rattle.std.proofs.Common.{◌≡◌, ℕ, ◌-◌, ◌<◌, ◌≤◌, ◌^◌, Bool, true, false, List, ◌∷◌, ◌++◌, All, Option, Some, get_or, length, sym, ◌∙◌, ap, subst, arith}
use Rattle.std.specs.Prelude.{ℤ, Contains, slice_get, take}
use Rattle.std.proofs.lemmas.List.Elements.{All-contains, Contains-get_or}
use Rattle.ll_cell.specs.Cell.{block_of}
use Rattle.ob_meaning.specs.Same.{SameState}
use Rattle.ob_code_correct.specs.Carried.{LegalTo}
use Rattle.ob_code_correct.specs.CodeMeaning.{EngineParts, code_meaning}
use Rattle.ob_code_correct.specs.Compiled.{CallEnds, Fits, HasReserve, IsFitting}
use Rattle.ob_code_correct.specs.Named.{CallMeans, PositionsCarryLegal}
use Rattle.ob_code_correct.specs.Parts.{IsEffectOf, IsLawfulFor}
use Rattle.ob_code_machine.specs.Body.{Run}
use Rattle.ob_code_scheme.specs.Layout.{encoded}
use Rattle.ob_code_scheme.specs.Types.{IsStateOf}
use Rattle.ob_interface.specs.Call.{ObjectCall, Reply}
use Rattle.ob_interface.specs.Processes.{most_processes}
use Rattle.ob_meaning.specs.ByNameObject as Named
use Rattle.ob_meaning.specs.ByNameObject.{most_turns}
use Rattle.ob_object_compile.specs.Asked.{Asked}
use Rattle.ob_object_compile.specs.Compilation as Compilation
use Rattle.ob_object_compile.specs.Compilation.{ObjectParts, Opens}
use Rattle.ob_object_compile.specs.Sound.{IsSoundObject}
use Rattle.ob_laws.proofs.Along.{all_begun, replied}
use Rattle.ob_laws.proofs.Events.{AreSmall, applied_at, begun_call, counted_in, few_calls, member_of, named_in}
use Rattle.ob_laws.proofs.OneEnd.{one_end}
use Rattle.ob_laws.proofs.Positions.{ByPosition, by_position}
use Rattle.ob_laws.proofs.Replies.{call_fits}
use Rattle.ob_laws.proofs.SameStates.{one_state}
use Rattle.ob_object_perform.specs.Performance.{carried_in}
use Rattle.ob_text_record.specs.Record.{Record, carried_from}
use Rattle.ob_object_run.specs.Laws.{StatesAreObjects}
use Rattle.ob_object_run.specs.Recorded.{IsMeantOrder, IsObjectOf}
use Rattle.ob_meaning.specs.ByPositionStore.{Activation}
use Rattle.ob_laws.specs.Writable.{AreCarried, IsCounted, IsReplyOf, IsWritable, IsWritableEvent}
use Rattle.ob_typing.specs.Program.{Program}
use Rattle.wf_table.proofs.Effects.{begun_fits}
use Rattle.wf_history.proofs.Positions.{place_of}
use Rattle.wf_history.specs.declared.event.CallId.{CallId}
use Rattle.wf_history.specs.History.{Event, Begin, Applied, End, IsHistory, own_calls}
use Rattle.wf_history.specs.Legal.{HasBegun, IsLegal}
use Rattle.wf_table.proofs.Unique.{call_is}
use Rattle.wf_table.specs.Below.{EventBelow, IdBelow}
use Rattle.wf_table.specs.declared.schedule.Turns.{Turns}
use Rattle.wf_table.specs.Marks.{applied_in}
use Rattle.wf_table.specs.Object.{State}
use Rattle.wf_table.specs.Sound.{IsSound}
use Rattle.wf_table.specs.Start.{sizes_of}

module _ (Allowed : Program → Type 0) (states : StatesAreObjects) (carry : PositionsCarryLegal) (a : Asked) (o : ObjectParts) (compiled : Compilation.IsObjectOf Allowed a o) (so : IsSoundObject o) (opens : Opens a.beginning o.program o.opening)
    (s : State Run) (few : o.processes ≤ most_processes) (some : 0 < o.processes)
    (sound : IsSound (code_meaning o.engine) (IsLawfulFor o.engine) (IsFitting o.engine.exports) (HasReserve o.engine) (sizes_of (code_meaning o.engine) o.processes) (encoded o.opening) s)
    (r : Record) (processes : r.processes ≡ o.processes) (budget_is : r.budget ≡ o.engine.budget) (carried : r.carried ≡ carried_in o) (history : r.history ≡ s.records.history) (order : r.order ≡ s.records.order) (schedule : r.schedule ≡ s.records.schedule)
    (events : length r.history < 2 ^ 64) where
  abbrev program : Program
  program = o.program

  abbrev words : List ℤ
  words = take (code_meaning o.engine).variables (block_of s.cell s.cell.root)

  -- ---- calls

  fitting : (id : CallId) (call : ObjectCall) → HasBegun s.records.history id call → IsFitting o.engine.exports call
  fitting = begun_fits (code_meaning o.engine) (IsLawfulFor o.engine) (IsFitting o.engine.exports) (HasReserve o.engine) (sizes_of (code_meaning o.engine) o.processes) (encoded o.opening) s sound

  begun : (id : CallId) (call : ObjectCall) → HasBegun r.history id call → Fits program call
  begun id call has =
      subst (λ (q : EngineParts). IsFitting q.exports call) so.engine_is
      (fitting id call (subst (λ (es : List (Event ObjectCall Reply)). HasBegun es id call) history has))

  whole : IsHistory r.history
  whole = subst (λ (es : List (Event ObjectCall Reply)). IsHistory es) (sym history) sound.in_turn

  -- ---- processes and numbers

  events_below : All (EventBelow r.processes) r.history
  events_below =
      subst (λ (k : ℕ). All (EventBelow k) r.history) (sym processes)
      (subst (λ (es : List (Event ObjectCall Reply)). All (EventBelow o.processes) es) (sym history) sound.below.history)

  order_below : All (IdBelow r.processes) r.order
  order_below =
      subst (λ (k : ℕ). All (IdBelow k) r.order) (sym processes)
      (subst (λ (ids : List CallId). All (IdBelow o.processes) ids) (sym order) sound.below.order)

  turns_counted : All IsCounted r.schedule
  turns_counted =
      subst (λ (ts : List Turns). All IsCounted ts) (sym schedule) (counted_in o.processes s.records.schedule few sound.below.schedule)

  applied_is : applied_in r.history ≡ r.order
  applied_is = ap applied_in history ∙ sound.marks.order ∙ sym order

  begun_small : (id : CallId) (call : ObjectCall) → HasBegun r.history id call → id.number < 2 ^ 64
  begun_small id call has =
      let number = (call_is r.history whole id call call has).1 in
      let few = few_calls id.process r.history in
      omega (arith, number, few, events)

  small_turns : r.budget ≤ most_turns
  small_turns =
      let same = budget_is ∙ ap (λ (q : EngineParts). q.budget) compiled.engine_is in
      let within = compiled.within in
      omega (arith, same, within)

  -- where the object's state was carried over, it is one of the program's
  are_carried : (b : Bool) → AreCarried program (carried_from b o.opening)
  are_carried true = so.begins
  are_carried false = tt

  -- ---- the order, by position

  abbrev object : IsObjectOf program o.engine o.opening (encoded o.opening)
  object = record {
    compiled = record { well = so.well; parts_are = so.engine_is };
    encodes = (states program o.engine.budget o.opening so.well so.begins).encodes;
  }

  module _ (legal_words : IsLegal (IsEffectOf o.engine) (encoded o.opening) s.records.history s.records.order words) (meant : IsMeantOrder program o.engine.budget opens.state r) where
    by : ByPosition program o.engine object.compiled s.records.history fitting o.opening s.records.order words
    by = by_position program o.engine object.compiled s.records.history fitting o.opening s.records.order (encoded o.opening) words object.encodes legal_words

    legal : IsLegal (CallEnds program o.engine.budget) o.opening r.history r.order by.last
    legal =
        subst (λ (es : List (Event ObjectCall Reply)). IsLegal (CallEnds program o.engine.budget) o.opening es r.order by.last) (sym history)
        (subst (λ (ids : List CallId). IsLegal (CallEnds program o.engine.budget) o.opening s.records.history ids by.last) (sym order) by.legal)

    named : LegalTo (Fits program) (λ (activation : Activation) (state : Named.State). SameState program state activation) (CallEnds program o.engine.budget) (CallMeans program o.engine.budget) opens.state r.history r.order by.last
    named = carry program o.engine.budget so.resolved r.history r.order o.opening by.last opens.state begun opens.same legal

    -- the order leads to the record's state
    last_is : by.last ≡ r.state
    last_is =
        let end : named.end ≡ meant.last = one_end program o.engine.budget r.history whole r.order named.legal.replies meant.legal.replies opens.state named.end meant.last named.legal.made meant.legal.made in
        one_state program meant.last by.last r.state (subst (λ (z : Named.State). SameState program z by.last) end named.is) meant.same

    -- ---- events

    reply_of : (before behind : List (Event ObjectCall Reply)) (id : CallId) (reply : Reply) → r.history ≡ before ++ End id reply ∷ behind →
        (call : ObjectCall) → slice_get (own_calls id.process before) (id.number - 1) ≡ Some call → IsReplyOf program call.export reply
    reply_of before behind id reply is call at =
        let ended = member_of before behind (End id reply) r.history is in
        let there = place_of r.order id (legal.ended id reply ended) in
        let found = replied program o.engine.budget so.well r.history begun r.order legal.replies o.opening by.last object.encodes.typed legal.made legal.agree there.0 id reply there.1 ended in
        subst (λ (c : ObjectCall). IsReplyOf program c.export reply) (begun_call before (End id reply ∷ behind) r.history id call found.call whole is at found.begun) found.fits

    event_is : (before behind : List (Event ObjectCall Reply)) (e : Event ObjectCall Reply) → r.history ≡ before ++ e ∷ behind →
        EventBelow r.processes e → AreSmall e → IsWritableEvent program r.processes before e
    event_is before behind (Begin id call) is below small =
        (record { below = below; small = small }, call_fits program call (begun id call (member_of before behind (Begin id call) r.history is)))
    event_is before behind (Applied ids) is below small = named_in r.processes ids below small
    event_is before behind (End id reply) is below small = (record { below = below; small = small }, reply_of before behind id reply is)

    order_small : All (λ (id : CallId). id.number < 2 ^ 64) r.order
    order_small =
        all_begun program o.engine.budget so.well r.history begun (λ (id : CallId). id.number < 2 ^ 64) begun_small r.order legal.replies o.opening by.last legal.made

    all_small : (e : Event ObjectCall Reply) → Contains r.history e → AreSmall e
    all_small (Begin id call) has = begun_small id call has
    all_small (Applied ids) has = λ k d lt.
        let id = get_or ids k d in
        let there = applied_at r.history ids id has.0 has.1 has.2 (Contains-get_or ids k d lt) in
        All-contains (λ (x : CallId). x.number < 2 ^ 64) r.order id order_small (subst (λ (xs : List CallId). Contains xs id) applied_is there)
    all_small (End id reply) has = All-contains (λ (x : CallId). x.number < 2 ^ 64) r.order id order_small (legal.ended id reply has)

    pub writable : IsWritable program r
    writable = record {
      least = subst (λ (k : ℕ). 1 ≤ k) (sym processes) some;
      most = subst (λ (k : ℕ). k ≤ most_processes) (sym processes) few;
      budget = small_turns;
      carried = subst (λ (c : Option Activation). AreCarried program c) (sym carried) (are_carried o.carried);
      whole = whole;
      events = λ before behind e is.
          let has = member_of before behind e r.history is in
          event_is before behind e is (All-contains (EventBelow r.processes) r.history e events_below has) (all_small e has);
      order = named_in r.processes r.order order_below order_small;
      schedule = turns_counted;
      variables = subst (λ (state : Activation). IsStateOf program.variables state) last_is by.is.typed;
    }
