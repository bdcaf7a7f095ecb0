use Rattle.std.proofs.Common.{◌≡◌, ◌<◌, ◌∙◌, [], All, Global, List, Vec, ap, get_or, length, map, subst, sym, ℕ}
use Rattle.std.proofs.lemmas.Result.{err_from_is_err_and}
use Rattle.ob_desk_floor.specs.Close.{AreSeats}
use Rattle.ob_desk_floor.specs.Desk.{Desk}
use Rattle.ob_desk_floor.specs.Agreeing.{Agrees}
use Rattle.ob_desk_floor.specs.Seat.{Seat}
use Rattle.ob_desk_floor.specs.declared.seat.CallAnswer.{CallAnswer}
use Rattle.ob_code_machine.specs.Body.{Run}
use Rattle.ob_code_engine.specs.CodeEngine.{CompiledParts}
use Rattle.ob_code_correct.specs.CodeMeaning.{EngineParts}
use Rattle.ob_interface.specs.Call.{ObjectCall, Reply}
use Rattle.ob_object_compile.specs.View.{object_in}
use Rattle.ob_text_record.specs.Record.{record_of}
use Rattle.ob_desk_serve.proofs.Closed.{IsClosed, TellsClosing, record_of_closed}
use Rattle.ob_desk_serve.specs.NotAllEnded.{lists_in}
use Rattle.ob_desk_serve.specs.ServeFaults.{IsLowestLost}
use Rattle.ob_desk_serve.specs.PromisesOfServe.{EndsFirst, calls_for, desk_of}
use Rattle.ob_text_words.specs.ScriptCalls.{script_call_of}
use Rattle.wf_history.specs.History.{Event}
use Rattle.wf_history.specs.View.{event_of}
use Rattle.wf_object.specs.View.{Object}
use Rattle.wf_table.specs.declared.process.Sizes.{Sizes}
use Rattle.wf_table.specs.declared.schedule.Turns.{Turns}
use Rattle.ob_desk_serve.proofs.serving.finish.Goals as goal

pub record_of_machine-requires-clause-code : goal.record_of_machine-requires-clause-code
record_of_machine-requires-clause-code c = (subst (λ (d : Desk EngineParts). IsClosed d c.in_ok-machine.machine) c.requires.desk c.in_ok-machine.ensures.machine).code_is

pub record_of_machine-requires-clause-opening : goal.record_of_machine-requires-clause-opening
record_of_machine-requires-clause-opening c = (subst (λ (d : Desk EngineParts). IsClosed d c.in_ok-machine.machine) c.requires.desk c.in_ok-machine.ensures.machine).opening

pub record_of_machine-requires-clause-processes : goal.record_of_machine-requires-clause-processes
record_of_machine-requires-clause-processes c =
    ap (λ (z : Sizes). z.processes) (subst (λ (d : Desk EngineParts). IsClosed d c.in_ok-machine.machine) c.requires.desk c.in_ok-machine.ensures.machine).sizes

pub first_lost-requires : goal.first_lost-requires
first_lost-requires c = ap length c.as_slice-2.ensures.value ∙ c.requires.each ∙ sym c.processes.ensures

pub returns-in_err-machine-clause-fault : goal.returns-in_err-machine-clause-fault
returns-in_err-machine-clause-fault c =
    let p = err_from_is_err_and c.from_residual.result c.from_residual.ensures.1 in
    let e = c.in_err-machine.field-0.0 in
    rw (p.1, p.2)
    (subst (λ (seats : List Seat). TellsClosing (desk_of (object_in c.args.object.now) (map script_call_of c.args.scripts.now)) seats e) c.as_slice.ensures.value
    (subst (λ (d : Desk EngineParts). TellsClosing d c.as_slice.result.now e) c.requires.desk c.in_err-machine.ensures.fault))

-- seats that agree with a machine agree with a record of it
agreed : (m : Object CompiledParts Run) (seats : List Seat) (history : List (Event ObjectCall Reply)) (schedule : List Turns) → history ≡ m.state.records.history → schedule ≡ m.state.records.schedule → All (Agrees m.state.records.history m.state.records.schedule) seats → All (Agrees history schedule) seats
agreed m seats history schedule seen stepped all =
    subst (λ (events : List (Event ObjectCall Reply)). All (Agrees events schedule) seats) (sym seen)
    (subst (λ (turns : List Turns). All (Agrees m.state.records.history turns) seats) (sym stepped) all)

pub returns-in-None-clause-agree : goal.returns-in-None-clause-agree
returns-in-None-clause-agree c =
    let shown = c.in_ok-record.record in
    subst (All (Agrees shown.history shown.schedule.items)) c.as_slice.ensures.value
    (agreed c.in_ok-machine.machine c.as_slice.result.now shown.history shown.schedule.items c.in_ok-record.ensures.history c.in_ok-record.ensures.schedule c.in_ok-machine.ensures.agree)

pub returns-in-None-clause-ended : goal.returns-in-None-clause-ended
returns-in-None-clause-ended c = λ p lt.
    subst (λ (h : List (Event ObjectCall Reply)). EndsFirst h p (calls_for p (map script_call_of c.args.scripts.now))) c.events.ensures.value
    (c.in-None.ensures.none p (subst (λ (n : ℕ). p < n) (sym c.processes.ensures) lt)).ended

pub returns-in-Some-clause-fault : goal.returns-in-Some-clause-fault
returns-in-Some-clause-fault c =
    let o = object_in c.args.object.now in
    let n = o.processes in
    let calls = map script_call_of c.args.scripts.now in
    let items : Vec CallAnswer Global → List CallAnswer = λ list. list.items in
    let lists = lists_in c.args.back.now in
    let p = c.in-Some.process in
    let shown = record_of c.in_ok-record.record in
    let known = c.in_ok-record.ensures in
    let m = c.in_ok-machine.machine in
    let seats = c.as_slice.result.now in
    let closed = subst (λ (d : Desk EngineParts). IsClosed d m) c.requires.desk c.in_ok-machine.ensures.machine in
    let told = c.as_slice-2.result.now in
    let first : IsLowestLost n (map event_of c.events.result.now) calls (λ k. get_or (map items told) k []) p = subst (λ (k : ℕ). IsLowestLost k (map event_of c.events.result.now) calls (λ k. get_or (map items told) k []) p) c.processes.ensures c.in-Some.ensures.some in
    let own : IsLowestLost n (map event_of c.events.result.now) calls (λ k. get_or lists k []) p = subst (λ (ls : List (Vec CallAnswer Global)). IsLowestLost n (map event_of c.events.result.now) calls (λ k. get_or (map items ls) k []) p) c.as_slice-2.ensures.value first in
    record {
      shown = shown;
      is_record = record_of_closed o calls m closed shown
          (record { processes = known.processes; budget = known.budget; carried = known.carried; history = known.history; order = known.order; schedule = known.schedule; legal = known.legal; meant = known.meant });
      own = subst (AreSeats (desk_of o calls)) c.as_slice.ensures.value (subst (λ (d : Desk EngineParts). AreSeats d seats) c.requires.desk c.in_ok-machine.ensures.seats);
      agree = subst (All (Agrees shown.history shown.schedule)) c.as_slice.ensures.value (agreed m seats shown.history shown.schedule known.history known.schedule c.in_ok-machine.ensures.agree);
      lowest = subst (λ (h : List (Event ObjectCall Reply)). IsLowestLost n h calls (λ k. get_or lists k []) p) c.events.ensures.value own;
    }
