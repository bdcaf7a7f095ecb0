use Rattle.std.proofs.Common.{Err, IfOk, List, Ok, OnOk, Result, map, subst}
use Rattle.std.proofs.lemmas.Result.{IfErr-weaker, err_from_is_err_and}
use Rattle.ob_object_compile.specs.View.{object_in}
use Rattle.ob_desk_floor.specs.Seat.{Seat}
use Rattle.ob_desk_serve.specs.WorkersGathered.{HaveWorked}
use Rattle.ob_desk_serve.proofs.Ends.{answers_are_told, as_many_lists, back_are_served, finish_fault, gather_fault, have_all_served, turns_are_let}
use Rattle.ob_desk_serve.specs.NotAllEnded.{hidden, started}
use Rattle.ob_text_words.specs.ScriptCalls.{script_call_of}
use Rattle.ob_desk_serve.proofs.serving.serve.Goals as goal

-- what holds with two facts that hold of a value
both : {T E : Type 0} (r : Result T E) (P : Type 0) (Q R : T → Type 0) → (P → (x : T) → Q x → R x) → OnOk r P → IfOk r Q → IfOk r R
both (Ok x) P Q R f p q = f p x q
both (Err e) P Q R f p q = tt

pub returns-in_err-back-clause-fault : goal.returns-in_err-back-clause-fault
returns-in_err-back-clause-fault g c =
    let p = err_from_is_err_and c.from_residual-in_err-back.result c.from_residual-in_err-back.ensures.1 in
    let o = object_in c.args.object.now in
    let gate = c.args.gate.now in
    let passes = g.G.Gate.passes gate in
    let refuses = g.G.Gate.refuses gate in
    let hears = g.G.Gate.hears gate in
    let limit = c.args.limit in
    let workers = c.in_ok-workers.workers.items in
    let served = subst (λ (seats : List Seat). HaveWorked passes refuses hears hidden limit seats workers) c.in_ok-desk.ensures.seats c.in_ok-workers.ensures in
    rw (p.1, p.2) (gather_fault passes refuses hears limit o (map script_call_of c.args.scripts.now) workers served c.in_err-back.field-0.0 c.in_err-back.ensures.fault)

pub finish-requires-clause-each : goal.finish-requires-clause-each
finish-requires-clause-each g c =
    let o = object_in c.args.object.now in
    let gate = c.args.gate.now in
    let passes = g.G.Gate.passes gate in
    let refuses = g.G.Gate.refuses gate in
    let hears = g.G.Gate.hears gate in
    let limit = c.args.limit in
    let workers = c.in_ok-workers.workers.items in
    let served = subst (λ (seats : List Seat). HaveWorked passes refuses hears hidden limit seats workers) c.in_ok-desk.ensures.seats c.in_ok-workers.ensures in
    let back = c.in_ok-back.ensures.back in
    as_many_lists passes refuses hears limit o.processes (started workers) c.in_ok-back.back (have_all_served passes refuses hears limit o.processes workers c.in_ok-back.back served back) back.are

pub returns-clause-passed : goal.returns-clause-passed
returns-clause-passed g c =
    let o = object_in c.args.object.now in
    let calls = map script_call_of c.args.scripts.now in
    let gate = c.args.gate.now in
    let passes = g.G.Gate.passes gate in
    let refuses = g.G.Gate.refuses gate in
    let hears = g.G.Gate.hears gate in
    let limit = c.args.limit in
    let workers = c.in_ok-workers.workers.items in
    let served = subst (λ (seats : List Seat). HaveWorked passes refuses hears hidden limit seats workers) c.in_ok-desk.ensures.seats c.in_ok-workers.ensures in
    let b = c.in_ok-back.back in
    let back = c.in_ok-back.ensures.back in
    let so = back_are_served passes refuses hears limit o.processes (started workers) b (have_all_served passes refuses hears limit o.processes workers b served back) back.are in
    both c.finish.result _ _ _ (λ own r agree. turns_are_let passes refuses hears limit o calls r.history r.schedule.items b.seats.items own agree so) c.finish.ensures.seats c.finish.ensures.agree

pub returns-clause-told : goal.returns-clause-told
returns-clause-told g c =
    let o = object_in c.args.object.now in
    let calls = map script_call_of c.args.scripts.now in
    let gate = c.args.gate.now in
    let passes = g.G.Gate.passes gate in
    let refuses = g.G.Gate.refuses gate in
    let hears = g.G.Gate.hears gate in
    let limit = c.args.limit in
    let workers = c.in_ok-workers.workers.items in
    let served = subst (λ (seats : List Seat). HaveWorked passes refuses hears hidden limit seats workers) c.in_ok-desk.ensures.seats c.in_ok-workers.ensures in
    let b = c.in_ok-back.back in
    let back = c.in_ok-back.ensures.back in
    let so = back_are_served passes refuses hears limit o.processes (started workers) b (have_all_served passes refuses hears limit o.processes workers b served back) back.are in
    both c.finish.result _ _ _ (λ own r agree. answers_are_told passes refuses hears limit o calls r.history r.schedule.items b.seats.items own agree so) c.finish.ensures.seats c.finish.ensures.agree

pub returns-clause-fault : goal.returns-clause-fault
returns-clause-fault g c =
    let o = object_in c.args.object.now in
    let gate = c.args.gate.now in
    let passes = g.G.Gate.passes gate in
    let refuses = g.G.Gate.refuses gate in
    let hears = g.G.Gate.hears gate in
    let limit = c.args.limit in
    let workers = c.in_ok-workers.workers.items in
    let served = subst (λ (seats : List Seat). HaveWorked passes refuses hears hidden limit seats workers) c.in_ok-desk.ensures.seats c.in_ok-workers.ensures in
    let b = c.in_ok-back.back in
    let back = c.in_ok-back.ensures.back in
    let all = have_all_served passes refuses hears limit o.processes workers b served back in
    IfErr-weaker c.finish.result _ _
    (λ e h. finish_fault passes refuses hears limit o (map script_call_of c.args.scripts.now) (started workers) b all back.are e h)
    c.finish.ensures.fault
