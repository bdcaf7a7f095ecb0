-- The events are the history's.
use Rattle.std.proofs.Common.{◌≡◌, sym, ap, ◌∙◌, subst, ℕ, List, length, map, arith}
use Rattle.std.proofs.lemmas.List.{length-map}
use Rattle.std.specs.Prelude.{IfOk}
use Rattle.ob_interface.specs.Call.{ObjectCall, Reply}
use Rattle.wf_history.specs.History.{Event}
use Rattle.wf_history.specs.View.{event_of}
use Rattle.wf_lookup.specs.Beginnings.{AreOfProcesses}
use Rattle.wf_order.specs.Verdict.{IsVerdict, enough}
use Rattle.wf_order.proofs.Bounds.{enough_more}
use Rattle.wf_order.proofs.find.find_order.Goals as goal

pub verdict_of-requires-clause-rows : goal.verdict_of-requires-clause-rows
verdict_of-requires-clause-rows g c = c.rows-rows.ensures.rows (map event_of c.events-events.result.now) c.in-Some.processes c.in_ok-kept.ensures

pub verdict_of-requires-clause-calls : goal.verdict_of-requires-clause-calls
verdict_of-requires-clause-calls g c =
    let few = c.rows-rows.ensures.few (map event_of c.events-events.result.now) c.in-Some.processes c.in_ok-kept.ensures in
    let size = length-map c.events-events.result.now event_of in
    omega (arith, few, size)

pub returns-clause-verdict : goal.returns-clause-verdict
returns-clause-verdict g c =
    subst (λ (es : List (Event ObjectCall Reply)). IfOk c.verdict_of.result (IsVerdict (g.O.Object.effect c.args.object.now) (g.O.Object.opening c.args.object.now) es c.args.most)) c.events-events.ensures.value c.verdict_of.ensures.verdict

pub returns-clause-decided : goal.returns-clause-decided
returns-clause-decided g c = λ processes few le.
    let value = c.events-events.ensures.value in
    let least = c.in-Some.ensures.least processes (subst (λ (es : List (Event ObjectCall Reply)). AreOfProcesses processes es) (sym value) few) in
    let size : length c.events-events.result.now ≡ length c.args.history.now = sym (length-map c.events-events.result.now event_of) ∙ ap length value in
    let cost = ap (λ (n : ℕ). enough c.in-Some.processes n) size in
    let more = enough_more c.in-Some.processes processes (length c.args.history.now) least in
    c.verdict_of.ensures.decided (omega (arith, le, cost, more))
