use Rattle.std.proofs.Common.{List, map, subst, sym}
use Rattle.std.specs.Prelude.{take}
use Rattle.std.proofs.Math.Logic.{∥∥₁_map}
use Rattle.ll_cell.specs.Cell.{block_of}
use Rattle.ob_interface.specs.Call.{ObjectCall, Reply}
use Rattle.ob_meaning.specs.ByNameObject.{replies_to}
use Rattle.ob_code_correct.specs.CodeMeaning.{code_meaning}
use Rattle.ob_code_correct.specs.Compiled.{HasReserve, IsFitting}
use Rattle.ob_code_correct.specs.Parts.{IsLawfulFor}
use Rattle.ob_object_run.proofs.Chain.{by_name, by_position}
use Rattle.ob_object_run.proofs.Engines.{engine_in}
use Rattle.ob_object_run.proofs.Sequential.{has_replies}
use Rattle.ob_object_run.specs.OwnCalls.{HasReplies}
use Rattle.wf_table.proofs.Effects.{begun_fits}
use Rattle.wf_history.specs.History.{Event}
use Rattle.wf_history.specs.declared.event.CallId.{CallId}
use Rattle.wf_table.specs.Runs.{performed}
use Rattle.wf_table.specs.Start.{sizes_of}
use Rattle.wf_theorems.specs.FirstCalls.{AreFirstCalls}
use Rattle.ob_object_run.proofs.laws.one_process_answers.Goals as goal

pub returns : goal.returns
returns c = λ program parts opening block scripts items r callers h is.
    let m = code_meaning parts in
    let s = h.state in
    let e = engine_in parts block h.played.runs.opens in
    let acts = performed scripts s.records.schedule in
    let calls = map (λ c. c.1) scripts in
    let words = take m.variables (block_of s.cell s.cell.root) in
    let sound = c.every_run.ensures e 1 block acts s h.played.runs in
    let fit = begun_fits m (IsLawfulFor parts) (IsFitting parts.exports) (HasReserve parts) (sizes_of m 1) block s sound in
    let legal = ∥∥₁_map (c.legal_order.ensures e 1 block acts s h.played.runs) (λ l.
    let t = by_position parts block words s.records.history fit s.records.order program is.activation is.is l in
    let named = by_name c.orders_are_carried.ensures.by_name program parts opening block is s.records.history s.records.order t.last fit t.legal in
    (named.end, named.legal)) in
    let in_turn = c.one_process.ensures parts block scripts items r callers h in
    let by_history = subst (λ (events : List (Event ObjectCall Reply)). AreFirstCalls 0 calls events r.order) h.history in_turn in
    let by_order = subst (λ (order : List CallId). AreFirstCalls 0 calls s.records.history order) h.order by_history in
    subst (λ (events : List (Event ObjectCall Reply)). HasReplies 0 events (replies_to program parts.budget opening calls)) (sym h.history)
    (has_replies program parts.budget s.records.history sound.in_turn s.records.order calls opening by_order legal)
