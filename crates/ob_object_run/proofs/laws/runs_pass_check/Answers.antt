use Rattle.std.proofs.Common.{List, subst}
use Rattle.std.specs.Prelude.{take}
use Rattle.std.proofs.Math.Logic.{∥∥₁_map}
use Rattle.ll_cell.specs.Cell.{block_of}
use Rattle.ob_interface.specs.Call.{ObjectCall, Reply}
use Rattle.ob_code_correct.specs.CodeMeaning.{code_meaning}
use Rattle.ob_code_correct.specs.Compiled.{HasReserve, IsFitting}
use Rattle.ob_code_correct.specs.Parts.{IsLawfulFor}
use Rattle.ob_object_run.specs.OrderFaults.{IsOrderFault}
use Rattle.ob_object_run.proofs.Chain.{by_position}
use Rattle.ob_object_run.proofs.Checks.{only_memory}
use Rattle.ob_object_run.proofs.Engines.{engine_in}
use Rattle.wf_table.proofs.Effects.{begun_fits}
use Rattle.wf_history.specs.History.{Event}
use Rattle.wf_history.specs.declared.event.CallId.{CallId}
use Rattle.wf_table.specs.Runs.{performed}
use Rattle.wf_table.specs.Start.{sizes_of}
use Rattle.ob_object_run.proofs.laws.runs_pass_check.Goals as goal

pub returns : goal.returns
returns c = λ program parts opening n block scripts items r h is fault fails.
    let m = code_meaning parts in
    let s = h.state in
    let e = engine_in parts block h.played.runs.opens in
    let acts = performed scripts s.records.schedule in
    let words = take m.variables (block_of s.cell s.cell.root) in
    let sound = c.every_run.ensures e n block acts s h.played.runs in
    let fit = begun_fits m (IsLawfulFor parts) (IsFitting parts.exports) (HasReserve parts) (sizes_of m n) block s sound in
    let legal = ∥∥₁_map (c.legal_order.ensures e n block acts s h.played.runs) (λ l.
    let t = by_position parts block words s.records.history fit s.records.order program opening is l in
    (t.last, t.legal)) in
    let by_history = subst (λ (events : List (Event ObjectCall Reply)). IsOrderFault program parts.budget opening events r.order fault) h.history fails in
    let by_order = subst (λ (order : List CallId). IsOrderFault program parts.budget opening s.records.history order fault) h.order by_history in
    only_memory program parts.budget opening s.records.history s.records.order sound.in_turn fault legal by_order
