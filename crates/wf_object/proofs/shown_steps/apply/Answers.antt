use Rattle.std.proofs.Common.{◌≡◌, ◌++◌, ◌∷◌, [], Bool, true, List, sym, subst, rules}
use Rattle.std.specs.Prelude.{Some, None, if◌then◌else◌}
use Rattle.ll_cell.specs.Cell.{is_linked, block_of}
use Rattle.wf_history.specs.declared.event.CallId.{CallId}
use Rattle.wf_history.specs.History.{IsHistory, Applied}
use Rattle.wf_table.specs.Object.{history_after, applied_ids, begun_of}
use Rattle.wf_table.specs.StepTable.{own_block}
use Rattle.wf_object.proofs.shown_steps.apply.Goals as goal

pub note_commit-requires-clause-in_turn : goal.note_commit-requires-clause-in_turn
note_commit-requires-clause-in_turn g c =
    let cell = c.args.shared.now.cell in
    let ids = applied_ids c.args.z (block_of cell cell.root) (own_block cell c.args.p) (begun_of c.args.processes.now) in
    let linked : is_linked cell c.args.p ≡ true = search rules in
    let here = subst (λ (b : Bool). IsHistory (history_after c.args.records.now.history (if b then Some (Applied ids) else None))) linked c.requires.in_turn in
    subst (λ (k : List CallId). IsHistory (c.args.records.now.history ++ Applied k ∷ [])) (sym c.in_ok-ids.ensures) here
