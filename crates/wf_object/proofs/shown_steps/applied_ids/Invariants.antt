use Rattle.std.proofs.Common.{◌≡◌, map}
use Rattle.std.specs.Prelude.{slice_index, not}
use Rattle.std.specs.List.{range_with_len, filter}
use Rattle.std.proofs.Common.{int_eq}
use Rattle.ll_cell.specs.Cell.{block_of}
use Rattle.wf_table.specs.StepTable.{own_block, toggle_in}
use Rattle.wf_table.specs.Object.{begun_of}
use Rattle.wf_object.proofs.shown_steps.applied_ids.Given as goal

abbrev pub invariant-loop-q : goal.invariant-loop-q
invariant-loop-q g l =
    l.ids.items ≡ map (λ q. record { process = q; number = slice_index (begun_of l.processes) q })
    (filter (λ q. not (int_eq (toggle_in l.z (block_of l.shared.cell l.shared.cell.root) q) (toggle_in l.z (own_block l.shared.cell l.p) q))) (range_with_len 0 l.q))
