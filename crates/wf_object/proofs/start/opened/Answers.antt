use Rattle.std.proofs.Common.{◌≡◌, ◌+◌, ◌<◌, ◌≤◌, length, ap, sym, subst, arith}
use Rattle.ll_cell.specs.Cell.{Cell, fresh, own_of, block_of}
use Rattle.ll_cell.specs.Memory.{Memory}
use Rattle.wf_table.specs.StepTable.{block_words}
use Rattle.wf_object.proofs.Opening.{own_within, own_long}
use Rattle.wf_object.proofs.start.opened.Goals as goal

pub fill-requires-clause-own : goal.fill-requires-clause-own
fill-requires-clause-own c =
    let z = c.args.z in
    let cell : c.in_ok-shared.shared.cell ≡ fresh z.processes (block_words z) (z.arguments + 1) = ap (λ (m : Memory). m.cell) c.in_ok-shared.ensures.cell in
    subst (λ (k : Cell). own_of k 0 < length k.blocks) (sym cell) (own_within z.processes (block_words z) (z.arguments + 1) c.requires.sized.some)

pub fill-requires-clause-room : goal.fill-requires-clause-room
fill-requires-clause-room c =
    let z = c.args.z in
    let cell : c.in_ok-shared.shared.cell ≡ fresh z.processes (block_words z) (z.arguments + 1) = ap (λ (m : Memory). m.cell) c.in_ok-shared.ensures.cell in
    subst (λ (k : Cell). length c.args.block.now ≤ length (block_of k (own_of k 0))) (sym cell)
    (omega (arith, own_long z.processes (block_words z) (z.arguments + 1) c.requires.sized.some, c.requires.words))
