use Rattle.std.proofs.Common.{◌+◌, ◌<◌, length, arith}
use Rattle.wf_object.proofs.Packs.{in_block}
use Rattle.wf_object.proofs.shown_steps.differs.Goals as goal

pub read_part-requires-clause-word : goal.read_part-requires-clause-word
read_part-requires-clause-word c =
    let h = c.requires.shaped in
    let s = c.args.shared.now in
    let within : c.root.result < length s.cell.blocks = omega (arith, c.root.ensures, h.blocks, h.root_in) in
    omega (arith, h.block c.root.result within, in_block c.args.z s.form c.args.q (c.args.z.replies + 1) c.requires.packed c.requires.other (omega arith))
