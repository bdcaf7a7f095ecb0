use Rattle.std.proofs.Common.{◌+◌, ◌<◌, length, arith}
use Rattle.wf_object.proofs.Packs.{in_block}
use Rattle.wf_object.proofs.steps.own_toggle.Goals as goal

pub read_part-requires-clause-word : goal.read_part-requires-clause-word
read_part-requires-clause-word c =
    let h = c.requires.shaped in
    let s = c.args.shared.now in
    let within : c.own_block.result < length s.cell.blocks = omega (arith, c.own_block.ensures, h.blocks, h.own_in c.args.p (omega (arith, h.owns, c.requires.process))) in
    omega (arith, h.block c.own_block.result within, in_block c.args.z s.form c.args.q (c.args.z.replies + 1) c.requires.packed c.requires.other (omega arith))
