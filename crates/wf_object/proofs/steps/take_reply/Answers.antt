use Rattle.std.proofs.Common.{◌+◌, ◌<◌, length, ap, arith, subst}
use Rattle.wf_table.specs.declared.process.Label.{Label}
use Rattle.wf_table.specs.Ranges.{index_in}
use Rattle.wf_table.specs.StepTable.{Process}
use Rattle.wf_object.proofs.Packs.{in_block}
use Rattle.wf_object.proofs.steps.take_reply.Goals as goal

pub read_part-requires-clause-word : goal.read_part-requires-clause-word
read_part-requires-clause-word g c =
    let h = c.requires.shaped in
    let s = c.args.shared.now in
    let z = c.args.z in
    let q = c.args.q.now in
    let here = ap (λ (o : Process _). o.registers.i) c.q.view_is in
    let there = ap (λ (o : Process _). o.registers.r) c.q.view_is in
    let index : q.registers.i < z.replies + 1 = subst (λ (l : Label). index_in z l q.registers) c.requires.label c.requires.in_range.index in
    let within : c.q.inside.registers.r < length s.cell.blocks = omega (arith, there, h.blocks, c.requires.in_range.r) in
    omega (arith, h.block c.q.inside.registers.r within, in_block z s.form c.args.p c.q.inside.registers.i c.requires.packed c.requires.process (omega (arith, here, index)))
