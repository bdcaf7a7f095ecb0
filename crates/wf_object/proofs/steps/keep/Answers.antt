use Rattle.std.proofs.Common.{◌≡◌, ◌+◌, ap, sym, subst, arith, ◌∙◌, to_z, of_z, w64, to_z-of_z}
use Rattle.wf_table.specs.StepTable.{Process}
use Rattle.wf_table.specs.Toggles.{IsBit}
use Rattle.wf_object.proofs.Packs.{kept_bit}
use Rattle.wf_object.proofs.steps.keep.Goals as goal

pub write_part-requires-clause-bit : goal.write_part-requires-clause-bit
write_part-requires-clause-bit g c = λ e.
    let z = c.args.z in
    let q = c.args.q.now in
    let here = ap (λ (o : Process _). o.registers.i) c.q.view_is in
    let same : to_z w64 (of_z w64 c.word_kept-w.result) ≡ c.word_kept-w.result = search (arith, to_z-of_z) in
    let last : q.registers.i + 1 ≡ z.replies + 2 = rw (c.requires.packed, here) at e in
    subst IsBit (sym (same ∙ c.word_kept-w.ensures)) (kept_bit z q (g.E.Engine.meaning c.args.engine.now) c.args.shared.now.cell c.args.p last)
