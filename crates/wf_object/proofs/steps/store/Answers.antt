use Rattle.std.proofs.Common.{◌≡◌, ◌+◌, ◌*◌, ap, sym, subst, arith, ◌∙◌, to_z, of_z, w64, to_z-of_z}
use Rattle.ll_cell.specs.declared.form.Form.{Form}
use Rattle.wf_table.specs.Labels.{at_store}
use Rattle.wf_table.specs.StepTable.{Process}
use Rattle.wf_table.specs.Toggles.{IsBit}
use Rattle.wf_object.proofs.Packs.{stored_bit}
use Rattle.wf_object.proofs.steps.store.Goals as goal

pub write_word-requires-clause-bit : goal.write_word-requires-clause-bit
write_word-requires-clause-bit g c = λ k lt e.
    let z = c.args.z in
    let q = c.args.q.now in
    let here = ap (λ (o : Process _). o.registers.i) c.q.view_is in
    let same : to_z w64 (of_z w64 c.q.inside.registers.acc) ≡ c.q.inside.registers.acc = search (arith, to_z-of_z) in
    let acc = same ∙ ap (λ (o : Process _). o.registers.acc) c.q.view_is in
    let parts = ap (λ (f : Form). f.parts) c.requires.packed in
    let ends : q.registers.i + 1 ≡ z.variables + (k + 1) * (z.replies + 2) = rw (c.requires.packed, here) at e in
    subst IsBit (sym acc) (stored_bit z q c.requires.stores_bit (ap at_store c.requires.label) k (omega (arith, lt, parts)) ends)
