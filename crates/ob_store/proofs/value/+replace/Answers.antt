use Rattle.std.proofs.Common.{ap, arith}
use Rattle.ob_store.specs.View.{value_in}
use Rattle.ob_store.proofs.Parts.{replaced_here, replaced_nowhere, back_here, back_nowhere}
use Rattle.ob_store.proofs.value.+replace.Goals.{with_part-then-first-len, with_part-else-first-len}
use Rattle.ob_store.proofs.value.+replace.Goals as goal

pub with_part-returns-after-first-len-clause-written : goal.with_part-returns-after-first-len-clause-written
with_part-returns-after-first-len-clause-written t c =
    let parts = c.in-Parts.parts in
    elim c.if-first-len.branch [
      | with_part-then-first-len w ↦
          replaced_here parts c.if-first-len.parts c.args.whole c.args.first c.args.rest.now c.in-Parts.is
          w.replace-was.new.value w.index_mut.result.now (ap (λ p. p.items) w.parts-is) (omega (arith, parts.ok.0)) w.index_mut.ensures.value
          (value_in c.args.new) w.replace-was.ensures.written
      | with_part-else-first-len w ↦
          replaced_nowhere parts c.if-first-len.parts c.args.whole c.args.first c.args.rest.now c.in-Parts.is (ap (λ p. p.items) w.parts-is)
          (value_in c.args.new) (omega (arith, parts.ok.0))
    ]

pub with_part-returns-after-first-len-clause-back : goal.with_part-returns-after-first-len-clause-back
with_part-returns-after-first-len-clause-back t c =
    let parts = c.in-Parts.parts in
    elim c.if-first-len.branch [
      | with_part-then-first-len w ↦
          rw w.was-is
          (back_here parts c.if-first-len.parts c.args.whole c.args.first c.args.rest.now c.in-Parts.is
          w.replace-was.new.value w.index_mut.result.now (ap (λ p. p.items) w.parts-is) (omega (arith, parts.ok.0)) w.index_mut.ensures.value
          w.replace-was.result w.replace-was.ensures.back)
      | with_part-else-first-len w ↦
          rw w.was-is
          (back_nowhere parts c.if-first-len.parts c.args.whole c.args.first c.args.rest.now c.in-Parts.is (ap (λ p. p.items) w.parts-is))
    ]
