use Rattle.std.proofs.Common.{◌≡◌, ◌++◌, refl, arith}
use Rattle.std.proofs.lemmas.Grind.{common_steps}
use Rattle.ob_explain_names.proofs.Added.{adds_all, loop_added, loop_adds, names_left, sections_left}
use Rattle.ob_explain_names.proofs.declared.push_parameters.Goals as goal

pub loop-section-init : goal.loop-section-init
loop-section-init c = adds_all _ _

pub loop-section-preserved : goal.loop-section-preserved
loop-section-preserved c =
    loop_adds sections_left (names_left c.section-item.result.names.items) c.deref-section-items.result.now c.loop-section.section-index c.section-item.result
    c.loop-section.invariant c.loop-section-test.true c.section-item.is (λ ys. refl) (grind (arith, common_steps))

pub returns : goal.returns
returns c =
    let e : c.loop-section.known.items ≡ c.args.known.now.items ++ sections_left c.deref-section-items.result.now =
    loop_added sections_left c.deref-section-items.result.now c.loop-section.section-index c.loop-section.invariant refl c.loop-section-test.false in
    grind (arith, common_steps)
