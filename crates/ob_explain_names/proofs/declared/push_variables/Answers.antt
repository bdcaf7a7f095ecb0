use Rattle.std.proofs.Common.{◌≡◌, ◌++◌, refl, arith}
use Rattle.std.proofs.lemmas.Grind.{common_steps}
use Rattle.ob_explain_names.proofs.Added.{adds_all, loop_added, loop_adds, names_left, variables_left}
use Rattle.ob_explain_names.proofs.declared.push_variables.Goals as goal

pub loop-declaration-init : goal.loop-declaration-init
loop-declaration-init c = adds_all _ _

pub loop-declaration-preserved : goal.loop-declaration-preserved
loop-declaration-preserved c =
    loop_adds variables_left (names_left c.declaration-item.result.names.items) c.deref-declaration-items.result.now c.loop-declaration.declaration-index c.declaration-item.result
    c.loop-declaration.invariant c.loop-declaration-test.true c.declaration-item.is (λ ys. refl) (grind (arith, common_steps))

pub returns : goal.returns
returns c =
    let e : c.loop-declaration.known.items ≡ c.args.known.now.items ++ variables_left c.deref-declaration-items.result.now =
    loop_added variables_left c.deref-declaration-items.result.now c.loop-declaration.declaration-index c.loop-declaration.invariant refl c.loop-declaration-test.false in
    grind (arith, common_steps)
