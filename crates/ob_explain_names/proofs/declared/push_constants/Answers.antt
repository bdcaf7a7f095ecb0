use Rattle.std.proofs.Common.{◌≡◌, ◌∷◌, [], ◌++◌, refl, arith}
use Rattle.std.proofs.lemmas.Grind.{common_steps}
use Rattle.ob_grammar.specs.View.{name_of}
use Rattle.ob_explain_names.specs.declared.known.Sort.TheVariants.{Constant}
use Rattle.ob_explain_names.specs.Known.{known_as}
use Rattle.ob_explain_names.proofs.Added.{adds_all, loop_added, loop_adds, constants_left}
use Rattle.ob_explain_names.proofs.declared.push_constants.Goals as goal

pub loop-constant-init : goal.loop-constant-init
loop-constant-init c = adds_all _ _

pub loop-constant-preserved : goal.loop-constant-preserved
loop-constant-preserved c =
    loop_adds constants_left (known_as Constant (name_of c.constant-item.result.name) ∷ []) c.deref-constant-items.result.now c.loop-constant.constant-index c.constant-item.result
    c.loop-constant.invariant c.loop-constant-test.true c.constant-item.is (λ ys. refl) c.in_ok-push.ensures.items

pub returns : goal.returns
returns c =
    let e : c.loop-constant.known.items ≡ c.args.known.now.items ++ constants_left c.deref-constant-items.result.now =
    loop_added constants_left c.deref-constant-items.result.now c.loop-constant.constant-index c.loop-constant.invariant refl c.loop-constant-test.false in
    grind (arith, common_steps)
