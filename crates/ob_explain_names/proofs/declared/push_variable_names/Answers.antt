use Rattle.std.proofs.Common.{◌≡◌, ◌∷◌, [], ◌++◌, refl, arith}
use Rattle.std.proofs.lemmas.Grind.{common_steps}
use Rattle.ob_grammar.specs.View.{name_of}
use Rattle.ob_explain_names.specs.declared.known.Sort.TheVariants.{Variable}
use Rattle.ob_explain_names.specs.Known.{known_as}
use Rattle.ob_explain_names.proofs.Added.{adds_all, loop_added, loop_adds, names_left}
use Rattle.ob_explain_names.proofs.declared.push_variable_names.Goals as goal

pub loop-name-init : goal.loop-name-init
loop-name-init c = adds_all _ _

pub loop-name-preserved : goal.loop-name-preserved
loop-name-preserved c =
    loop_adds names_left (known_as Variable (name_of c.name-item.result) ∷ []) c.args.names.now c.loop-name.name-index c.name-item.result
    c.loop-name.invariant c.loop-name-test.true c.name-item.is (λ ys. refl) c.in_ok-push.ensures.items

pub returns : goal.returns
returns c =
    let e : c.loop-name.known.items ≡ c.args.known.now.items ++ names_left c.args.names.now =
    loop_added names_left c.args.names.now c.loop-name.name-index c.loop-name.invariant refl c.loop-name-test.false in
    grind (arith, common_steps)
