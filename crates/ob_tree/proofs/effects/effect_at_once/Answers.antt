use Rattle.std.proofs.Common.{FitsSigned, w32, rules, subst}
use Rattle.std.proofs.lemmas.Int.{to_z-of_z}
use Rattle.ob_code_words.specs.Words.{Gives, ◌>>=◌}
use Rattle.ob_code_words.specs.Effect.{pushed}
use Rattle.ob_code_words.specs.Running.{HasEffect}
use Rattle.ob_tree.proofs.Kept.{keeps_block}
use Rattle.ob_tree.proofs.effects.effect_at_once.Goals as goal

pub returns-in-Literal : goal.returns-in-Literal
returns-in-Literal c =
    let block = c.args.block.now in
    let s = c.args.stack.now in
    let fits : FitsSigned w32 c.in-Literal.value = search rules in
    rw c.in-Literal.is
    (subst (λ v. HasEffect c.push_number.result block block s c.push_number.new.stack (pushed s.reserve s.words v >>= (λ after. Gives (block, after)))) (to_z-of_z w32 c.in-Literal.value fits)
    (keeps_block _ _ _ _ _ c.push_number.ensures))

pub returns-in-Global : goal.returns-in-Global
returns-in-Global c = rw c.in-Global.is (keeps_block _ _ _ _ _ c.push_global.ensures)

pub returns-in-Local : goal.returns-in-Local
returns-in-Local c = rw c.in-Local.is (keeps_block _ _ _ _ _ c.push_local.ensures)

pub returns-in-Get : goal.returns-in-Get
returns-in-Get c = rw c.in-Get.is (keeps_block _ _ _ _ _ c.load.ensures)

pub returns-in-Add : goal.returns-in-Add
returns-in-Add c = rw c.in-Add.is (keeps_block _ _ _ _ _ c.add.ensures)
