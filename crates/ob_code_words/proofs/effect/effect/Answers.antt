use Rattle.std.proofs.Common.{sym, subst}
use Rattle.ob_code_words.specs.Running.{HasEffect}
use Rattle.ob_code_words.proofs.Variants.{keeps_block, effect_not_put}
use Rattle.ob_code_words.proofs.effect.effect.Goals as goal

pub returns-in_default : goal.returns-in_default
returns-in_default c =
    let block = c.args.block.now in
    let s = c.args.stack.now in
    let e = effect_not_put s.reserve c.args.fp c.args.instr block s.words c.in_default.not-Put in
    subst (λ m. HasEffect c.stack_effect.result block block s c.stack_effect.new.stack m) (sym e) (keeps_block _ _ _ _ _ c.stack_effect.ensures)
