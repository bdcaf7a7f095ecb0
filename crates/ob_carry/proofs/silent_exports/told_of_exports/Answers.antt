use Rattle.std.proofs.Common.{◌+◌, ◌∷◌, [], ◌++◌, ◌∙◌, ap, subst, sym}
use Rattle.std.specs.List.{AllZip}
use Rattle.std.proofs.lemmas.List.{take_all}
use Rattle.ob_carry.specs.ReadOnlyExports.{SparesIf, exported}
use Rattle.ob_carry.proofs.Exported.{ToldBelow, told_one_more, told_as_before}
use Rattle.ob_carry.proofs.silent_exports.told_of_exports.Goals.{then-procedure+in_ok-push, else-procedure}
use Rattle.ob_carry.proofs.silent_exports.told_of_exports.Goals as goal

pub loop-number-preserved : goal.loop-number-preserved
loop-number-preserved c = λ keep.
    let n = c.loop-number.number in
    let flags = c.args.spared.now in
    let ps = c.args.procedures.now in
    let told = c.loop-number.told.items in
    elim c.if-procedure.branch [
      | then-procedure+in_ok-push w ↦
          subst (ToldBelow flags ps (n + 1)) (sym (ap (λ v. v.items) w.told-is ∙ w.in_ok-push.ensures.items ∙ ap (λ b. told ++ b ∷ []) c.is_told-spares.ensures))
          (told_one_more flags ps n c.index-procedures-number.result told c.loop-number-test.true c.index-procedures-number.is keep w.if-procedure.true (c.loop-number.invariant keep))
      | else-procedure w ↦
          subst (λ v. ToldBelow flags ps (n + 1) v.items) (sym w.told-is)
          (told_as_before flags ps n c.index-procedures-number.result told c.loop-number-test.true c.index-procedures-number.is w.if-procedure.false (c.loop-number.invariant keep))
    ]

pub returns : goal.returns
returns c = λ keep.
    subst (λ ps. AllZip (SparesIf c.args.spared.now) (exported ps) c.loop-number.told.items) (take_all c.loop-number.number c.args.procedures.now c.loop-number-test.false) (c.loop-number.invariant keep)
