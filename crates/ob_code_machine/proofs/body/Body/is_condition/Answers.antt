use Rattle.std.proofs.Common.{◌+◌, Some, slice_get, ap, ◌∙◌, sym}
use Rattle.ob_code_words.specs.declared.instr.Instr.TheVariants.{JumpIfFalse}
use Rattle.ob_code_machine.specs.Body.{Run}
use Rattle.ob_code_machine.proofs.Leaps.{made_if}
use Rattle.ob_code_machine.proofs.body.Body.is_condition.Goals as goal

pub returns-in-Some-JumpIfFalse : goal.returns-in-Some-JumpIfFalse
returns-in-Some-JumpIfFalse c = λ block.
    let code = c.args.code.now.instructions in
    let old = c.args.self.now in
    let there = ap (λ (r : Run). slice_get code (r.body.pc + 1)) (sym c.self.view_is) ∙ sym c.in-Some-JumpIfFalse.ensures.value ∙ ap Some c.in-Some-JumpIfFalse.field-0-is in
    made_if c.test.result code old c.test.new.self block c.args.instr (JumpIfFalse c.in-Some-JumpIfFalse.target) c.requires.computed c.requires.works c.requires.here there (c.test.ensures block)
