use Rattle.std.proofs.Common.{◌≡◌, ◌-◌, suc, Some, slice_get, sym, ◌∙◌, ap, arith}
use Rattle.ob_code_words.specs.declared.instr.Instr.TheVariants.{Turn}
use Rattle.ob_code_machine.specs.Body.{Run}
use Rattle.ob_code_machine.proofs.Leaps.{turn_taken}
use Rattle.ob_code_machine.proofs.body.Body.takes_turn.Goals as goal

pub returns-in-Some-Turn : goal.returns-in-Some-Turn
returns-in-Some-Turn c = λ block.
    let code = c.args.code.now.instructions in
    let i = c.self.inside in
    let here : slice_get code c.args.self.now.body.pc ≡ Some Turn =
    ap (λ (r : Run). slice_get code r.body.pc) (sym c.self.view_is) ∙ sym c.in-Some-Turn.ensures.value ∙ ap Some c.in-Some-Turn.field-0-is in
    let some : i.turns ≡ suc (i.turns - 1) = omega (arith, c.if-self-eq0.false) in
    turn_taken code c.args.self.now i.pc i.fp _ _ i.turns i.is_over block c.self.view_is c.requires.works here some
