use Rattle.std.proofs.Common.{refl, arith}
use Rattle.ob_code_machine.proofs.Goes.{leaps_more}
use Rattle.ob_code_machine.proofs.Leaps.{assigned}
use Rattle.ob_code_machine.proofs.body.Body.leap_from_operator.Goals as goal

pub returns-then-assigns : goal.returns-then-assigns
returns-then-assigns c =
    let code = c.args.code.now.instructions in
    let goes = assigned code c.args.instr c.args.self.now c.assigns.new.self c.args.block.now c.assigns.new.block c.requires.operator c.requires.works c.requires.here (c.if-is_put_ahead.ensures refl) c.if-assigns.ensures in
    leaps_more code 2 c.args.self.now c.args.block.now c.assigns.new.self c.assigns.new.block (omega arith) (omega arith) goes
