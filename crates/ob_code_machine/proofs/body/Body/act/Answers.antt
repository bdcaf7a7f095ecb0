use Rattle.ob_code_machine.proofs.body.Body.act.Goals as goal

pub returns-in-Jump : goal.returns-in-Jump
returns-in-Jump c = rw c.in-Jump.is (c.jump.ensures c.args.block.now)
