use Rattle.ob_checked.specs.View.{program_of}
use Rattle.ob_tree.proofs.body_run.TreeRun.act.Goals as goal

pub returns-in-Instruction : goal.returns-in-Instruction
returns-in-Instruction c = rw c.in-Instruction.is (c.compute.ensures (program_of c.args.program.now))

pub returns-in-Alternative : goal.returns-in-Alternative
returns-in-Alternative c = rw c.in-Alternative.is (c.choose.ensures (program_of c.args.program.now) c.args.block.now)

pub returns-in-Over : goal.returns-in-Over
returns-in-Over c = rw c.in-Over.is (c.pass_over.ensures (program_of c.args.program.now) c.args.block.now)

pub returns-in-Looping : goal.returns-in-Looping
returns-in-Looping c = rw c.in-Looping.is (c.go_round.ensures (program_of c.args.program.now) c.args.block.now)

pub returns-in-Again : goal.returns-in-Again
returns-in-Again c = rw c.in-Again.is (c.go_back.ensures (program_of c.args.program.now) c.args.block.now)

pub returns-in-Until : goal.returns-in-Until
returns-in-Until c = rw c.in-Until.is (c.repeat.ensures (program_of c.args.program.now) c.args.block.now)

pub returns-in-Taking : goal.returns-in-Taking
returns-in-Taking c = rw c.in-Taking.is (c.take_turn.ensures (program_of c.args.program.now) c.args.block.now)

pub returns-in-Leaving : goal.returns-in-Leaving
returns-in-Leaving c = rw c.in-Leaving.is (c.leave.ensures (program_of c.args.program.now) c.args.block.now)
