use Rattle.std.proofs.Common.{◌∙◌}
use Rattle.ob_code_calls.specs.Calls.{asked}
use Rattle.ob_code_calls.proofs.Ended.{same_body}
use Rattle.ob_code_calls.proofs.block_calls.CodeCalls.run_through.Goals as goal

pub returns-clause-body : goal.returns-clause-body
returns-clause-body c =
    c.run_on.ensures.steps
    ∙ same_body c.args.self.now.engine.parts (asked c.args.proc c.args.arguments.now) c.args.block.now c.args.self.now.most c.begin.new.run c.args.self.now.enough c.begin.ensures.begun
