use Rattle.ob_code_machine.proofs.Steps.{steps_stand}
use Rattle.ob_code_machine.proofs.laws.steps_are_instructions.Goals as goal

pub returns : goal.returns
returns c = steps_stand
