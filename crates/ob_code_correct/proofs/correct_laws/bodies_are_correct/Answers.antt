use Rattle.ob_code_correct.proofs.Bodies.{bodies_correct}
use Rattle.ob_code_correct.proofs.correct_laws.bodies_are_correct.Goals as goal

pub returns : goal.returns
returns c = bodies_correct
