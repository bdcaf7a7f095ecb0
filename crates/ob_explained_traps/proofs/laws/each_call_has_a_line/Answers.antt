use Rattle.ob_explained_traps.proofs.Lines.{script_lined}
use Rattle.ob_explained_traps.proofs.laws.each_call_has_a_line.Goals as goal

pub returns : goal.returns
returns c = script_lined
