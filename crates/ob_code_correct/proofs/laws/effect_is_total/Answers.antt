use Rattle.ob_code_correct.proofs.CodeLaw.{effect_total, effect_called, called_effect}
use Rattle.ob_code_correct.proofs.laws.effect_is_total.Goals as goal

pub returns-clause-one : goal.returns-clause-one
returns-clause-one c = effect_total

pub returns-clause-is_called : goal.returns-clause-is_called
returns-clause-is_called c = effect_called

pub returns-clause-is_effect : goal.returns-clause-is_effect
returns-clause-is_effect c = called_effect
