use Rattle.ob_code_correct.proofs.PartsLaw.{parts_lawful, effect_of_each, parts_are_read}
use Rattle.ob_code_correct.proofs.laws.parts_are_lawful.Goals as goal

pub returns-clause-lawful : goal.returns-clause-lawful
returns-clause-lawful c = parts_lawful

pub returns-clause-each : goal.returns-clause-each
returns-clause-each c = effect_of_each

pub returns-clause-read : goal.returns-clause-read
returns-clause-read c = parts_are_read
