use Rattle.ob_code_correct.proofs.CodeLaw.{decoded_lawful, lawful_decoded}
use Rattle.ob_code_correct.proofs.laws.lawful_is_decoded.Goals as goal

pub returns-clause-read : goal.returns-clause-read
returns-clause-read c = decoded_lawful

pub returns-clause-lawful : goal.returns-clause-lawful
returns-clause-lawful c = lawful_decoded
