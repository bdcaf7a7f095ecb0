use Rattle.ob_meaning.proofs.Kept.{statements_spend, call_spends}
use Rattle.ob_meaning.proofs.by_name_laws.no_run_gains_turns.Goals as goal

pub returns-clause-statements : goal.returns-clause-statements
returns-clause-statements c = statements_spend

pub returns-clause-call : goal.returns-clause-call
returns-clause-call c = call_spends
