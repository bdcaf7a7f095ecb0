use Rattle.ob_command_laws.proofs.CommandForms.{outcomes_asks}
use Rattle.ob_command_laws.proofs.FormsAsked.{outcomes_form, outcomes_most_said, outcomes_whole_said}
use Rattle.ob_command_laws.proofs.laws.outcomes_is_asked.Goals as goal

pub returns-clause-table : goal.returns-clause-table
returns-clause-table c = outcomes_asks

pub returns-clause-runs : goal.returns-clause-runs
returns-clause-runs c = outcomes_form

pub returns-clause-most : goal.returns-clause-most
returns-clause-most c = outcomes_most_said

pub returns-clause-whole : goal.returns-clause-whole
returns-clause-whole c = outcomes_whole_said
