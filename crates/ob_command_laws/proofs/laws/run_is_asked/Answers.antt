use Rattle.ob_command_laws.proofs.CommandForms.{run_asks, run_script_asks}
use Rattle.ob_command_laws.proofs.FormsAsked.{chance_form, finish_form, run_form, steps_form, tree_form, tree_from_form, tree_steps_form}
use Rattle.ob_command_laws.proofs.laws.run_is_asked.Goals as goal

pub returns-clause-table : goal.returns-clause-table
returns-clause-table c = run_asks

pub returns-clause-table_of_two : goal.returns-clause-table_of_two
returns-clause-table_of_two c = run_script_asks

pub returns-clause-code : goal.returns-clause-code
returns-clause-code c = run_form

pub returns-clause-tree : goal.returns-clause-tree
returns-clause-tree c = tree_form

pub returns-clause-steps : goal.returns-clause-steps
returns-clause-steps c = steps_form

pub returns-clause-finish : goal.returns-clause-finish
returns-clause-finish c = finish_form

pub returns-clause-chance : goal.returns-clause-chance
returns-clause-chance c = chance_form

pub returns-clause-tree_steps : goal.returns-clause-tree_steps
returns-clause-tree_steps c = tree_steps_form

pub returns-clause-tree_from : goal.returns-clause-tree_from
returns-clause-tree_from c = tree_from_form
