use Rattle.ob_command_laws.proofs.CommandForms.{explain_module_asks, explain_schedule_asks, explain_script_asks}
use Rattle.ob_command_laws.proofs.FormsAsked.{explain_always_form, explain_budget_form, explain_calls_form, explain_fault_form, explain_form, explain_history_form, explain_record_form, explain_record_traps_form, explain_run_form, explain_traps_form}
use Rattle.ob_command_laws.proofs.laws.explain_is_asked.Goals as goal

pub returns-clause-table_of_one : goal.returns-clause-table_of_one
returns-clause-table_of_one c = explain_module_asks

pub returns-clause-table_of_two : goal.returns-clause-table_of_two
returns-clause-table_of_two c = explain_script_asks

pub returns-clause-table : goal.returns-clause-table
returns-clause-table c = explain_schedule_asks

pub returns-clause-module : goal.returns-clause-module
returns-clause-module c = explain_form

pub returns-clause-budget : goal.returns-clause-budget
returns-clause-budget c = explain_budget_form

pub returns-clause-fault : goal.returns-clause-fault
returns-clause-fault c = explain_fault_form

pub returns-clause-record : goal.returns-clause-record
returns-clause-record c = explain_record_form

pub returns-clause-record_traps : goal.returns-clause-record_traps
returns-clause-record_traps c = explain_record_traps_form

pub returns-clause-history : goal.returns-clause-history
returns-clause-history c = explain_history_form

pub returns-clause-calls : goal.returns-clause-calls
returns-clause-calls c = explain_calls_form

pub returns-clause-traps : goal.returns-clause-traps
returns-clause-traps c = explain_traps_form

pub returns-clause-always : goal.returns-clause-always
returns-clause-always c = explain_always_form

pub returns-clause-run : goal.returns-clause-run
returns-clause-run c = explain_run_form
