use Rattle.ob_command_laws.proofs.CommandForms.{draw_schedule_asks, draw_script_asks}
use Rattle.ob_command_laws.proofs.FormsAsked.{draw_form, draw_history_form, draw_record_form}
use Rattle.ob_command_laws.proofs.laws.draw_is_asked.Goals as goal

pub returns-clause-table : goal.returns-clause-table
returns-clause-table c = draw_schedule_asks

pub returns-clause-table_of_two : goal.returns-clause-table_of_two
returns-clause-table_of_two c = draw_script_asks

pub returns-clause-run : goal.returns-clause-run
returns-clause-run c = draw_form

pub returns-clause-record : goal.returns-clause-record
returns-clause-record c = draw_record_form

pub returns-clause-history : goal.returns-clause-history
returns-clause-history c = draw_history_form
