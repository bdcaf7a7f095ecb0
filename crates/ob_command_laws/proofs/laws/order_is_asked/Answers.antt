use Rattle.ob_command_laws.proofs.CommandForms.{order_asks}
use Rattle.ob_command_laws.proofs.FormsAsked.{order_budget_said, order_line, order_most_said, order_parts, order_parts_said, order_place_said, order_record}
use Rattle.ob_command_laws.proofs.laws.order_is_asked.Goals as goal

pub returns-clause-table : goal.returns-clause-table
returns-clause-table c = order_asks

pub returns-clause-line : goal.returns-clause-line
returns-clause-line c = order_line

pub returns-clause-record : goal.returns-clause-record
returns-clause-record c = order_record

pub returns-clause-parts : goal.returns-clause-parts
returns-clause-parts c = order_parts

pub returns-clause-most : goal.returns-clause-most
returns-clause-most c = order_most_said

pub returns-clause-budget : goal.returns-clause-budget
returns-clause-budget c = order_budget_said

pub returns-clause-place : goal.returns-clause-place
returns-clause-place c = order_place_said

pub returns-clause-record_of_parts : goal.returns-clause-record_of_parts
returns-clause-record_of_parts c = order_parts_said
