-- All that is owed of statements and calls.
use Rattle.ob_code_scheme.specs.Memory.{MemoryHolds}
use Rattle.ob_code_scheme.specs.Running.{EvaluationRuns}
use Rattle.ob_code_scheme.specs.Placing.{CodePlaced}
use Rattle.ob_code_scheme.specs.Executing.{ExecutionRuns}
use Rattle.ob_code_correct.proofs.StatementsOwed.{Owed, owed_of}
use Rattle.ob_code_correct.proofs.Room.{low_has_room, stays_low}
use Rattle.ob_code_correct.proofs.Statements.{each_statement, each_list, each_branches}
use Rattle.ob_code_correct.proofs.Calls.{calls_run}
use Rattle.ob_code_correct.proofs.Outside.{each_export}

pub executions : Owed → ExecutionRuns
executions owed = record {
  low_has_room = low_has_room;
  stays_low = stays_low;
  statement_runs = each_statement owed;
  statements_run = each_list owed;
  branches_run = each_branches owed;
  calls_run = calls_run owed;
  export_runs = each_export owed;
}

-- from the other parts as they are stated
pub execution_runs : MemoryHolds → EvaluationRuns → CodePlaced → ExecutionRuns
execution_runs memory evaluation placed = executions (owed_of memory evaluation placed)
