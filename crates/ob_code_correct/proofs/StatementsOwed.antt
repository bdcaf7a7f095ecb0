-- What statements and calls take of the other parts of the proof.
use Rattle.ob_code_scheme.specs.Memory.{Lengths, PositionLengths, Looks, Changes, Grows, Shrinks, BegunFits, ResultsFit, StatesFit, FirstIsState, PutAt, MemoryHolds}
use Rattle.ob_code_scheme.specs.Running.{ValueRuns, PlaceRuns, ActualsRun, EvaluationRuns}
use Rattle.ob_code_scheme.specs.Placing.{CodeLengths, HasFront, HasBack, HasWithin, LeadsGlues, RunsGlues, CodePlaced}

pub record Owed : Type 0 where
  pub lengths : Lengths
  pub position_lengths : PositionLengths
  pub looks : Looks
  pub changes : Changes
  pub grows : Grows
  pub shrinks : Shrinks
  pub begun_fits : BegunFits
  pub results_fit : ResultsFit
  pub states_fit : StatesFit
  pub first_is_state : FirstIsState
  pub put_at : PutAt
  pub value_runs : ValueRuns
  pub place_runs : PlaceRuns
  pub actuals_run : ActualsRun
  pub code_lengths : CodeLengths
  pub has_front : HasFront
  pub has_back : HasBack
  pub has_within : HasWithin
  pub leads : LeadsGlues
  pub runs : RunsGlues

-- from all that the other parts owe
pub owed_of : MemoryHolds → EvaluationRuns → CodePlaced → Owed
owed_of memory evaluation placed = record {
  lengths = memory.lengths;
  position_lengths = memory.position_lengths;
  looks = memory.looks;
  changes = memory.changes;
  grows = memory.grows;
  shrinks = memory.shrinks;
  begun_fits = memory.begun_fits;
  results_fit = memory.results_fit;
  states_fit = memory.states_fit;
  first_is_state = memory.first_is_state;
  put_at = memory.put_at;
  value_runs = evaluation.value_runs;
  place_runs = evaluation.place_runs;
  actuals_run = evaluation.actuals_run;
  code_lengths = placed.lengths;
  has_front = placed.has_front;
  has_back = placed.has_back;
  has_within = placed.has_within;
  leads = placed.leads;
  runs = placed.runs;
}
