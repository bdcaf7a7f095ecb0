-- The outcomes that were found, without memory: states have their variables at their positions.
use Rattle.std.specs.Prelude.{List, map, Option, option_map}
use Rattle.ob_interface.specs.Call.{Reply}
use Rattle.ob_object_outcomes.specs.declared.finding.Bounds.{Bounds}
use Rattle.ob_object_outcomes.specs.declared.finding.LastState.{LastState}
use Rattle.ob_object_outcomes.specs.declared.finding.ModuleOutcomes.{ModuleOutcomes}
use Rattle.ob_meaning.specs.ByPositionStore.{Activation}
use Rattle.ob_store.specs.View.{state_of}
use Rattle.ob_text_words.specs.Words.{Word}
use Rattle.wf_outcomes.specs.OutcomeOrders.{CallTold, End}
use Rattle.wf_outcomes.specs.View.{call_in}

-- the replies that each call may have, and the states in which all calls may end
pub record Outcomes : Type 0 where
  pub calls : List (CallTold Reply)
  pub ends : List (End Activation)

abbrev pub last_in : LastState → End Activation
last_in last = record { state = state_of last.state; order = last.order.items }

abbrev pub outcomes_in : ModuleOutcomes → Outcomes
outcomes_in o = record { calls = map call_in o.calls.items; ends = map last_in o.ends.items }

-- the name of what is to be asked of each state
abbrev pub always_in : Bounds → Option Word
always_in bounds = option_map (λ name. name.now) bounds.always
