-- Whole outcomes, without memory: states have their variables at their positions.
use Rattle.std.specs.Prelude.{◌≡◌, ℕ, ◌+◌, ◌<◌, List, [], get_or, length, map, slice_get}
use Rattle.std.specs.Borrow.{Bor}
use Rattle.ob_interface.specs.Call.{Reply}
use Rattle.ob_meaning.specs.ByPositionStore.{Activation}
use Rattle.ob_object_outcomes.specs.declared.wholes.WholeOutcomes.{WholeOutcomes}
use Rattle.ob_object_search.specs.Kept.{kept_in}
use Rattle.ob_object_search.specs.declared.kept_states.KeptState.{KeptState}
use Rattle.ob_store.specs.View.{state_of}
use Rattle.ob_store.specs.declared.state.State.{State}
use Rattle.wf_history.specs.View.{kept_reply}
use Rattle.wf_outcomes.specs.Explored.{Kept, state_at}
use Rattle.wf_whole_outcomes.specs.View.{seen_in, whole_at, wholes_in}
use Rattle.wf_whole_outcomes.specs.Wholes.{WholeTold}
use Rattle.wf_whole_outcomes.specs.declared.wholes.ToldWholes.{ToldWholes}

-- the state that has a number
abbrev pub numbered : List State → (number : ℕ) → Activation
numbered states number = get_or (map state_of states) number []

abbrev pub outcomes_in : WholeOutcomes → List (WholeTold Activation Reply)
outcomes_in wholes = wholes_in (numbered wholes.states.items) wholes.told

-- the outcome of a node, with a state
abbrev pub outcome_at : ToldWholes ℕ → (k : ℕ) → Activation → WholeTold Activation Reply
outcome_at told = whole_at (map kept_reply told.replies.items) told.processes told.front

-- the same of what is told of an exploration of a module's object
abbrev pub told_in : ToldWholes (Bor KeptState) → List (WholeTold Activation Reply)
told_in = wholes_in (seen_in kept_in)

-- the states of the configurations from a place on
abbrev pub AreFrom : List (Kept Activation) → (first : ℕ) → List Activation → Type 0
AreFrom found first states = (k : ℕ) → first + k < length found → slice_get states k ≡ state_at found (first + k)
