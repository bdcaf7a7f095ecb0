-- What a run showed, without pointers.
use Rattle.std.specs.Prelude.{ℕ, Bool, true, false, List, Option, Some, None, option_map}
use Rattle.ob_interface.specs.Call.{ObjectCall, Reply}
use Rattle.ob_meaning.specs.ByPositionStore.{Activation}
use Rattle.ob_store.specs.View.{state_of}
use Rattle.ob_text_record.specs.declared.record.Record as Rust
use Rattle.wf_history.specs.declared.event.CallId.{CallId}
use Rattle.wf_history.specs.History.{Event}
use Rattle.wf_table.specs.declared.schedule.Turns.{Turns}

-- how many processes there are, the budget of turns that each call had, the module's variables at the beginning where their
-- values were carried over, the events in the order in which they were seen, the order of the applied calls, who stepped, and the
-- module's variables at the end
pub record Record : Type 0 where
  pub processes : ℕ
  pub budget : ℕ
  pub carried : Option Activation
  pub history : List (Event ObjectCall Reply)
  pub order : List CallId
  pub schedule : List Turns
  pub state : Activation

-- the state with which an object began, where it was carried over
abbrev pub carried_from : Bool → Activation → Option Activation
carried_from true state = Some state
carried_from false state = None

abbrev pub record_of : Rust.Record → Record
record_of r = record { processes = r.processes; budget = r.budget; carried = option_map state_of r.carried; history = r.history; order = r.order.items; schedule = r.schedule.items; state = state_of r.state }
