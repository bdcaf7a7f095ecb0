-- What the program's values of this crate stand for.
use Rattle.std.specs.Prelude.{Option, option_map}
use Rattle.ob_meaning.specs.ByPositionStore.{Activation}
use Rattle.ob_store.specs.View.{state_of}
use Rattle.ob_store.specs.declared.state.State.{State}
use Rattle.ob_text_reading.specs.declared.record_reading.ReadRecord.{ReadRecord}
use Rattle.ob_text_reading.specs.RecordLines.{Told}

-- the values that an object began with, if they were carried over
abbrev pub carried_of : Option State → Option Activation
carried_of = option_map state_of

abbrev pub told_of : ReadRecord → Told
told_of r = record { processes = r.processes; budget = r.budget; carried = carried_of r.carried; events = r.history; order = r.order.items }
