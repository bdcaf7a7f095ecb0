-- The text of a record: its lines, each with a line feed behind it.
use Rattle.std.specs.Prelude.{ℕ, List, [], ◌++◌, codes, decimal, slice_get, Option, Some, None}
use Rattle.std.specs.List.{flat_map}
use Rattle.ob_interface.specs.declared.scalar.Scalar.{Scalar}
use Rattle.ob_interface.specs.Call.{ObjectCall, Reply}
use Rattle.ob_interface.specs.Export.{Signature}
use Rattle.ob_meaning.specs.ByPositionStore.{Activation}
use Rattle.ob_typing.specs.Program.{Program}
use Rattle.ob_checked.specs.Exports.{signatures}
use Rattle.ob_text_words.specs.ReplyLines.{reply_line}
use Rattle.ob_text_words.specs.ScalarTexts.{scalar_text}
use Rattle.ob_text_record.specs.Record.{Record}
use Rattle.ob_text_record.specs.Variables.{opening_text, state_text}
use Rattle.wf_history.specs.declared.event.CallId.{CallId}
use Rattle.wf_history.specs.History.{Event, Begin, Applied, End}
use Rattle.wf_table.specs.declared.schedule.Turns.{Turns}

-- the first line: version 3 is of an object that began with values carried over
abbrev pub title_text : Option Activation → List ℕ
title_text None = codes "obl0 record 2\n"
title_text (Some opening) = codes "obl0 record 3\n"

-- n N, b BUDGET
abbrev pub head_text : (processes budget : ℕ) → List ℕ
head_text processes budget = codes "n " ++ decimal processes ++ codes "\nb " ++ decimal budget ++ codes "\n"

-- I name value, for each variable of the program, where their values were carried over
abbrev pub carried_text : Program → Option Activation → List ℕ
carried_text program None = []
carried_text program (Some opening) = opening_text program.variables opening

-- p.k
abbrev pub id_text : CallId → List ℕ
id_text id = decimal id.process ++ codes "." ++ decimal id.number

abbrev pub ids_text : List CallId → List ℕ
ids_text = flat_map (λ id. codes " " ++ id_text id)

abbrev pub scalars_text : List Scalar → List ℕ
scalars_text = flat_map (λ s. codes " " ++ scalar_text s)

-- the name of an export; none where there is no such export, as never with a call that fits
abbrev pub name_of : Option Signature → List ℕ
name_of None = codes ""
name_of (Some export) = export.name

-- B p.k Name arguments
abbrev pub begin_text : List Signature → CallId → ObjectCall → List ℕ
begin_text exports id call =
    codes "B " ++ id_text id ++ codes " " ++ name_of (slice_get exports call.export) ++ scalars_text call.arguments ++ codes "\n"

-- B, A ids, E
abbrev pub event_text : List Signature → Event ObjectCall Reply → List ℕ
event_text exports (Begin id call) = begin_text exports id call
event_text exports (Applied ids) = codes "A" ++ ids_text ids ++ codes "\n"
event_text exports (End id reply) = reply_line id.process id.number reply

-- O ids
abbrev pub order_text : List CallId → List ℕ
order_text order = codes "O" ++ ids_text order ++ codes "\n"

-- a space, and p*k
abbrev pub turns_text : Turns → List ℕ
turns_text t = codes " " ++ decimal t.process ++ codes "*" ++ decimal t.count

-- S p*k p*k ..
abbrev pub schedule_text : List Turns → List ℕ
schedule_text schedule = codes "S" ++ flat_map turns_text schedule ++ codes "\n"

-- the lines of a record: the first one, the head, the values carried over, the events, the order, the schedule and the variables of
-- the program
abbrev pub record_text : Program → Record → List ℕ
record_text program r =
    title_text r.carried ++ head_text r.processes r.budget ++ carried_text program r.carried
    ++ flat_map (event_text (signatures program)) r.history ++ order_text r.order ++ schedule_text r.schedule ++ state_text program.variables r.state
