-- Calls that are made as they come: what was told of them so far is what is told of calls that are made one at a time.
use Rattle.std.specs.Prelude.{◌≡◌, ◌<◌, ◌==◌, ℕ, suc, Bool, true, false, List, [], ◌∷◌, ◌++◌, All, codes, filter, get_or, length, map, string_bytes}
use Rattle.std.specs.List.{flat_map}
use Rattle.ob_checked.specs.Exports.{signatures}
use Rattle.ob_interface.specs.Call.{ObjectCall, Reply}
use Rattle.ob_interface.specs.Export.{CallFits, Signature}
use Rattle.ob_mean.specs.Sequences.{replies_to}
use Rattle.ob_checked.specs.CheckedModule.{program_in}
use Rattle.ob_object_live.specs.declared.live_parts.Ground as Rust
use Rattle.ob_object_live.specs.declared.live_parts.Live.{Live}
use Rattle.ob_object_live.specs.declared.live_parts.Told.{Told}
use Rattle.ob_object_live.specs.declared.live_parts.Told.TheVariants.{Fault, Lines}
use Rattle.ob_text_record.specs.Record.{Record, carried_from}
use Rattle.ob_meaning.specs.ByPositionObject.{effect}
use Rattle.ob_meaning.specs.ByPositionStore.{Activation}
use Rattle.ob_text_words.specs.ReplyLines.{reply_line}
use Rattle.ob_store.specs.View.{state_of}
use Rattle.ob_text_record.specs.RecordText.{begin_text, carried_text, event_text, head_text, id_text, ids_text}
use Rattle.ob_text_record.specs.Variables.{state_text}
use Rattle.ob_text_scripts.specs.Script.{IsScript, IsScriptFault, SaysNone}
use Rattle.ob_text_scripts.specs.declared.script.ScriptFault.{ScriptFault}
use Rattle.ob_text_words.specs.ScriptCalls.{ScriptCall, object_call}
use Rattle.ob_typing.specs.Program.{Program}
use Rattle.wf_history.specs.declared.event.CallId.{CallId}
use Rattle.wf_history.specs.History.{Applied, Begin, End, Event}

-- who made calls, and what they ask of the object
abbrev pub callers : List ScriptCall → List ℕ
callers = map (λ c. c.process)

abbrev pub asked : List ScriptCall → List ObjectCall
asked = map object_call

-- what calls are made on: the program, how many processes there are, the turns of each call, the state with which they begin, and whether that
-- was carried over
pub record Ground : Type 0 where
  pub program : Program
  pub processes : ℕ
  pub budget : ℕ
  pub opening : Activation
  pub carried : Bool

abbrev pub ground_of : Rust.Ground → Ground
ground_of g = record {
  program = program_in g.checked;
  processes = g.processes;
  budget = g.budget;
  opening = state_of g.opening;
  carried = g.carried;
}

-- ---- what there is of calls that are made one at a time

-- how many of these calls a process made, and the name of the next one: its process, and its number among the calls of that
abbrev pub count_of : (process : ℕ) → (before : List ℕ) → ℕ
count_of process before = length (filter (λ p. p == process) before)

abbrev pub id_behind : (before : List ℕ) → (process : ℕ) → CallId
id_behind before process = record { process = process; number = suc (count_of process before) }

-- the processes of calls behind others, the last one first
abbrev pub behind : (before processes : List ℕ) → List ℕ
behind before [] = before
behind before (p ∷ processes) = behind (p ∷ before) processes

-- the E line of a call of this name
abbrev pub end_text : CallId → Reply → List ℕ
end_text id reply = reply_line id.process id.number reply

-- the E lines of calls behind others
abbrev pub lines_behind : (before : List ℕ) → List ScriptCall → List Reply → List ℕ
lines_behind before [] replies = []
lines_behind before (c ∷ calls) [] = []
lines_behind before (c ∷ calls) (reply ∷ replies) =
    end_text (id_behind before c.process) reply ++ lines_behind (c.process ∷ before) calls replies

-- ---- the record of calls that were made one at a time

-- what happened of a call that was made alone: it began, it took effect, and it ended with its reply
abbrev pub events_alone : CallId → ObjectCall → Reply → List (Event ObjectCall Reply)
events_alone id call reply = Begin id call ∷ Applied (id ∷ []) ∷ End id reply ∷ []

-- so of calls one behind the other, behind others
abbrev pub events_behind : (before : List ℕ) → List ScriptCall → List Reply → List (Event ObjectCall Reply)
events_behind before [] replies = []
events_behind before (c ∷ calls) [] = []
events_behind before (c ∷ calls) (reply ∷ replies) =
    events_alone (id_behind before c.process) (object_call c) reply ++ events_behind (c.process ∷ before) calls replies

-- their names, in their order
abbrev pub order_behind : (before processes : List ℕ) → List CallId
order_behind before [] = []
order_behind before (p ∷ processes) = id_behind before p ∷ order_behind (p ∷ before) processes

-- the state behind calls
abbrev pub state_after : Program → (budget : ℕ) → Activation → List ObjectCall → Activation
state_after program budget state [] = state
state_after program budget state (call ∷ calls) = state_after program budget (effect program call budget state).state calls

-- ---- of calls on a ground

-- their replies, the lines of these, and the state behind them
abbrev pub replies_at : Ground → List ScriptCall → List Reply
replies_at g calls = replies_to g.program g.budget g.opening (asked calls)

abbrev pub lines_at : Ground → List ScriptCall → List ℕ
lines_at g calls = lines_behind [] calls (replies_at g calls)

abbrev pub state_at : Ground → List ScriptCall → Activation
state_at g calls = state_after g.program g.budget g.opening (asked calls)

-- what a record tells of them: their events, in their order, with nobody's steps, and the state behind them
abbrev pub record_at : Ground → List ScriptCall → Record
record_at g calls = record {
  processes = g.processes;
  budget = g.budget;
  carried = carried_from g.carried g.opening;
  history = events_behind [] calls (replies_at g calls);
  order = order_behind [] (callers calls);
  schedule = [];
  state = state_at g calls;
}

-- ---- the lines of events

abbrev pub applied_text : CallId → List ℕ
applied_text id = codes "A " ++ id_text id ++ codes "\n"

abbrev pub call_text : List Signature → CallId → ObjectCall → Reply → List ℕ
call_text exports id call reply = begin_text exports id call ++ applied_text id ++ reply_line id.process id.number reply

-- the first line of a record, and all of it, where these lines tell the calls and these names their order
abbrev pub title_of : (carried : Bool) → List ℕ
title_of true = codes "obl0 record 3\n"
title_of false = codes "obl0 record 2\n"

abbrev pub told_text : Ground → (events order : List ℕ) → Activation → List ℕ
told_text g events order state =
    title_of g.carried ++ head_text g.processes g.budget ++ carried_text g.program (carried_from g.carried g.opening)
    ++ events ++ (codes "O" ++ order ++ codes "\nS\n") ++ state_text g.program.variables state

-- all lines of a text that ends with a line feed are remarks: each begins so
abbrev pub remarked : (starts : Bool) → List ℕ → List ℕ
remarked starts [] = []
remarked true (b ∷ text) = codes "# " ++ b ∷ remarked (b == 10) text
remarked false (b ∷ text) = b ∷ remarked (b == 10) text

-- ---- calls that were made

-- these calls were made on the ground, each by one of its processes and as the exports want them; it is known in which state that is behind
-- them, how many calls each process has made, and which lines tell them in the record
pub record IsAt (g : Ground) (calls : List ScriptCall) (l : Live) : Type 0 where
  pub ground : ground_of l.ground ≡ g
  pub state : state_of l.state ≡ state_at g calls
  pub counted : (p : ℕ) → p < g.processes → get_or l.made.items p 0 ≡ count_of p (behind [] (callers calls))
  pub events : string_bytes l.events ≡ flat_map (event_text (signatures g.program)) (events_behind [] calls (replies_at g calls))
  pub order : string_bytes l.order ≡ ids_text (order_behind [] (callers calls))
  pub below : All (λ c. c.process < g.processes) calls
  pub fit : All (λ c. CallFits (signatures g.program) (object_call c)) calls

-- more calls were made behind those, and these lines tell them: behind what is told of those, they are what is told of all
pub record IsMore (g : Ground) (calls more : List ScriptCall) (lines : List ℕ) (after : Live) : Type 0 where
  pub told : lines_at g (calls ++ more) ≡ lines_at g calls ++ lines
  pub at : IsAt g (calls ++ more) after

-- one call was made, and its line appended
pub record OneMade (g : Ground) (calls : List ScriptCall) (call : ScriptCall) (old new : List ℕ) (after : Live) : Type 0 where
  pub line : List ℕ
  pub appended : new ≡ old ++ line
  pub made : IsMore g calls (call ∷ []) line after

-- so where that is told
abbrev pub AreTold : Ground → (calls more : List ScriptCall) → Told → Live → Type 0
AreTold g calls more (Lines lines) after = IsMore g calls more (string_bytes lines) after
AreTold g calls more (Fault e) after = ⊥

-- the text is a script of calls, which were made
pub record AreMade (g : Ground) (calls : List ScriptCall) (text lines : List ℕ) (after : Live) : Type 0 where
  pub more : List ScriptCall
  pub read : IsScript (signatures g.program) g.processes text more
  pub made : IsMore g calls more lines after

-- the text is none, for this fault, and no call was made
pub record AreRefused (g : Ground) (calls : List ScriptCall) (text : List ℕ) (fault : ScriptFault) (after : Live) : Type 0 where
  pub fails : IsScriptFault (signatures g.program) g.processes text fault
  pub says : SaysNone (signatures g.program) g.processes fault
  pub at : IsAt g calls after

-- a text of calls is answered by the lines of their replies, or by what is wrong with it
abbrev pub IsAnswered : Ground → List ScriptCall → (text : List ℕ) → Told → Live → Type 0
IsAnswered g calls text (Lines lines) after = AreMade g calls text (string_bytes lines) after
IsAnswered g calls text (Fault e) after = AreRefused g calls text e after
