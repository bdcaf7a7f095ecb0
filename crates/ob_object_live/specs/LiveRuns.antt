-- The object of a module that is called as calls come, by what its procedures mean.
use Rattle.std.specs.Prelude.{◌≡◌, ℕ, true, List, [], ◌∷◌}
use Rattle.ob_meaning.specs.Same.{SameState}
use Rattle.ob_checked.specs.Exports.{signatures}
use Rattle.ob_interface.specs.Call.{ObjectCall}
use Rattle.ob_object_live.specs.Living.{asked, callers, events_behind, order_behind, remarked}
use Rattle.ob_object_live.specs.Talks.{IsTalk}
use Rattle.ob_meaning.specs.ByNameObject as Named
use Rattle.ob_object_compile.specs.Asked.{Asked}
use Rattle.ob_object_compile.specs.Compilation.{IsCompilation, ObjectParts}
use Rattle.ob_text_record.specs.Record.{Record, carried_from}
use Rattle.ob_object_calls.specs.CallLines.{reply_lines}
use Rattle.ob_text_record.specs.RecordText.{record_text}
use Rattle.ob_text_words.specs.ScriptCalls.{ScriptCall}
use Rattle.ob_typing.specs.Program.{Program}

-- what `seq` prints of calls
abbrev pub seq_lines : Program → (budget : ℕ) → Named.State → List ScriptCall → List ℕ
seq_lines program budget opening calls = reply_lines [] (callers calls) (Named.replies_to program budget opening (asked calls))

-- the state behind calls
abbrev pub state_behind : Program → (budget : ℕ) → Named.State → List ObjectCall → Named.State
state_behind program budget state [] = state
state_behind program budget state (call ∷ calls) = state_behind program budget (Named.effect program call budget state).state calls

-- the object begins with a state, and this is the record of these calls, made on it one at a time: it has their events in their order, and
-- the variables behind them, and nobody's steps
pub record IsRecordOf (a : Asked) (o : ObjectParts) (opening : Named.State) (calls : List ScriptCall) (r : Record) : Type 0 where
  pub processes : r.processes ≡ a.processes
  pub budget : r.budget ≡ a.budget
  pub carried : r.carried ≡ carried_from o.carried o.opening
  pub history : r.history ≡ events_behind [] calls (Named.replies_to o.program a.budget opening (asked calls))
  pub order : r.order ≡ order_behind [] (callers calls)
  pub schedule : r.schedule ≡ []
  pub leaves : SameState o.program (state_behind o.program a.budget opening (asked calls)) r.state

-- its text, each line a remark
pub record IsRecordTold (a : Asked) (o : ObjectParts) (opening : Named.State) (calls : List ScriptCall) (text : List ℕ) : Type 0 where
  pub r : Record
  pub is : IsRecordOf a o opening calls r
  pub written : text ≡ remarked true (record_text o.program r)

-- What is told of lines that are heard, from one state of the conversation to another: each line is told of before the next one is heard, and
-- behind each line all that was told of calls is what `seq` prints of the calls so far.
module _ {C : Type 0} (Hears Tells : C → List ℕ → C → Type 0) where
  pub record IsLiveRun (a : Asked) (before after : C) : Type 0 where
    pub object : ObjectParts
    pub compiled : IsCompilation a object
    pub talk : IsTalk Hears Tells (signatures object.program) a.processes (seq_lines object.program a.budget compiled.opens.state)
        (IsRecordTold a object compiled.opens.state) [] 1 before after
