-- What the record of workers on an object shows.
use Rattle.std.specs.Prelude.{◌≡◌, ℕ, ◌<◌, All, List, count_by, map, nat_eq}
use Rattle.ob_code_engine.specs.CodeEngine.{CompiledParts}
use Rattle.ob_code_correct.specs.CodeMeaning.{EngineParts, code_meaning}
use Rattle.ob_code_correct.specs.Compiled.{HasReserve, IsFitting}
use Rattle.ob_code_correct.specs.Parts.{IsLawfulFor}
use Rattle.ob_code_machine.specs.Body.{Run}
use Rattle.ob_code_scheme.specs.Layout.{encoded}
use Rattle.ob_desk_floor.specs.Desk.{Desk, Terms, desk_in}
use Rattle.ob_desk_floor.specs.Floor.{turns_in}
use Rattle.ob_desk_serve.specs.Rounds.{Hears, IsLet, Says}
use Rattle.ob_interface.specs.Call.{ObjectCall, Reply}
use Rattle.ob_meaning.specs.Same.{SameState}
use Rattle.ob_meaning.specs.ByNameObject as Named
use Rattle.ob_object_compile.specs.Compilation.{ObjectParts}
use Rattle.ob_object_run.specs.LegalOrder.{IsLegalOrder}
use Rattle.ob_text_record.specs.Record.{Record, carried_from}
use Rattle.ob_object_run.specs.Recorded.{IsMeantOrder}
use Rattle.ob_text_words.specs.ScriptCalls.{ScriptCall}
use Rattle.wf_history.specs.History.{Event, own_answers}
use Rattle.wf_play.specs.Played.{scripts_of}
use Rattle.wf_table.specs.Object.{State}
use Rattle.wf_table.specs.Runs.{IsRun, performed}
use Rattle.wf_table.specs.declared.schedule.Turns.{Turns}
use Rattle.wf_theorems.specs.FirstCalls.{first_ids}

-- what a desk over code keeps: the budget of each call is a part of the code
abbrev pub kept_desk : Terms CompiledParts → Desk EngineParts
kept_desk d = desk_in (λ (e : CompiledParts). e.parts) d

-- the desk at which the workers of an object's processes take their turns
abbrev pub desk_of : ObjectParts → List ScriptCall → Desk EngineParts
desk_of o scripts = record { code = o.engine; processes = o.processes; opening = encoded o.opening; carried = o.carried; scripts = scripts_of scripts; tag = 0 }

-- from the state by name with which the object begins, the record's order is a legal order of its history by what calls mean with the
-- object's budget, and leads to the record's state
abbrev pub IsMeantRecord : ObjectParts → Record → Type 0
IsMeantRecord o r = (opening : Named.State) → SameState o.program opening o.opening → ∥ IsMeantOrder o.program o.engine.budget opening r ∥₁

-- the same by what calls come to by position
abbrev pub IsLegalRecord : ObjectParts → Record → Type 0
IsLegalRecord o r = ∥ IsLegalOrder o.program o.engine.budget o.opening r.history r.order r.state ∥₁

-- the record is of a run of the object by the scripts and the record's own schedule, from the object's opening, each call with the
-- object's budget; and its order is a legal order of its history by the meaning of the module, to the record's state
pub record IsRecordOf (o : ObjectParts) (scripts : List ScriptCall) (r : Record) : Type 0 where
  pub state : State Run
  pub runs : IsRun (code_meaning o.engine) (IsLawfulFor o.engine) (IsFitting o.engine.exports) (HasReserve o.engine) o.processes (encoded o.opening) (performed (scripts_of scripts) state.records.schedule) state
  pub processes : r.processes ≡ o.processes
  pub budget : r.budget ≡ o.engine.budget
  pub carried : r.carried ≡ carried_from o.carried o.opening
  pub history : r.history ≡ state.records.history
  pub order : r.order ≡ state.records.order
  pub schedule : r.schedule ≡ state.records.schedule
  pub legal : IsLegalRecord o r
  pub meant : IsMeantRecord o r

-- how many calls the scripts have for a process
abbrev pub calls_for : ℕ → List ScriptCall → ℕ
calls_for p scripts = count_by (λ c. nat_eq c.process p) scripts

-- of the process just the first so many calls have ended, in turn
abbrev pub EndsFirst : List (Event ObjectCall Reply) → ℕ → ℕ → Type 0
EndsFirst history p count = map (λ a. a.0) (own_answers p history) ≡ first_ids p count

-- each call of the scripts has its one End, those of a process in turn
abbrev pub HaveEnded : ℕ → List ScriptCall → List (Event ObjectCall Reply) → Type 0
HaveEnded processes scripts history = (p : ℕ) → p < processes → EndsFirst history p (calls_for p scripts)

-- each turn that the schedule has of a process is one that the gate let it take
abbrev pub AreTurnsLet : Says → (limit processes : ℕ) → List Turns → Type 0
AreTurnsLet passes limit processes schedule = (p turns : ℕ) → p < processes → turns < turns_in p schedule → IsLet passes limit p turns

-- the gate was told of each answer that the history shows of a process
abbrev pub AreAnswersTold : Hears → (processes : ℕ) → List (Event ObjectCall Reply) → Type 0
AreAnswersTold hears processes history = (p : ℕ) → p < processes → All (λ a. hears a.0.process a.0.number) (own_answers p history)
