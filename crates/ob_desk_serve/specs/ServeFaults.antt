-- What each fault of workers says.
use Rattle.std.specs.Prelude.{◌≡◌, ℕ, ◌<◌, [], All, List, Option, None, get_or, map}
use Rattle.ob_code_engine.specs.CodeEngine.{CompiledParts}
use Rattle.ob_code_correct.specs.CodeMeaning.{code_meaning}
use Rattle.ob_code_correct.specs.Compiled.{HasReserve, IsFitting}
use Rattle.ob_code_correct.specs.Parts.{IsLawfulFor}
use Rattle.ob_desk_floor.specs.Close as Close
use Rattle.ob_desk_floor.specs.Close.{AreSeats}
use Rattle.ob_desk_floor.specs.declared.fault.CloseFault.{CloseFault}
use Rattle.ob_desk_floor.specs.Agreeing.{Agrees}
use Rattle.ob_desk_floor.specs.Seat.{Seat, answered_call}
use Rattle.ob_desk_floor.specs.declared.seat.CallAnswer.{CallAnswer}
use Rattle.ob_desk_serve.specs.Rounds.{Hears, IsRefused, Says}
use Rattle.ob_desk_serve.specs.declared.worker.Worked.{Worked}
use Rattle.ob_interface.specs.Call.{ObjectCall, Reply}
use Rattle.ob_object_compile.specs.Compilation.{ObjectParts}
use Rattle.ob_text_record.specs.Record.{Record}
use Rattle.ob_desk_serve.specs.NotAllEnded.{HaveAllServed, HaveServed, IsFirst}
use Rattle.ob_desk_serve.specs.PromisesOfServe.{EndsFirst, IsRecordOf, calls_for, desk_of}
use Rattle.ob_desk_serve.specs.declared.fault.ServeFault.{ServeFault}
use Rattle.ob_desk_serve.specs.declared.fault.ServeFault.TheVariants as Faults
use Rattle.ob_text_words.specs.ScriptCalls.{ScriptCall}
use Rattle.wf_history.specs.History.{Event, own_answers}

-- what came of a process is what the history shows of it: the Ends of just the first so many of its calls, in turn
pub record IsTold (history : List (Event ObjectCall Reply)) (p count : ℕ) (sent : List CallAnswer) : Type 0 where
  pub shown : map answered_call sent ≡ own_answers p history
  pub ended : EndsFirst history p count

-- that of a process's calls in the scripts
abbrev pub IsToldAll : List (Event ObjectCall Reply) → List ScriptCall → (ℕ → List CallAnswer) → ℕ → Type 0
IsToldAll history scripts sent p = IsTold history p (calls_for p scripts) (sent p)

-- of each process what came is that
abbrev pub AreToldAll : (processes : ℕ) → List (Event ObjectCall Reply) → List ScriptCall → (ℕ → List CallAnswer) → Type 0
AreToldAll processes history scripts sent = (p : ℕ) → p < processes → IsToldAll history scripts sent p

-- V2: the lowest process of which something else came
pub record IsLowestLost (processes : ℕ) (history : List (Event ObjectCall Reply)) (scripts : List ScriptCall) (sent : ℕ → List CallAnswer) (p : ℕ) : Type 0 where
  pub own : p < processes
  pub lost : ¬ (IsToldAll history scripts sent p)
  pub below : (k : ℕ) → k < p → IsToldAll history scripts sent k

-- closing these seats has no fault, and of the record that is then made other answers came: a list of each process, in order
pub record HasLost (o : ObjectParts) (scripts : List ScriptCall) (seats : List Seat) (answers : List (List CallAnswer)) (p : ℕ) : Type 0 where
  pub shown : Record
  pub is_record : IsRecordOf o scripts shown
  pub own : AreSeats (desk_of o scripts) seats
  pub agree : All (Agrees shown.history shown.schedule) seats
  pub lowest : IsLowestLost o.processes shown.history scripts (λ k. get_or answers k []) p

-- closing the object's desk with these seats tells this, of some floor over code
abbrev pub TellsClosing : ObjectParts → List ScriptCall → List Seat → CloseFault → Type 0
TellsClosing o scripts seats e =
    Close.TellsClosing (λ (x : CompiledParts). x.parts) (λ x. code_meaning x.parts) (λ x. IsLawfulFor x.parts) (λ x. IsFitting x.parts.exports) (λ x. HasReserve x.parts) (desk_of o scripts) seats e

-- what is told where all workers ended well: a fault of closing as closing tells it, and V2 where closing has none
abbrev pub IsFinishFault : ObjectParts → List ScriptCall → List Seat → List (List CallAnswer) → ServeFault → Type 0
IsFinishFault o scripts seats answers (Faults.Lost p) = HasLost o scripts seats answers p
IsFinishFault o scripts seats answers (Faults.Close e) = TellsClosing o scripts seats e
IsFinishFault o scripts seats answers Faults.NoMemory = Unit {0}
IsFinishFault o scripts seats answers _ = ⊥

-- What each fault says of the workers on an object, by whose gate they go. V3: the process's worker was not started. V1: the gate
-- refused the process a turn as often in a row as the limit says. Those of closing and V2: of the seats and answers that the workers
-- handed back, each of which was started and ended well.
abbrev pub IsServeFault : (passes refuses : Says) → Hears → (limit : ℕ) → ObjectParts → List ScriptCall → ServeFault → Type 0
IsServeFault passes refuses hears limit o scripts (Faults.NotStarted p) =
    (p < o.processes) × (workers : List (Option Worked)) × HaveServed passes refuses hears limit o.processes workers × IsFirst None workers p
IsServeFault passes refuses hears limit o scripts Faults.NoMemory = Unit {0}
IsServeFault passes refuses hears limit o scripts (Faults.Refused p) = (p < o.processes) × IsRefused refuses limit p
IsServeFault passes refuses hears limit o scripts (Faults.Lost p) =
    (worked : List Worked) × HaveAllServed passes refuses hears limit o.processes worked × HasLost o scripts (map (λ w. w.seat) worked) (map (λ w. w.answers.items) worked) p
IsServeFault passes refuses hears limit o scripts (Faults.Close e) =
    (worked : List Worked) × HaveAllServed passes refuses hears limit o.processes worked × TellsClosing o scripts (map (λ w. w.seat) worked) e
