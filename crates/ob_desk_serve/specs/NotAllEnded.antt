-- What is told where not all workers of a desk ended well, and what they handed back where they did.
use Rattle.std.specs.Prelude.{◌≡◌, ◌≢◌, ℕ, ◌<◌, All, List, Option, None, Some, length, map, slice_get, take}
use Rattle.std.specs.List.{AllZip, filter_map}
use Rattle.ob_desk_floor.specs.Desk.{seats_of}
use Rattle.ob_desk_floor.specs.declared.seat.CallAnswer.{CallAnswer}
use Rattle.ob_desk_serve.specs.WorkersGathered.{HaveWorked}
use Rattle.ob_desk_serve.specs.Rounds.{Halts, HasWorked, Hears, Says}
use Rattle.ob_desk_serve.specs.declared.worker.Ended.{Ended}
use Rattle.ob_desk_serve.specs.declared.worker.Worked.{Worked}
use Rattle.ob_desk_serve.specs.declared.ended_workers.HandedBack.{HandedBack}
use Rattle.ob_desk_serve.specs.declared.fault.ServeFault.{ServeFault}
use Rattle.ob_desk_serve.specs.declared.fault.ServeFault.TheVariants as Faults

-- ---- how the workers ended

-- how a worker ended, if it was started
abbrev pub how_ended : Option Worked → Option Ended
how_ended None = None
how_ended (Some w) = Some w.ended

-- none of the workers ended so; of none, each was started
abbrev pub NoneEnded : (which : Option Ended) → List (Option Worked) → Type 0
NoneEnded which workers = All (λ w. how_ended w ≢ which) workers

-- the lowest process whose worker ended so: the workers stand in the order of the processes
pub record IsFirst (which : Option Ended) (workers : List (Option Worked)) (p : ℕ) : Type 0 where
  pub within : p < length workers
  pub worker : Option Worked
  pub there : slice_get workers p ≡ Some worker
  pub ended : how_ended worker ≡ which
  pub before : NoneEnded which (take p workers)

-- V3 is told before want of memory, and that before V1; each of the lowest process
abbrev pub IsGatherFault : List (Option Worked) → ServeFault → Type 0
IsGatherFault workers (Faults.NotStarted p) = IsFirst None workers p
IsGatherFault workers Faults.NoMemory = NoneEnded None workers
IsGatherFault workers (Faults.Refused p) = NoneEnded None workers × NoneEnded (Some Ended.NoMemory) workers × IsFirst (Some Ended.Refused) workers p
IsGatherFault workers _ = ⊥

-- ---- what they handed back

-- what those handed back that were started
abbrev pub started : List (Option Worked) → List Worked
started workers = filter_map (λ w. w) workers

-- the answers that were handed back, a list of each
abbrev pub lists_in : HandedBack → List (List CallAnswer)
lists_in b = map (λ list. list.items) b.answers.items

-- their seats and their answers, in order
pub record AreOf (worked : List Worked) (b : HandedBack) : Type 0 where
  pub seats : b.seats.items ≡ map (λ w. w.seat) worked
  pub answers : lists_in b ≡ map (λ w. w.answers.items) worked

abbrev pub AreSplit : List (Option Worked) → HandedBack → Type 0
AreSplit workers b = AreOf (started workers) b

-- each worker was started and ended well, and these are the seats and the answers
pub record AreBack (workers : List (Option Worked)) (b : HandedBack) : Type 0 where
  pub all : NoneEnded None workers
  pub enough : NoneEnded (Some Ended.NoMemory) workers
  pub passed : NoneEnded (Some Ended.Refused) workers
  pub are : AreSplit workers b

-- ---- what the workers of an object's processes come to

-- a desk that answers that a process is halted hides under its lock where the process stands: nothing is known of it
abbrev pub hidden : Halts
hidden s = Unit {0}

-- for each process, in order, what its worker handed back, if it was started
abbrev pub HaveServed : (passes refuses : Says) → Hears → (limit processes : ℕ) → List (Option Worked) → Type 0
HaveServed passes refuses hears limit processes workers = HaveWorked passes refuses hears hidden limit (seats_of processes 0) workers

-- each was started, and ended as done: the desk had told it that its process is halted, or its seat can count no more
pub record HaveAllServed (passes refuses : Says) (hears : Hears) (limit processes : ℕ) (worked : List Worked) : Type 0 where
  pub each : AllZip (HasWorked passes refuses hears hidden limit) (seats_of processes 0) worked
  pub well : All (λ w. w.ended ≡ Ended.Done) worked
