-- What a worker's rounds come to: its seat, its answers, what the gate says of its steps, of its answers and of how often in a row it
-- has refused a step, and why it has ended.
use Rattle.std.specs.Prelude.{◌≡◌, ◌≢◌, ℕ, ◌+◌, ◌<◌, ◌≤◌, ◌^◌, ◌⊎◌, ◌++◌, ◌∷◌, [], All, List, length, map}
use Rattle.ob_desk_floor.specs.Seat.{Seat, answered_call}
use Rattle.ob_desk_floor.specs.declared.seat.CallAnswer.{CallAnswer}
use Rattle.ob_desk_serve.specs.declared.worker.Ended.{Ended}
use Rattle.ob_desk_serve.specs.declared.worker.Worked.{Worked}
use Rattle.ob_interface.specs.Call.{Reply}
use Rattle.wf_history.specs.declared.event.CallId.{CallId}

-- ---- the seat

-- the seat after some steps: still of its process and desk, and no step added more than one answer
pub record IsAfterTurns (before after : Seat) : Type 0 where
  pub process : after.process ≡ before.process
  pub tag : after.tag ≡ before.tag
  pub later : List (CallId × Reply)
  pub answers : after.answers ≡ before.answers ++ later
  pub turns : before.turns + length later ≤ after.turns

-- ---- the gate

-- What a gate says where it passes, or where it refuses: of a process, of how many steps its seat has taken, and of how often in a
-- row it has refused the next one.
abbrev pub Says : Type 1
Says = ℕ → ℕ → ℕ → Type 0

-- a gate that may do so at any time, and one that never does

abbrev pub always : Says
always process turns refusals = Unit {0}

abbrev pub never : Says
never process turns refusals = ⊥

-- The gate let the process take the step behind so many, and had refused it fewer times in a row than the limit says.
abbrev pub IsLet : Says → (limit process turns : ℕ) → Type 0
IsLet passes limit process turns = (refusals : ℕ) × (refusals < limit) × passes process turns refusals

-- it let the process take each step of the seat
abbrev pub AreLet : Says → (limit : ℕ) → Seat → Type 0
AreLet passes limit s = (turns : ℕ) → turns < s.turns → IsLet passes limit s.process turns

-- it refused the seat's next step so often in a row
abbrev pub AreRefused : Says → Seat → ℕ → Type 0
AreRefused refuses s count = (k : ℕ) → k < count → refuses s.process s.turns k

-- It refused the process a step, behind so many, as often in a row as the limit says.
abbrev pub IsRefused : Says → (limit process : ℕ) → Type 0
IsRefused refuses limit process = (turns : ℕ) × ((k : ℕ) → k < limit → refuses process turns k)

-- What a gate says once it was told an answer: of a process, and of the number of its call.
abbrev pub Hears : Type 1
Hears = ℕ → ℕ → Type 0

-- a gate of which nothing is said then
abbrev pub unknown : Hears
unknown process number = Unit {0}

-- it was told of each of these answers
abbrev pub AreTold : Hears → List CallAnswer → Type 0
AreTold hears answers = All (λ a. hears a.id.process a.id.number) answers

-- ---- the answers

-- the seat has these answers behind some earlier ones
abbrev pub HasBehind : (earlier : List (CallId × Reply)) → Seat → List CallAnswer → Type 0
HasBehind earlier s answers = s.answers ≡ earlier ++ map answered_call answers

-- a seat and answers that go on from others: behind whatever the seat had these answers, it has those
abbrev pub GoOnFrom : Seat → List CallAnswer → Seat → List CallAnswer → Type 0
GoOnFrom s answers t more = (earlier : List (CallId × Reply)) → HasBehind earlier s answers → HasBehind earlier t more

-- the seat's last answer, if it has one, was added
abbrev pub IsLastAdded : Seat → (before after : List CallAnswer) → Type 0
IsLastAdded s before after =
    (earlier : List (CallId × Reply)) (last : CallId × Reply) → s.answers ≡ earlier ++ last ∷ [] → map answered_call after ≡ map answered_call before ++ last ∷ []

-- ---- the end

-- What a desk says where it answers that a process is halted: of its seat behind that turn.
abbrev pub Halts : Type 1
Halts = Seat → Type 0

-- the seat can count no more turns
abbrev pub IsFull : Seat → Type 0
IsFull s = s.turns + 1 ≡ 2 ^ 128

-- the seat's last turn was answered so, or it can count no more
abbrev pub IsDone : Halts → Seat → Type 0
IsDone halts s = halts s ⊎ IsFull s

-- ---- a worker

-- From the seat with which it began to what it hands back. The answers are those that its seat was given, in order, unless memory
-- wanted; of each the gate was told.
pub record HasWorked (passes refuses : Says) (hears : Hears) (halts : Halts) (limit : ℕ) (before : Seat) (w : Worked) : Type 0 where
  pub seat : IsAfterTurns before w.seat
  pub are_let : AreLet passes limit before → AreLet passes limit w.seat
  pub told : AreTold hears w.answers.items
  pub answers : w.ended ≢ Ended.NoMemory → HasBehind before.answers w.seat w.answers.items
  pub done : w.ended ≡ Ended.Done → IsDone halts w.seat
  pub refused : w.ended ≡ Ended.Refused → IsRefused refuses limit before.process
