-- Histories: lists of events of calls. A call and a reply are any two types.
use Rattle.std.specs.Prelude.{◌≡◌, ℕ, ◌+◌, suc, zero, List, [], ◌∷◌, ◌++◌, length, if◌then◌else◌, nat_eq}
use Rattle.wf_history.specs.declared.event.CallId.{CallId}

pub data Event (Call Reply : Type 0) : Type 0 where
  Begin : (id : CallId) (call : Call) → Event Call Reply
  Applied : (ids : List CallId) → Event Call Reply
  End : (id : CallId) (reply : Reply) → Event Call Reply

-- what one process does: it begins its call of this number, or that call ends
pub data OwnEvent : Type 0 where
  Begins : (number : ℕ) → OwnEvent
  Ends : (number : ℕ) → OwnEvent

-- a process that takes turns with its calls, from this number on: the first so many of
-- Begins number, Ends number, Begins (number + 1), Ends (number + 1) and so on
abbrev pub in_turn : ℕ → ℕ → List OwnEvent
in_turn number zero = []
in_turn number (suc zero) = Begins number ∷ []
in_turn number (suc (suc count)) = Begins number ∷ Ends number ∷ in_turn (number + 1) count

module _ {Call Reply : Type 0} where
  -- one event, as its process sees it
  abbrev pub own_event : ℕ → Event Call Reply → List OwnEvent
  own_event process (Begin id call) = if nat_eq id.process process then Begins id.number ∷ [] else []
  own_event process (Applied ids) = []
  own_event process (End id reply) = if nat_eq id.process process then Ends id.number ∷ [] else []

  -- the Begin and End events of a process, in order
  abbrev pub own_events : ℕ → List (Event Call Reply) → List OwnEvent
  own_events process [] = []
  own_events process (event ∷ events) = own_event process event ++ own_events process events

  abbrev pub own_call : ℕ → Event Call Reply → List Call
  own_call process (Begin id call) = if nat_eq id.process process then call ∷ [] else []
  own_call process (Applied ids) = []
  own_call process (End id reply) = []

  -- the calls that a process has begun, in order
  abbrev pub own_calls : ℕ → List (Event Call Reply) → List Call
  own_calls process [] = []
  own_calls process (event ∷ events) = own_call process event ++ own_calls process events

  abbrev pub own_answer : ℕ → Event Call Reply → List (CallId × Reply)
  own_answer process (Begin id call) = []
  own_answer process (Applied ids) = []
  own_answer process (End id reply) = if nat_eq id.process process then (id, reply) ∷ [] else []

  -- the answers to a process's calls, in order
  abbrev pub own_answers : ℕ → List (Event Call Reply) → List (CallId × Reply)
  own_answers process [] = []
  own_answers process (event ∷ events) = own_answer process event ++ own_answers process events

  -- the Begin and End events of each process are Begin 1, End 1, Begin 2, End 2 and so on
  abbrev pub IsHistory : List (Event Call Reply) → Type 0
  IsHistory history = (process : ℕ) → own_events process history ≡ in_turn 1 (length (own_events process history))

  -- call a is before call b: a ended before b began
  pub data Before : List (Event Call Reply) → CallId → CallId → Type 0 where
    before : {history : List (Event Call Reply)} {a b : CallId} (reply : Reply) (call : Call) (first between last : List (Event Call Reply)) →
        history ≡ first ++ End a reply ∷ (between ++ Begin b call ∷ last) → Before history a b
