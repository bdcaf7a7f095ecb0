-- The order and the events, by themselves: whose calls are in the order, how many exchanges there were, and time.
use Rattle.std.specs.Prelude.{◌≡◌, ◌≢◌, ℕ, ◌+◌, ◌<◌, List, [], ◌∷◌, length, slice_index_or, Contains, if◌then◌else◌, nat_eq}
use Rattle.ob_interface.specs.Call.{ObjectCall, Reply}
use Rattle.wf_history.specs.declared.event.CallId.{CallId}
use Rattle.wf_history.specs.History.{Event, Begin, Applied, End}

-- the numbers of the calls of a process among these
abbrev pub own_numbers : ℕ → List CallId → List ℕ
own_numbers p [] = []
own_numbers p (id ∷ ids) = if nat_eq id.process p then id.number ∷ own_numbers p ids else own_numbers p ids

-- how many of these calls are the process's
abbrev pub applied_count : List CallId → ℕ → ℕ
applied_count order p = length (own_numbers p order)

-- how many Applied events are among these
abbrev pub exchanges_in : List (Event ObjectCall Reply) → ℕ
exchanges_in [] = 0
exchanges_in (Begin id call ∷ events) = exchanges_in events
exchanges_in (Applied ids ∷ events) = exchanges_in events + 1
exchanges_in (End id reply ∷ events) = exchanges_in events

-- each Applied event has an id
abbrev pub NoneEmpty : List (Event ObjectCall Reply) → Type 0
NoneEmpty [] = Unit {0}
NoneEmpty (Begin id call ∷ events) = NoneEmpty events
NoneEmpty (Applied ids ∷ events) = (ids ≢ []) × NoneEmpty events
NoneEmpty (End id reply ∷ events) = NoneEmpty events

-- this stands in the list in this place
abbrev pub IsAt : {X : Type 0} → List X → ℕ → X → Type 0
IsAt xs k x = (k < length xs) × (slice_index_or xs k x ≡ x)

-- call a stands before call b
abbrev pub Precedes : List CallId → CallId → CallId → Type 0
Precedes order a b = (i : ℕ) × (j : ℕ) × (i < j) × IsAt order i a × IsAt order j b

-- time order, of the events of a history and the order of its calls
pub record IsTimed (history : List (Event ObjectCall Reply)) (order : List CallId) : Type 0 where
  -- each ended call is in the order
  pub ended : (i : ℕ) (a : CallId) (reply : Reply) → IsAt history i (End a reply) → Contains order a
  -- a call that ended before another one began stands before it
  pub in_time : (i j : ℕ) (a b : CallId) (reply : Reply) (call : ObjectCall) → i < j → IsAt history i (End a reply) → IsAt history j (Begin b call) → Contains order b → Precedes order a b
