-- The steps of a search for a legal order. It goes over configurations: how many calls of each process are taken, and the
-- state that they lead to.
use Rattle.std.specs.Prelude.{◌≡◌, ℕ, ◌+◌, ◌<◌, ◌≤◌, List, [], ◌∷◌, length, get_or, slice_get, Some, replicate, Contains}
use Rattle.std.proofs.Common.{set}
use Rattle.wf_history.specs.declared.event.CallId.{CallId}
use Rattle.wf_history.specs.History.{Event, End, Before}
use Rattle.wf_history.specs.Legal.{HasBegun}

-- how many calls of each process are taken, in the order of their numbers, and the state
pub record Configuration (State : Type 0) : Type 0 where
  pub counts : List ℕ
  pub state : State

-- no call of so many processes is taken
abbrev pub start_at : {State : Type 0} → ℕ → State → Configuration State
start_at processes opening = record { counts = replicate processes 0; state = opening }

-- one more call of the process is taken, and led to this state
abbrev pub one_more : {State : Type 0} → List ℕ → ℕ → State → Configuration State
one_more counts process state = record { counts = set counts process (get_or counts process 0 + 1); state = state }

-- the call is counted too, the next one of its process
pub record IsOneMore (before : List ℕ) (id : CallId) (counts : List ℕ) : Type 0 where
  pub within : id.process < length before
  pub number : id.number ≡ get_or before id.process 0 + 1
  pub is : counts ≡ set before id.process id.number

-- the call is one of those that are counted
abbrev pub IsTaken : List ℕ → CallId → Type 0
IsTaken counts id = (0 < id.number) × (id.number ≤ get_or counts id.process 0)

-- the first place at which a call ends that is not taken; where there is none, the end of the history
pub record IsLimit {Call Reply : Type 0} (history : List (Event Call Reply)) (counts : List ℕ) (limit : ℕ) : Type 0 where
  pub within : limit ≤ length history
  pub taken : (a : CallId) (reply : Reply) (place : ℕ) → slice_get history place ≡ Some (End a reply) → place < limit → IsTaken counts a
  pub first : limit < length history → (a : CallId) × (reply : Reply) × (slice_get history limit ≡ Some (End a reply)) × ¬ IsTaken counts a

module _ {State Call Reply : Type 0} (Effect : Call → State → State → Reply → Type 0) (history : List (Event Call Reply)) where
  -- the call is its process's next one, all that ended before it began is taken, and made on the first state it leads to
  -- the second one, with the reply that the history has of it, if it has one
  pub record IsStep (c : Configuration State) (id : CallId) (d : Configuration State) : Type 0 where
    pub call : Call
    pub begun : HasBegun history id call
    pub process : id.process < length c.counts
    pub number : id.number ≡ get_or c.counts id.process 0 + 1
    pub earlier : (a : CallId) → Before history a id → IsTaken c.counts a
    pub reply : Reply
    pub effect : Effect call c.state d.state reply
    pub agrees : (other : Reply) → Contains history (End id other) → other ≡ reply
    pub counts : d.counts ≡ set c.counts id.process id.number

  -- steps of these calls, in order
  pub data Leads : Configuration State → List CallId → Configuration State → Type 0 where
    none : {c : Configuration State} → Leads c [] c
    more : {c d e : Configuration State} {id : CallId} {ids : List CallId} → IsStep c id d → Leads d ids e → Leads c (id ∷ ids) e

  -- each ended call is taken
  abbrev pub IsDone : Configuration State → Type 0
  IsDone c = (id : CallId) (reply : Reply) → Contains history (End id reply) → IsTaken c.counts id
