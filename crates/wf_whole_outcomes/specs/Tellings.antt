-- What the calls of scripts answer on the way.
use Rattle.std.specs.Prelude.{◌≡◌, ℕ, ◌+◌, ◌<◌, List, [], ◌∷◌, ◌++◌, length, map, get_or, slice_get, replicate, Some}
use Rattle.std.proofs.Common.{set}
use Rattle.wf_history.specs.declared.event.CallId.{CallId}

-- of each process the replies to its calls so far, in order, and the state that the calls lead to
pub record Telling (State Reply : Type 0) : Type 0 where
  pub replies : List (List Reply)
  pub state : State

-- the replies to the calls of a process
abbrev pub replies_to : {State Reply : Type 0} → Telling State Reply → (process : ℕ) → List Reply
replies_to t process = get_or t.replies process []

module _ {State Call Reply : Type 0} (Effect : Call → State → State → Reply → Type 0) (scripts : List (List Call)) where
  -- The call is its process's next one, and made on the first state it leads to the second one. Its reply is told behind those to
  -- the calls of its process before it.
  pub record IsTold (t : Telling State Reply) (id : CallId) (u : Telling State Reply) : Type 0 where
    pub call : Call
    pub reply : Reply
    pub process : id.process < length t.replies
    pub listed : slice_get (get_or scripts id.process []) (length (replies_to t id.process)) ≡ Some call
    pub number : id.number ≡ length (replies_to t id.process) + 1
    pub effect : Effect call t.state u.state reply
    pub replies : u.replies ≡ set t.replies id.process (replies_to t id.process ++ reply ∷ [])

  -- these calls, in order, one after the other
  pub data Tells : Telling State Reply → List CallId → Telling State Reply → Type 0 where
    none : {t : Telling State Reply} → Tells t [] t
    more : {t u v : Telling State Reply} {id : CallId} {ids : List CallId} → IsTold t id u → Tells u ids v → Tells t (id ∷ ids) v

  -- no call is made
  abbrev pub silence : State → Telling State Reply
  silence opening = record { replies = replicate (length scripts) []; state = opening }

  -- each call of the scripts has its reply
  abbrev pub IsWhole : Telling State Reply → Type 0
  IsWhole t = map length t.replies ≡ map length scripts

  -- the calls of the scripts, all made in this order, have these replies and lead to this state: a whole outcome
  pub record Gives (opening : State) (order : List CallId) (t : Telling State Reply) : Type 0 where
    pub tells : Tells (silence opening) order t
    pub whole : IsWhole t

  -- more than so many such lists of replies, each with its state, can be told on the way: here are some, none twice
  pub record HasMoreTold (opening : State) (most : ℕ) : Type 0 where
    pub some : List (Telling State Reply)
    pub many : most < length some
    pub told : (k : ℕ) (t : Telling State Reply) → slice_get some k ≡ Some t → (ids : List CallId) × Tells (silence opening) ids t
    pub once : (j k : ℕ) (t : Telling State Reply) → slice_get some j ≡ Some t → slice_get some k ≡ Some t → j ≡ k
