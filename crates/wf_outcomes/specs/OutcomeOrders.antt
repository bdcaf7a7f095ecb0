-- Outcomes of merges, each with an order that leads to it.
use Rattle.std.specs.Prelude.{◌≡◌, ℕ, suc, List, [], ◌∷◌, ◌++◌, map, slice_get, Some, Contains}
use Rattle.wf_history.specs.declared.event.CallId.{CallId}
use Rattle.wf_outcomes.specs.Merges.{Configuration, IsStep, Leads, start, full, IsFinal, IsPossible}

-- a reply that a call may have, and calls, in order, behind which it has it
pub record Told (Reply : Type 0) : Type 0 where
  pub reply : Reply
  pub behind : List CallId

abbrev pub reply_told : {Reply : Type 0} → Told Reply → Reply
reply_told told = told.reply

-- a call, and the replies that it may have
pub record CallTold (Reply : Type 0) : Type 0 where
  pub id : CallId
  pub replies : List (Told Reply)

abbrev pub id_told : {Reply : Type 0} → CallTold Reply → CallId
id_told told = told.id

-- what is kept of a state in which all calls may end, and an order of them that leads to it
pub record End (Kept : Type 0) : Type 0 where
  pub state : Kept
  pub order : List CallId

-- the calls of one process, from a number on
abbrev pub calls_of : {Call : Type 0} → (process number : ℕ) → List Call → List CallId
calls_of process number [] = []
calls_of process number (call ∷ calls) = record { process = process; number = number } ∷ calls_of process (suc number) calls

-- the calls of all scripts by process and number, from a process on
abbrev pub calls_from : {Call : Type 0} → (process : ℕ) → List (List Call) → List CallId
calls_from process [] = []
calls_from process (script ∷ scripts) = calls_of process 1 script ++ calls_from (suc process) scripts

module _ {State Call Reply : Type 0} (Effect : Call → State → State → Reply → Type 0) (scripts : List (List Call)) (opening : State) where
  -- behind these calls, made in this order, the call is next and has the reply
  abbrev pub HasBehind : List CallId → CallId → Reply → Type 0
  HasBehind behind id reply =
      (c : Configuration State) × (d : Configuration State) × Leads Effect scripts (start Effect scripts opening) behind c × IsStep Effect scripts c id reply d

  -- these are exactly the replies that the call may have, each once, and it has each behind the calls that are told with it
  pub record AreRepliesTold (id : CallId) (replies : List (Told Reply)) : Type 0 where
    pub had : (k : ℕ) (told : Told Reply) → slice_get replies k ≡ Some told → ∥ HasBehind told.behind id told.reply ∥₁
    pub every : (reply : Reply) → IsPossible Effect scripts opening id reply → Contains (map reply_told replies) reply
    pub once : (j k : ℕ) (reply : Reply) → slice_get (map reply_told replies) j ≡ Some reply → slice_get (map reply_told replies) k ≡ Some reply → j ≡ k

  -- so it is of each of these calls
  abbrev pub AreCallsTold : List (CallTold Reply) → Type 0
  AreCallsTold calls = (k : ℕ) (told : CallTold Reply) → slice_get calls k ≡ Some told → ∥ AreRepliesTold told.id told.replies ∥₁

-- what is kept of a state is the state
abbrev pub IsItself : {State : Type 0} → State → State → Type 0
IsItself state kept = state ≡ kept

-- Is: what is kept stands for the state
module _ {State Kept Call Reply : Type 0} (Is : State → Kept → Type 0) (Effect : Call → State → State → Reply → Type 0) (scripts : List (List Call)) (opening : State) where
  -- the order that is told with a state leads to it, with all calls made
  pub record EndsSo (end : End Kept) : Type 0 where
    pub last : State
    pub is : Is last end.state
    pub leads : Leads Effect scripts (start Effect scripts opening) end.order (full Effect scripts last)

  -- these are exactly the states in which all calls may end, each once, and each with an order that leads to it
  pub record AreEndsTold (ends : List (End Kept)) : Type 0 where
    pub each : (k : ℕ) (end : End Kept) → slice_get ends k ≡ Some end → ∥ EndsSo end ∥₁
    pub every : (last : State) → IsFinal Effect scripts opening last → (k : ℕ) × (end : End Kept) × (slice_get ends k ≡ Some end) × Is last end.state
    pub once : (j k : ℕ) (one other : End Kept) (last : State) → slice_get ends j ≡ Some one → slice_get ends k ≡ Some other → Is last one.state → Is last other.state → j ≡ k

  -- of each call of the scripts, by process and number, the replies that it may have, and the states in which all calls may end
  pub record AreOutcomes (calls : List (CallTold Reply)) (ends : List (End Kept)) : Type 0 where
    pub listed : map id_told calls ≡ calls_from 0 scripts
    pub replies : AreCallsTold Effect scripts opening calls
    pub states : ∥ AreEndsTold ends ∥₁
