-- Steps that a search need not try.
use Rattle.std.specs.Prelude.{◌≡◌, ℕ, ◌+◌, ◌<◌, List, [], ◌∷◌, length, get_or, slice_get, Option, Some, None, IfSome, Contains, ◌⊎◌}
use Rattle.wf_history.specs.declared.event.CallId.{CallId}
use Rattle.wf_history.specs.History.{Event, End, Before}
use Rattle.wf_history.specs.Legal.{HasBegun}
use Rattle.wf_order.specs.Steps.{Configuration, IsTaken, IsStep}

-- the call does not end
abbrev pub IsOpen : {Call Reply : Type 0} → List (Event Call Reply) → CallId → Type 0
IsOpen {Call} {Reply} history id = (reply : Reply) → ¬ Contains history (End id reply)

-- a has ended, and b ended later or not at all
pub record EndsFirst {Call Reply : Type 0} (history : List (Event Call Reply)) (a b : CallId) : Type 0 where
  pub place : ℕ
  pub reply : Reply
  pub at : slice_get history place ≡ Some (End a reply)
  pub later : (other : ℕ) (r : Reply) → slice_get history other ≡ Some (End b r) → place < other

-- a ends before b, which may be open; or both are open, and a is of the smaller process
pub data ComesFirst {Call Reply : Type 0} (history : List (Event Call Reply)) (a b : CallId) : Type 0 where
  ends : EndsFirst history a b → ComesFirst history a b
  open_ones : IsOpen history a → IsOpen history b → a.process < b.process → ComesFirst history a b

-- both have ended, with the same reply
pub record AreSameReplies {Call Reply : Type 0} (history : List (Event Call Reply)) (a b : CallId) : Type 0 where
  pub reply : Reply
  pub first : Contains history (End a reply)
  pub other : Contains history (End b reply)

-- An equal call of another process has the same reply, comes first, and may be taken as well.
pub record HasSooner {Call Reply : Type 0} (history : List (Event Call Reply)) (counts : List ℕ) (id : CallId) : Type 0 where
  pub sooner : CallId
  pub call : Call
  pub same : HasBegun history sooner call
  pub own : HasBegun history id call
  pub replies : AreSameReplies history sooner id
  pub first : ComesFirst history sooner id
  pub process : sooner.process < length counts
  pub number : sooner.number ≡ get_or counts sooner.process 0 + 1
  pub earlier : (a : CallId) → Before history a sooner → IsTaken counts a

-- two equal calls, of which a comes first
pub record AreAlike {Call Reply : Type 0} (history : List (Event Call Reply)) (a b : CallId) : Type 0 where
  pub call : Call
  pub same : HasBegun history a call
  pub own : HasBegun history b call
  pub first : ComesFirst history a b

-- among what was found, the first one stands before each place of the other one
pub record StandsBefore {State : Type 0} (found : List (Configuration State)) (first other : Configuration State) : Type 0 where
  pub place : ℕ
  pub at : slice_get found place ≡ Some first
  pub before : (k : ℕ) → slice_get found k ≡ Some other → place < k

-- the call is its process's next one, and all that ended before it began is taken
pub record MayCome {Call Reply : Type 0} (history : List (Event Call Reply)) (counts : List ℕ) (id : CallId) (call : Call) : Type 0 where
  pub begun : HasBegun history id call
  pub process : id.process < length counts
  pub number : id.number ≡ get_or counts id.process 0 + 1
  pub earlier : (a : CallId) → Before history a id → IsTaken counts a

-- made on the first state, a call does what it does when made on the second, and has the same reply
abbrev pub DoesSo : {State Reply : Type 0} → (State → State → Reply → Type 0) → State → State → Type 0
DoesSo {State} {Reply} Effect before behind = (after : State) (reply : Reply) → Effect behind after reply → Effect before after reply

module _ {State Call Reply : Type 0} (Effect : Call → State → State → Reply → Type 0) (history : List (Event Call Reply)) where
  -- the call has ended, and wherever it has the reply that it has in the history, it leaves the state as it is
  pub record IsSilent (id : CallId) : Type 0 where
    pub reply : Reply
    pub ended : Contains history (End id reply)
    pub leaves : (call : Call) (before after : State) → HasBegun history id call → Effect call before after reply → before ≡ after

  -- the call only reads: it leaves each state as it is, whatever its reply
  abbrev pub IsReading : CallId → Type 0
  IsReading id = (call : Call) (before after : State) (reply : Reply) → HasBegun history id call → Effect call before after reply → before ≡ after

  -- steps of these calls, in order, which all only read
  pub data Passes : Configuration State → List CallId → Configuration State → Type 0 where
    none_passed : {c : Configuration State} → Passes c [] c
    one_passed : {c d e : Configuration State} {id : CallId} {ids : List CallId} → IsStep Effect history c id d → IsReading id → Passes d ids e → Passes c (id ∷ ids) e

  -- the call has ended, with a reply that it does not have in the state
  pub record HasOther (before : State) (id : CallId) (call : Call) : Type 0 where
    pub reply : Reply
    pub ended : Contains history (End id reply)
    pub other : (after : State) → Effect call before after reply → ⊥

  -- what may come next from the configuration comes from the state too; or it only reads, and does not end or has another reply here
  abbrev pub IsSo : Configuration State → State → CallId → Call → Type 0
  IsSo c before id call = DoesSo (Effect call) before c.state ⊎ (IsReading id × (IsOpen history id ⊎ HasOther c.state id call))

  -- the calls of the process that may come next do
  abbrev pub AreSo : Configuration State → State → ℕ → Type 0
  AreSo c before process = (id : CallId) (call : Call) → id.process ≡ process → MayCome history c.counts id call → IsSo c before id call

  -- Among what was found, a configuration stands before this one from which one more call takes as many calls as the other one has taken, and
  -- whatever may come from the other one comes from there too. So it stands for the other one.
  pub record IsStoodFor (found : List (Configuration State)) (c other : Configuration State) : Type 0 where
    pub first : Configuration State
    pub stands : StandsBefore found first c
    pub id : CallId
    pub last : Configuration State
    pub step : IsStep Effect history first id last
    pub counts : last.counts ≡ other.counts
    pub so : (next : CallId) (call : Call) → MayCome history other.counts next call → IsSo other last.state next call

  -- from a configuration calls that only read lead to one that was found, or that one stands for which was found before it
  abbrev pub IsMet : List (Configuration State) → Configuration State → Configuration State → Type 0
  IsMet found c d = (ids : List CallId) × (to : Configuration State) × Passes d ids to × (Contains found to ⊎ IsStoodFor found c to)

  -- a silent call is next, and what it leads to was met
  pub record IsForced (found : List (Configuration State)) (c : Configuration State) : Type 0 where
    pub id : CallId
    pub to : Configuration State
    pub step : IsStep Effect history c id to
    pub silent : IsSilent id
    pub there : IsMet found c to

  -- another process's equal call, which comes first, may be taken as well
  pub record IsBehind (c : Configuration State) (id : CallId) : Type 0 where
    pub sooner : CallId
    pub to : Configuration State
    pub step : IsStep Effect history c sooner to
    pub call : Call
    pub same : HasBegun history sooner call
    pub own : HasBegun history id call
    pub first : ComesFirst history sooner id

  -- no step by a call of the process need be tried
  abbrev pub AreBehind : Configuration State → ℕ → Type 0
  AreBehind c process = (id : CallId) (d : Configuration State) → id.process ≡ process → IsStep Effect history c id d → IsBehind c id

  -- The call does not end. What may come next behind it leads to the same state without it; or it does not end either, and leaves
  -- the state as it is.
  pub record IsIdle (c : Configuration State) (id : CallId) (d : Configuration State) : Type 0 where
    pub opened : IsOpen history id
    pub without : (next : CallId) (e : Configuration State) → IsStep Effect history d next e →
        (IsOpen history next × (e.state ≡ d.state)) ⊎ ((f : Configuration State) × IsStep Effect history c next f × (f.state ≡ e.state))

  -- no step by a call of the process need be tried
  abbrev pub AreIdle : Configuration State → ℕ → Type 0
  AreIdle c process = (id : CallId) (d : Configuration State) → id.process ≡ process → IsStep Effect history c id d → IsIdle c id d

  -- the step was tried, or need not be
  abbrev pub IsAnswered : List (Configuration State) → Configuration State → CallId → Configuration State → Type 0
  IsAnswered found c id d = IsMet found c d ⊎ (IsForced found c ⊎ (IsBehind c id ⊎ IsIdle c id d))

  -- An open call of the one process leads from the configuration to the state. What the other process may do next behind it leads to
  -- the same state without it, or does not end either, and leaves the state as it is.
  abbrev pub IsAlike : Configuration State → ℕ → State → ℕ → Type 0
  IsAlike c by behind process = (id : CallId) (d : Configuration State) → id.process ≡ by → IsOpen history id → IsStep Effect history c id d → d.state ≡ behind →
      (next : CallId) (e : Configuration State) → next.process ≡ process → IsStep Effect history d next e →
      (IsOpen history next × (e.state ≡ d.state)) ⊎ ((f : Configuration State) × IsStep Effect history c next f × (f.state ≡ e.state))

-- what a call with this reply, if one is known, makes of the second state, it makes of the first one too
abbrev pub IsSameOutcome : {State Reply : Type 0} → (State → State → Reply → Type 0) → State → State → Option Reply → Type 0
IsSameOutcome {State} {Reply} Effect before behind known =
    (after : State) (reply : Reply) → Effect behind after reply → IfSome known (λ r. r ≡ reply) → (other : Reply) × Effect before after other × IfSome known (λ r. r ≡ other)

-- the state after a call, where its reply is the one that is known, if one is
abbrev pub IsOutcome : {State Reply : Type 0} → (State → State → Reply → Type 0) → State → Option Reply → Option State → Type 0
IsOutcome {State} {Reply} Effect before known (Some after) = (reply : Reply) × Effect before after reply × IfSome known (λ r. r ≡ reply)
IsOutcome {State} {Reply} Effect before known None = (after : State) × (reply : Reply) × Effect before after reply × (r : Reply) × (known ≡ Some r) × (r ≡ reply → ⊥)

-- where the first call has a reply, the second one has it in the same state
abbrev pub RepliesAlike : {State Reply : Type 0} → (Effect Own : State → State → Reply → Type 0) → Type 0
RepliesAlike {State} {Reply} Effect Own = (before after : State) (reply : Reply) → Effect before after reply → (own : State) × Own before own reply
