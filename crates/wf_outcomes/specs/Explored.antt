-- What an exploration finds.
use Rattle.std.specs.Prelude.{◌≡◌, ◌++◌, ℕ, ◌+◌, ◌<◌, ◌≤◌, List, [], ◌∷◌, map, length, slice_get, Option, Some, Contains, ◌⊎◌, option_map, Vec}
use Rattle.std.specs.HashSet.{HashSet}
use Rattle.ob_interface.specs.Call.{ObjectCall}
use Rattle.wf_history.specs.declared.event.CallId.{CallId}
use Rattle.wf_history.specs.declared.kept.KeptCall.{KeptCall}
use Rattle.wf_history.specs.View.{kept_call}
use Rattle.wf_outcomes.specs.declared.seen.Found as Rust
use Rattle.wf_outcomes.specs.RememberedCalls.{IsStated}
use Rattle.wf_outcomes.specs.Merges.{Configuration, total, IsStep, start, IsReached}

-- a configuration that was found, and by a call of which process it was first reached from which place
pub record Kept (State : Type 0) : Type 0 where
  pub here : Configuration State
  pub from : ℕ
  pub by : ℕ

abbrev pub kept_in : {State Meaning : Type 0} → (State → Meaning) → Rust.Found State → Kept Meaning
kept_in meaning f = record { here = record { counts = f.counts.items; state = meaning f.kept.value.state }; from = f.from; by = f.by }

abbrev pub all_kept : {State Meaning S : Type 0} → (State → Meaning) → HashSet (Rust.Found State) S → List (Kept Meaning)
all_kept meaning seen = map (kept_in meaning) seen.keys

-- the state of the configuration at a place, if there is one
abbrev pub state_at : {State : Type 0} → List (Kept State) → ℕ → Option State
state_at found place = option_map (λ e. e.here.state) (slice_get found place)

abbrev pub IsFound : {State : Type 0} → List (Kept State) → Configuration State → Type 0
IsFound {State} found c = (k : ℕ) × (e : Kept State) × (slice_get found k ≡ Some e) × (e.here ≡ c)

-- the words that are kept are those of the state
abbrev pub IsWorded : {State Meaning : Type 0} → (State → Meaning) → (Meaning → List ℕ) → Rust.Found State → Type 0
IsWorded meaning words_of found = IsStated meaning words_of found.kept.value

abbrev pub AreWorded : {State Meaning S : Type 0} → (State → Meaning) → (Meaning → List ℕ) → HashSet (Rust.Found State) S → Type 0
AreWorded {State} meaning words_of seen = (found : Rust.Found State) → Contains seen.keys found → IsWorded meaning words_of found

-- the calls of scripts
abbrev pub calls_in : {A : Type 0} → List (Vec KeptCall A) → List (List ObjectCall)
calls_in scripts = map (λ s. map kept_call s.items) scripts

module _ {State Call Reply : Type 0} (Effect : Call → State → State → Reply → Type 0) (scripts : List (List Call)) where
  -- no call of the process is next
  abbrev pub HasNoStep : Configuration State → ℕ → Type 0
  HasNoStep c process = (id : CallId) (reply : Reply) (d : Configuration State) → id.process ≡ process → IsStep Effect scripts c id reply d → ⊥

  -- this is the one step by a call of the process
  pub record IsOnlyStep (c : Configuration State) (process : ℕ) (d : Configuration State) : Type 0 where
    pub id : CallId
    pub reply : Reply
    pub own : id.process ≡ process
    pub step : IsStep Effect scripts c id reply d
    pub only : (other : CallId) (r : Reply) (e : Configuration State) → other.process ≡ process → IsStep Effect scripts c other r e → e ≡ d

  -- and it has this reply
  abbrev pub IsOnlyStepWith : Configuration State → ℕ → Reply → Configuration State → Type 0
  IsOnlyStepWith c process reply d = (only : IsOnlyStep c process d) × (only.reply ≡ reply)

  -- a call of its process leads there from its earlier place
  pub record IsOrigin (found : List (Kept State)) (k : ℕ) (e : Kept State) : Type 0 where
    pub before : Kept State
    pub earlier : e.from < k
    pub there : slice_get found e.from ≡ Some before
    pub id : CallId
    pub reply : Reply
    pub own : id.process ≡ e.by
    pub step : IsStep Effect scripts before.here id reply e.here

  -- All steps from configurations before a place are gone, and from that place those by processes below the next one.
  pub record IsExploring (opening : State) (found : List (Kept State)) (place next : ℕ) : Type 0 where
    pub first : Kept State
    pub begun : slice_get found 0 ≡ Some first
    pub opens : first.here ≡ start Effect scripts opening
    pub reached : (k : ℕ) (e : Kept State) → slice_get found k ≡ Some e → IsReached Effect scripts opening e.here
    pub came : (k : ℕ) (e : Kept State) → 0 < k → slice_get found k ≡ Some e → IsOrigin found k e
    pub once : (j k : ℕ) (e f : Kept State) → slice_get found j ≡ Some e → slice_get found k ≡ Some f → e.here ≡ f.here → j ≡ k
    pub sorted : (j k : ℕ) (e f : Kept State) → j ≤ k → slice_get found j ≡ Some e → slice_get found k ≡ Some f → total e.here.counts ≤ total f.here.counts
    pub near : (k : ℕ) (e f : Kept State) → slice_get found place ≡ Some e → slice_get found k ≡ Some f → total f.here.counts ≤ total e.here.counts + 1
    pub sizes : (k : ℕ) (e : Kept State) → slice_get found k ≡ Some e → length e.here.counts ≡ length scripts
    pub closed : (j : ℕ) (e : Kept State) (id : CallId) (reply : Reply) (d : Configuration State) → slice_get found j ≡ Some e → IsStep Effect scripts e.here id reply d →
        (j < place) ⊎ ((j ≡ place) × (id.process < next)) → IsFound found d

  -- Exactly the configurations that can be reached, each once, in the order of how many calls are made. Each but the first
  -- one is reached by a call from one before it.
  pub record IsExplored (opening : State) (found : List (Kept State)) : Type 0 where
    pub first : Kept State
    pub begun : slice_get found 0 ≡ Some first
    pub opens : first.here ≡ start Effect scripts opening
    pub reached : (k : ℕ) (e : Kept State) → slice_get found k ≡ Some e → IsReached Effect scripts opening e.here
    pub complete : (c : Configuration State) → IsReached Effect scripts opening c → IsFound found c
    pub once : (j k : ℕ) (e f : Kept State) → slice_get found j ≡ Some e → slice_get found k ≡ Some f → e.here ≡ f.here → j ≡ k
    pub came : (k : ℕ) (e : Kept State) → 0 < k → slice_get found k ≡ Some e → IsOrigin found k e
    pub breadth : (j k : ℕ) (e f : Kept State) → j ≤ k → slice_get found j ≡ Some e → slice_get found k ≡ Some f → total e.here.counts ≤ total f.here.counts

  -- more than so many configurations can be reached: here is a list of them, none twice
  pub record HasMore (opening : State) (most : ℕ) : Type 0 where
    pub some : List (Configuration State)
    pub many : most < length some
    pub reached : (k : ℕ) (c : Configuration State) → slice_get some k ≡ Some c → IsReached Effect scripts opening c
    pub once : (j k : ℕ) (c : Configuration State) → slice_get some j ≡ Some c → slice_get some k ≡ Some c → j ≡ k

-- what an arrival makes of what was found: it was there already, or it is one more
abbrev pub IsArrival : {State : Type 0} → (found more : List (Kept State)) → Kept State → Type 0
IsArrival found more e = (IsFound found e.here × (more ≡ found)) ⊎ ((IsFound found e.here → ⊥) × (more ≡ found ++ e ∷ []))
