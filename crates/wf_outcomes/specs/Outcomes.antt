-- What is read from an exploration.
use Rattle.std.specs.Prelude.{◌≡◌, ℕ, ◌<◌, ◌≤◌, ◌++◌, List, [], ◌∷◌, map, length, slice_get, Some, Contains, ◌⊎◌}
use Rattle.wf_history.specs.declared.event.CallId.{CallId}
use Rattle.wf_outcomes.specs.Merges.{Configuration, IsStep, Leads, start, full, IsFinal, IsPossible, IsReached}
use Rattle.wf_outcomes.specs.Explored.{HasNoStep, Kept}

-- a reply, and the place of a configuration at which a call has it
pub record Had (Reply : Type 0) : Type 0 where
  pub reply : Reply
  pub place : ℕ

abbrev pub reply_had : {Reply : Type 0} → Had Reply → Reply
reply_had had = had.reply

module _ {State Call Reply : Type 0} (Effect : Call → State → State → Reply → Type 0) (scripts : List (List Call)) (opening : State) (found : List (Kept State)) where
  -- the states at these places are exactly the final ones, each once
  pub record AreFinals (places : List ℕ) : Type 0 where
    pub final : (n k : ℕ) → slice_get places n ≡ Some k → (e : Kept State) × (slice_get found k ≡ Some e) × (e.here ≡ full Effect scripts e.here.state) × IsFinal Effect scripts opening e.here.state
    pub every : (last : State) → IsFinal Effect scripts opening last → (n : ℕ) × (k : ℕ) × (e : Kept State) × (slice_get places n ≡ Some k) × (slice_get found k ≡ Some e) × (e.here.state ≡ last)
    pub once : (m n j k : ℕ) (e f : Kept State) → slice_get places m ≡ Some j → slice_get places n ≡ Some k → slice_get found j ≡ Some e → slice_get found k ≡ Some f → e.here.state ≡ f.here.state → m ≡ n

  -- the calls lead to the configuration at the place
  abbrev pub LeadsToPlace : List CallId → ℕ → Type 0
  LeadsToPlace path place = (e : Kept State) × (slice_get found place ≡ Some e) × Leads Effect scripts (start Effect scripts opening) path e.here

  -- the calls lead to the place, where the property fails, and no fewer calls lead to where it fails
  pub record IsFirstBad (IsGood : State → Type 0) (place : ℕ) (path : List CallId) : Type 0 where
    pub it : Kept State
    pub there : slice_get found place ≡ Some it
    pub fails : ¬ IsGood it.here.state
    pub leads : Leads Effect scripts (start Effect scripts opening) path it.here
    pub shortest : (ids : List CallId) (c : Configuration State) → Leads Effect scripts (start Effect scripts opening) ids c → ¬ IsGood c.state → length path ≤ length ids

  -- the call has the reply at the configuration at the place
  pub record IsHad (id : CallId) (had : Had Reply) : Type 0 where
    pub it : Kept State
    pub there : slice_get found had.place ≡ Some it
    pub reached : IsReached Effect scripts opening it.here
    pub after : Configuration State
    pub step : IsStep Effect scripts it.here id had.reply after

  -- these are exactly the replies that the call may have, each once, and of each a place at which the call has it
  pub record AreReplies (id : CallId) (replies : List (Had Reply)) : Type 0 where
    pub had : (k : ℕ) (h : Had Reply) → slice_get replies k ≡ Some h → IsHad id h
    pub every : (reply : Reply) → IsPossible Effect scripts opening id reply → Contains (map reply_had replies) reply
    pub once : (j k : ℕ) (reply : Reply) → slice_get (map reply_had replies) j ≡ Some reply → slice_get (map reply_had replies) k ≡ Some reply → j ≡ k

module _ {State Call Reply : Type 0} (Effect : Call → State → State → Reply → Type 0) (scripts : List (List Call)) (found : List (Kept State)) where
  -- at the configuration at the place no call of the process is next
  abbrev pub IsAtEnd : (place process : ℕ) → Type 0
  IsAtEnd place process = (e : Kept State) → slice_get found place ≡ Some e → HasNoStep Effect scripts e.here process

  -- from the configuration at the place the next call of the process leads to the one at the other place, with this reply
  pub record LeadsOn (place process : ℕ) (reply : Reply) (to : ℕ) : Type 0 where
    pub here : Kept State
    pub there : slice_get found place ≡ Some here
    pub after : Kept State
    pub at : slice_get found to ≡ Some after
    pub id : CallId
    pub own : id.process ≡ process
    pub step : IsStep Effect scripts here.here id reply after.here

-- the call is next, with this one reply
abbrev pub IsOnlyReply : {State Call Reply : Type 0} (Effect : Call → State → State → Reply → Type 0) (scripts : List (List Call)) → Configuration State → CallId → Reply → Type 0
IsOnlyReply {State} {Call} {Reply} Effect scripts c id reply =
    ((d : Configuration State) × IsStep Effect scripts c id reply d) × ((other : Reply) (e : Configuration State) → IsStep Effect scripts c id other e → other ≡ reply)

-- the call is not next, with no reply at all
abbrev pub HasNoReply : {State Call Reply : Type 0} (Effect : Call → State → State → Reply → Type 0) (scripts : List (List Call)) → Configuration State → CallId → Type 0
HasNoReply {State} {Call} {Reply} Effect scripts c id = (reply : Reply) (d : Configuration State) → ¬ IsStep Effect scripts c id reply d

-- one more reply, if it is new
abbrev pub IsAdded : {Reply : Type 0} → (replies more : List (Had Reply)) → Had Reply → Type 0
IsAdded replies more had =
    (Contains (map reply_had replies) had.reply × (more ≡ replies)) ⊎ ((¬ Contains (map reply_had replies) had.reply) × (more ≡ replies ++ had ∷ []))

-- the call, made on the state, has the reply
abbrev pub Answers : {State Call Reply : Type 0} → (Call → State → State → Reply → Type 0) → Call → Reply → State → Type 0
Answers {State} Effect call reply before = (after : State) × Effect call before after reply

-- the property holds in each state between calls of each merge, whether all calls are made or not
abbrev pub AlwaysGood : {State Call Reply : Type 0} (Effect : Call → State → State → Reply → Type 0) (scripts : List (List Call)) → State → (State → Type 0) → Type 0
AlwaysGood {State} Effect scripts opening IsGood = (c : Configuration State) → IsReached Effect scripts opening c → IsGood c.state

-- it holds at each place below a bound
abbrev pub AreGood : {State : Type 0} → (State → Type 0) → List (Kept State) → (bound : ℕ) → Type 0
AreGood {State} IsGood found bound = (k : ℕ) (e : Kept State) → k < bound → slice_get found k ≡ Some e → IsGood e.here.state

-- it fails at the place, and holds at each place before it
abbrev pub IsFirstPlace : {State : Type 0} → (State → Type 0) → List (Kept State) → ℕ → Type 0
IsFirstPlace {State} IsGood found place =
    (e : Kept State) × (slice_get found place ≡ Some e) × (¬ IsGood e.here.state) × AreGood IsGood found place
