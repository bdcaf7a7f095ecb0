-- What a search has found so far.
use Rattle.std.specs.Prelude.{◌≡◌, ℕ, zero, suc, ◌+◌, ◌-◌, ◌*◌, ◌<◌, ◌≤◌, List, [], ◌∷◌, ◌++◌, map, length, get_or, slice_get, Option, Some, None, Bool, true, false, Contains, ◌⊎◌}
use Rattle.std.proofs.Common.{take}
use Rattle.wf_history.specs.declared.event.CallId.{CallId}
use Rattle.ob_interface.specs.Call.{ObjectCall, Reply}
use Rattle.wf_history.specs.History.{Event, Begin}
use Rattle.wf_history.specs.Legal.{IsLegal}
use Rattle.wf_history.specs.View.{seen_call}
use Rattle.ob_interface.specs.View.{reply_of}
use Rattle.std.specs.HashSet.{HashSet}
use Rattle.wf_order.specs.declared.search.Answer.{Answer}
use Rattle.wf_order.specs.declared.search.Answer.TheVariants as Answers
use Rattle.wf_order.specs.declared.search.Frame.{Frame}
use Rattle.wf_order.specs.declared.step.Here.{Here}
use Rattle.wf_order.specs.declared.step.Made.{Made}
use Rattle.wf_order.specs.declared.step.Silent.{Silent}
use Rattle.wf_order.specs.declared.step.Silent.TheVariants as Silents
use Rattle.wf_order.specs.declared.rows.Begun.{Begun}
use Rattle.wf_order.specs.declared.rows.Ended.{Ended}
use Rattle.wf_order.specs.declared.kept_rows.Rows.{Rows}
use Rattle.wf_order.specs.declared.seen.Found as Rust
use Rattle.wf_order.specs.Rows.{AreAt, AreRows, begun_rows, call_at, row_of}
use Rattle.wf_order.specs.Rules.{IsAnswered, IsReading, IsSilent, Passes}
use Rattle.wf_order.specs.Steps.{Configuration, IsLimit, IsStep, Leads, IsDone, one_more, start_at}
use Rattle.wf_order.specs.Turns.{BeginsFrom, turns}
use Rattle.wf_order.specs.Verdict.{HasLegal, HasMore}

-- a configuration that is kept, as the definitions see it
abbrev pub found_in : {State Meaning : Type 0} → (State → Meaning) → Rust.Found State → Configuration Meaning
found_in meaning c = record { counts = c.counts.items; state = meaning c.state }

abbrev pub all_found : {State Meaning S : Type 0} → (State → Meaning) → HashSet (Rust.Found State) S → List (Configuration Meaning)
all_found meaning seen = map (found_in meaning) seen.keys

-- the words that are kept are those of the state
abbrev pub IsWorded : {State Meaning : Type 0} → (State → Meaning) → (Meaning → List ℕ) → Rust.Found State → Type 0
IsWorded meaning words_of found = found.words.items ≡ words_of (meaning found.state)

abbrev pub AreWorded : {State Meaning S : Type 0} → (State → Meaning) → (Meaning → List ℕ) → HashSet (Rust.Found State) S → Type 0
AreWorded {State} meaning words_of seen = (found : Rust.Found State) → Contains seen.keys found → IsWorded meaning words_of found

-- a configuration of a history that stands in these rows, with its limit
abbrev pub IsAt : {State : Type 0} → List (Event ObjectCall Reply) → Rows → Here State → Type 0
IsAt history rows here = AreRows history (length here.found.now.counts.items) rows × IsLimit history here.found.now.counts.items here.limit

-- the counts of what is kept
abbrev pub all_counts : {State S : Type 0} → HashSet (Rust.Found State) S → List (List ℕ)
all_counts seen = map (λ f. f.counts.items) seen.keys

-- the item stands before this place
abbrev pub IsBeforePlace : {A : Type 0} → List A → ℕ → A → Type 0
IsBeforePlace items place item = (at : ℕ) × (slice_get items at ≡ Some item) × (at < place)

-- there are the old ones, and there may be more behind them
abbrev pub IsGrown : {A : Type 0} → List A → List A → Type 0
IsGrown {A} old new = (more : List A) × (new ≡ old ++ more)

-- the calls that the frames are at
abbrev pub ids_of : List Frame → List CallId
ids_of frames = map (λ f. f.id) frames

-- what a call made of a state
abbrev pub IsMade : {State Meaning : Type 0} → (State → Meaning) → (ObjectCall → Meaning → Meaning → Reply → Type 0) → Meaning → Made State → Type 0
IsMade meaning Effect before made = Effect (seen_call made.call) before (meaning made.state) (reply_of made.reply)

-- a silent call that may be taken is of one of so many processes
abbrev pub IsOfFirst : {S : Type 0} → ℕ → Silent S → Type 0
IsOfFirst processes (Silents.Step process state) = process < processes
IsOfFirst processes Silents.Never = Unit {0}

-- the next call of the process, with its end, may be taken
pub record MayBeTaken (rows : Rows) (counts : List ℕ) (limit process : ℕ) (begun : Begun) (ended : Ended) : Type 0 where
  pub within : process < length counts
  pub at : AreAt rows process (get_or counts process 0) begun ended
  pub early : begun.place < limit

-- the process has a next call
abbrev pub HasNext : Rows → List ℕ → ℕ → Type 0
HasNext rows counts process = (process < length counts) × (get_or counts process 0 < length (row_of (begun_rows rows) process))

module _ {State Call Reply : Type 0} (Effect : Call → State → State → Reply → Type 0) (history : List (Event Call Reply)) where
  -- no call of the process is next
  abbrev pub HasNoStep : Configuration State → ℕ → Type 0
  HasNoStep c process = (id : CallId) (d : Configuration State) → id.process ≡ process → IsStep Effect history c id d → ⊥

  -- a step by a silent call
  abbrev pub IsSilentStep : Configuration State → CallId → Configuration State → Type 0
  IsSilentStep c id d = IsStep Effect history c id d × IsSilent Effect history id

  -- this is the one step by a call of the process
  pub record IsOnlyStep (c : Configuration State) (process : ℕ) (id : CallId) (d : Configuration State) : Type 0 where
    pub own : id.process ≡ process
    pub step : IsStep Effect history c id d
    pub only : (other : CallId) (e : Configuration State) → other.process ≡ process → IsStep Effect history c other e → e ≡ d

  -- the next call of the process leads to this state, and no other step of the process leads elsewhere
  abbrev pub IsNextStep : Configuration State → ℕ → State → Type 0
  IsNextStep c process after = IsOnlyStep c process (call_at process (get_or c.counts process 0)) (one_more c.counts process after)

  -- the next call of the process is silent, and leads to this state
  abbrev pub IsSilentNext : Configuration State → ℕ → State → Type 0
  IsSilentNext c process after = IsSilentStep c (call_at process (get_or c.counts process 0)) (one_more c.counts process after)

  -- a silent call is next, and leads where it is told
  abbrev pub IsSilentFound : {S : Type 0} → (S → State) → Configuration State → Silent S → Type 0
  IsSilentFound meaning c (Silents.Step process state) = IsSilentNext c process (meaning state)
  IsSilentFound meaning c Silents.Never = Unit {0}

  -- each step by a call of the process was tried, or need not be
  abbrev pub AreAnswered : List (Configuration State) → Configuration State → ℕ → Type 0
  AreAnswered found c process = (id : CallId) (d : Configuration State) → id.process ≡ process → IsStep Effect history c id d → IsAnswered Effect history found c id d

  -- the same of those whose calls begin at a place or behind it
  abbrev pub AreAllAnswered : List (Configuration State) → Configuration State → ℕ → Type 0
  AreAllAnswered found c from = (id : CallId) (d : Configuration State) → IsStep Effect history c id d → BeginsFrom history from id → IsAnswered Effect history found c id d

  -- and of those whose calls begin from the one place up to the other
  abbrev pub AreCovered : List (Configuration State) → Configuration State → (from next : ℕ) → Type 0
  AreCovered found c from next =
      (id : CallId) (d : Configuration State) (call : Call) (begun : ℕ) → slice_get history begun ≡ Some (Begin id call) → from ≤ begun → begun < next → IsStep Effect history c id d → IsAnswered Effect history found c id d

  -- The step is the next to be tried: those whose calls begin from the one place up to the other were tried, or need not be, or
  -- lead there too.
  pub record IsAttempt (rows : Rows) (found : List (Configuration State)) (c : Configuration State) (from next : ℕ) (id : CallId) (d : Configuration State) : Type 0 where
    pub step : IsStep Effect history c id d
    pub fewer : turns next (begun_rows rows) c.counts + 1 ≤ turns from (begun_rows rows) c.counts
    pub covers : (other : CallId) (e : Configuration State) (call : Call) (begun : ℕ) → slice_get history begun ≡ Some (Begin other call) → from ≤ begun → begun < next → IsStep Effect history c other e →
        IsAnswered Effect history found c other e ⊎ (e ≡ d)

  -- the step by the next call of the process, to this state, is the next to be tried
  abbrev pub IsTry : Rows → List (Configuration State) → Configuration State → (from next process : ℕ) → State → Type 0
  IsTry rows found c from next process after = IsAttempt rows found c from next (call_at process (get_or c.counts process 0)) (one_more c.counts process after)

  -- That step is tried; or it is a silent one, in place of all others, so that nothing is left to be tried before the limit.
  abbrev pub IsChoice : Rows → List (Configuration State) → Configuration State → (from limit next process : ℕ) → State → Type 0
  IsChoice rows found c from limit next process after = IsTry rows found c from next process after ⊎ (IsSilentNext c process after × (from ≡ 0) × (next ≡ limit))

  -- the calls lead from the start to the configuration, or, where that is not asked, some calls do
  abbrev pub IsLed : Bool → Configuration State → List CallId → Configuration State → Type 0
  IsLed true start ids c = Leads Effect history start ids c
  IsLed false start ids c = (path : List CallId) × Leads Effect history start path c

  -- calls lead to configurations, and steps lead on
  abbrev pub LeadsOn : (List CallId → Configuration State → Type 0) → Type 0
  LeadsOn Led = (ids : List CallId) (c d : Configuration State) (id : CallId) → Led ids c → IsStep Effect history c id d → Led (ids ++ id ∷ []) d

  -- Each configuration that was found can be reached, and none is done. Each step from one of them leads to one of them or
  -- need not be tried, unless a frame has still to try it.
  pub record IsSearch (processes : ℕ) (Led : List CallId → Configuration State → Type 0) (start : Configuration State) (found : List (Configuration State)) (stack : List Frame) : Type 0 where
    pub start_found : Contains found start
    pub sizes : (c : Configuration State) → Contains found c → length c.counts ≡ processes
    pub places : (f : Frame) → Contains stack f → f.place < length found
    -- of a frame that has something left to be tried
    pub led : (k : ℕ) (f : Frame) → slice_get stack k ≡ Some f → f.next < length history →
        (c : Configuration State) × (slice_get found f.place ≡ Some c) × Led (ids_of (take k stack)) c × IsLimit history c.counts f.limit
    pub reached : (c : Configuration State) → Contains found c → (ids : List CallId) × Led ids c
    pub not_done : (c : Configuration State) → Contains found c → ¬ IsDone Effect history c
    pub next : (c d : Configuration State) (id : CallId) → Contains found c → IsStep Effect history c id d →
        IsAnswered Effect history found c id d ⊎ ((f : Frame) × Contains stack f × (slice_get found f.place ≡ Some c) × BeginsFrom history f.next id)

  -- the next call of the process only reads, and may be taken
  abbrev pub IsReadingNext : Configuration State → ℕ → Type 0
  IsReadingNext c process =
      IsStep Effect history c (call_at process (get_or c.counts process 0)) (one_more c.counts process c.state)
      × IsReading Effect history (call_at process (get_or c.counts process 0))

  -- Calls that only read lead from the first configuration to the second. A frame for each is on the stack, at this place, and has
  -- nothing left to be tried.
  pub record IsPassed (place : ℕ) (c d : Configuration State) (stack new : List Frame) : Type 0 where
    pub frames : List Frame
    pub pushed : new ≡ stack ++ frames
    pub past : (f : Frame) → Contains frames f → (f.place ≡ place) × (length history ≤ f.next)
    pub passes : Passes Effect history c (ids_of frames) d

  -- what an arrival at a configuration makes of what was found: a path, or nothing
  abbrev pub IsArrival : Configuration State → (found more : List (Configuration State)) → (stack new : List Frame) → Option (List CallId) → Type 0
  IsArrival d found more stack new (Some path) = (path ≡ ids_of stack) × IsDone Effect history d
  IsArrival d found more stack new None =
      (¬ IsDone Effect history d)
      × ((Contains found d × (more ≡ found) × (new ≡ stack))
      ⊎ ((more ≡ found ++ d ∷ []) × (f : Frame) × (new ≡ stack ++ f ∷ []) × (f.place ≡ length found) × (f.next ≡ 0) × IsLimit history d.counts f.limit))

-- how many calls are not taken, where each process has begun so many
abbrev pub left : List ℕ → List ℕ → ℕ
left [] counts = 0
left (n ∷ lengths) [] = n + left lengths []
left (n ∷ lengths) (c ∷ counts) = (n - c) + left lengths counts

-- what one try may cost, where so many calls are left
abbrev pub try_cost : ℕ → ℕ → ℕ
try_cost n zero = 1
try_cost n (suc r) = 2 + n * try_cost n r

-- what is left of a frame, where those found have these counts
abbrev pub weight : ℕ → List (List Begun) → List (List ℕ) → Frame → ℕ
weight n rows counted f = 1 + turns f.next rows (row_of counted f.place) * try_cost n (left (map length rows) (row_of counted f.place))

abbrev pub weights : ℕ → List (List Begun) → List (List ℕ) → List Frame → ℕ
weights n rows counted [] = 0
weights n rows counted (f ∷ fs) = weight n rows counted f + weights n rows counted fs

-- a bound on the work that is left
unfoldable pub work : {State : Type 0} → ℕ → Rows → List (Configuration State) → List Frame → ℕ
work processes rows found stack = weights processes (begun_rows rows) (map (λ c. c.counts) found) stack

-- what a search answers: a legal order, that there is none, or that there is more than the most to be looked at, which is
-- less than one try may cost
abbrev pub IsAnswer : {M : Type 0} → (ObjectCall → M → M → Reply → Type 0) → M → List (Event ObjectCall Reply) → (processes most : ℕ) → Answer → Type 0
IsAnswer {M} Effect opening history processes most (Answers.Order order) = (last : M) × IsLegal Effect opening history order.items last
IsAnswer Effect opening history processes most Answers.NoOrder = ¬ HasLegal Effect opening history
IsAnswer Effect opening history processes most Answers.TooMany = HasMore Effect opening history processes most × (most < try_cost processes (length history + 1))

-- the search of a history is over, and found this
abbrev pub IsWholeSearch : {M : Type 0} → (ObjectCall → M → M → Reply → Type 0) → M → List (Event ObjectCall Reply) → ℕ → List (Configuration M) → Type 0
IsWholeSearch Effect opening history processes found =
    IsSearch Effect history processes (IsLed Effect history true (start_at processes opening)) (start_at processes opening) found []
