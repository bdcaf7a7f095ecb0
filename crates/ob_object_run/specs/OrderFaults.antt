-- Why a list of calls is no legal order of a history. The tests come in this order: each id is of a call that has
-- begun, and stands in the list once; each ended call stands in it; no call stands before one that ended before it
-- began; and then along the list the replies. Of each fault all that is tested before it is a part, so a history and
-- a list have one fault at most, want of memory aside.
use Rattle.std.specs.Prelude.{◌≡◌, ◌≢◌, ℕ, ◌<◌, ◌⊎◌, List, length, take, slice_get, Option, Some, Result, Contains, MatchOption, MatchResult}
use Rattle.ob_interface.specs.Call.{ObjectCall, Reply}
use Rattle.ob_typing.specs.Program.{Program}
use Rattle.ob_meaning.specs.ByPositionStore.{Activation}
use Rattle.wf_history.specs.declared.event.CallId.{CallId}
use Rattle.ob_object_run.specs.declared.order_checker.OrderFault.{OrderFault}
use Rattle.ob_object_run.specs.declared.order_checker.OrderFault.TheVariants as Faults
use Rattle.ob_object_run.specs.declared.event_places.Placed.{Placed}
use Rattle.wf_history.specs.History.{Event, Begin, Applied, End, Before}
use Rattle.wf_history.specs.Legal.{HasBegun, OneAtATime, RepliesAgree}
use Rattle.ob_object_run.specs.LegalOrder.{CallEnds}
use Rattle.ob_object_run.specs.Places.{BeginsTooLate}

-- the item stands at the first place of the list where the fact holds
pub record IsFirst {A : Type 0} (Fact : ℕ → A → Type 0) (items : List A) (item : A) : Type 0 where
  pub place : ℕ
  pub here : slice_get items place ≡ Some item
  pub holds : Fact place item
  pub earlier : (k : ℕ) (other : A) → k < place → slice_get items k ≡ Some other → ¬ Fact k other

-- the fact holds at no place of the list
abbrev pub IsNowhere : {A : Type 0} → (ℕ → A → Type 0) → List A → Type 0
IsNowhere {A} Fact items = (k : ℕ) (other : A) → slice_get items k ≡ Some other → ¬ Fact k other

-- the first call of the list that began after the end of one that stands behind it, if there is one
abbrev pub IsTooLateFound : List Placed → Option CallId → Type 0
IsTooLateFound placed found =
    MatchOption found (IsNowhere (BeginsTooLate placed) placed)
    (λ id. (x : Placed) × (x.id ≡ id) × IsFirst (BeginsTooLate placed) placed x)

-- the call that ends with the event, if one does
abbrev pub IsEndFound : {Call Reply : Type 0} → Event Call Reply → Option CallId → Type 0
IsEndFound {Call} {Reply} event found =
    MatchOption found ((id : CallId) (reply : Reply) → event ≡ End id reply → ⊥)
    (λ id. (reply : Reply) × (event ≡ End id reply))

module _ {Call Reply : Type 0} (history : List (Event Call Reply)) (order : List CallId) where
  -- the call at this place never began, or stands before it too
  abbrev pub IsUnknown : ℕ → CallId → Type 0
  IsUnknown place id = ((call : Call) → ¬ HasBegun history id call) ⊎ Contains (take place order) id

  -- here a call ends that the list lacks
  abbrev pub EndsUnlisted : ℕ → Event Call Reply → Type 0
  EndsUnlisted place (Begin id call) = ⊥
  EndsUnlisted place (Applied ids) = ⊥
  EndsUnlisted place (End id reply) = ¬ Contains order id

  -- the call at this place began after the end of one that stands behind it
  abbrev pub IsTooEarly : ℕ → CallId → Type 0
  IsTooEarly place id = (later : ℕ) × (other : CallId) × (place < later) × (slice_get order later ≡ Some other) × Before history other id

  -- each call of the list is known, each ended call is listed, and none stands too early
  pub record IsArranged : Type 0 where
    pub known : IsNowhere IsUnknown order
    pub listed : IsNowhere EndsUnlisted history
    pub in_time : IsNowhere IsTooEarly order

  -- this call ends first of those that the list lacks
  abbrev pub IsFirstUnlisted : CallId → Type 0
  IsFirstUnlisted id = (reply : Reply) × IsFirst EndsUnlisted history (End id reply)

  -- the call that ends first of those that the list lacks, if it lacks one
  abbrev pub IsUnlistedFound : Option CallId → Type 0
  IsUnlistedFound found = MatchOption found (IsNowhere EndsUnlisted history) IsFirstUnlisted

  -- what goes wrong before any call is made
  abbrev pub IsListFault : OrderFault → Type 0
  IsListFault (Faults.Unknown id) = IsFirst IsUnknown order id
  IsListFault (Faults.Missing id) = IsNowhere IsUnknown order × IsFirstUnlisted id
  IsListFault (Faults.TooEarly id) = IsNowhere IsUnknown order × IsNowhere EndsUnlisted history × IsFirst IsTooEarly order id
  IsListFault Faults.NoMemory = Unit {0}
  IsListFault (Faults.OtherReply id) = ⊥

module _ {State Call Reply : Type 0} (Effect : Call → State → State → Reply → Type 0) (opening : State) (history : List (Event Call Reply)) (order : List CallId) where
  -- the calls before this place, made one at a time, lead to this state, with the replies of the history
  pub record LeadsTo (place : ℕ) (state : State) : Type 0 where
    pub replies : List Reply
    pub made : OneAtATime (HasBegun history) Effect opening (take place order) replies state
    pub agree : RepliesAgree history (take place order) replies

  -- the call's turn comes in this state
  pub record IsNext (id : CallId) (call : Call) (state : State) : Type 0 where
    pub place : ℕ
    pub here : slice_get order place ≡ Some id
    pub begun : HasBegun history id call
    pub leads : LeadsTo place state

  -- the call ends with another reply than the history's
  pub record AnswersOtherwise (id : CallId) : Type 0 where
    pub call : Call
    pub before : State
    pub next : IsNext id call before
    pub after : State
    pub answer : Reply
    pub ends : Effect call before after answer
    pub reply : Reply
    pub ended : Contains history (End id reply)
    pub other : reply ≢ answer

-- of calls on the object of a program, each with a budget of turns
module _ (program : Program) (budget : ℕ) (opening : Activation) (history : List (Event ObjectCall Reply)) (order : List CallId) where
  -- all calls of the list, made one at a time, lead to this state, with the replies of the history
  abbrev pub AllLeadTo : Activation → Type 0
  AllLeadTo last = LeadsTo (CallEnds program budget) opening history order (length order) last

  -- what goes wrong along a list that is arranged
  abbrev pub IsReplayFault : OrderFault → Type 0
  IsReplayFault (Faults.OtherReply id) = AnswersOtherwise (CallEnds program budget) opening history order id
  IsReplayFault Faults.NoMemory = Unit {0}
  IsReplayFault (Faults.Unknown id) = ⊥
  IsReplayFault (Faults.Missing id) = ⊥
  IsReplayFault (Faults.TooEarly id) = ⊥

  -- what each fault says
  abbrev pub IsOrderFault : OrderFault → Type 0
  IsOrderFault (Faults.Unknown id) = IsListFault history order (Faults.Unknown id)
  IsOrderFault (Faults.Missing id) = IsListFault history order (Faults.Missing id)
  IsOrderFault (Faults.TooEarly id) = IsListFault history order (Faults.TooEarly id)
  IsOrderFault (Faults.OtherReply id) = IsArranged history order × IsReplayFault (Faults.OtherReply id)
  IsOrderFault Faults.NoMemory = Unit {0}

-- this fault is answered, want of memory aside
abbrev pub TellsFault : {T : Type 0} → Result T OrderFault → OrderFault → Type 0
TellsFault result fault = (fault ≡ Faults.NoMemory) ⊎ MatchResult result (λ _. ⊥) (λ e. (e ≡ fault) ⊎ (e ≡ Faults.NoMemory))
