-- Runs of scripts, and what their legal orders are.
use Rattle.std.specs.Prelude.{◌≡◌, ℕ, ◌+◌, ◌-◌, ◌<◌, List, [], ◌∷◌, get_or, slice_get, Some, Contains}
use Rattle.wf_history.specs.declared.event.CallId.{CallId}
use Rattle.wf_history.specs.History.{Event, Begin, Applied, End, IsHistory}
use Rattle.wf_history.specs.Legal.{HasBegun, IsLegal}
use Rattle.wf_outcomes.specs.Merges.{Leads, start, full, IsPossible}

-- Each call that begins is the one that the script of its process has under its number, and each call of the scripts ends.
pub record IsRunOfScripts {Call Reply : Type 0} (scripts : List (List Call)) (history : List (Event Call Reply)) : Type 0 where
  pub whole : IsHistory history
  pub begins : (id : CallId) (call : Call) → HasBegun history id call → (0 < id.number) × (slice_get (get_or scripts id.process []) (id.number - 1) ≡ Some call)
  pub ends : (process k : ℕ) (call : Call) → slice_get (get_or scripts process []) k ≡ Some call → (reply : Reply) × Contains history (End (record { process = process; number = k + 1 }) reply)

module _ {State Call Reply : Type 0} (Effect : Call → State → State → Reply → Type 0) (scripts : List (List Call)) (opening : State) where
  -- these calls are a merge of all calls, which leads to this state; and each reply of the history is one that its call may have
  pub record IsMerge (history : List (Event Call Reply)) (order : List CallId) (last : State) : Type 0 where
    pub leads : Leads Effect scripts (start Effect scripts opening) order (full Effect scripts last)
    pub replies : (id : CallId) (reply : Reply) → Contains history (End id reply) → IsPossible Effect scripts opening id reply

  abbrev pub LegalOrdersAreMerges : Type 0
  LegalOrdersAreMerges =
      (history : List (Event Call Reply)) (order : List CallId) (last : State) → IsRunOfScripts scripts history → IsLegal Effect opening history order last → IsMerge history order last

-- Each call begins, is applied and ends before the next one begins: they run alone, in this order.
pub data IsOneByOne {Call Reply : Type 0} : List CallId → List (Event Call Reply) → Type 0 where
  none : IsOneByOne [] []
  more : {ids : List CallId} {events : List (Event Call Reply)} (id : CallId) (call : Call) (reply : Reply) →
      IsOneByOne ids events → IsOneByOne (id ∷ ids) (Begin id call ∷ Applied (id ∷ []) ∷ End id reply ∷ events)

module _ {State Call Reply : Type 0} (Effect : Call → State → State → Reply → Type 0) (scripts : List (List Call)) (opening : State) where
  -- a run of the scripts in which the calls run alone in this order, which is a legal order of it
  pub record IsRunAlone (order : List CallId) (last : State) (history : List (Event Call Reply)) : Type 0 where
    pub run : IsRunOfScripts scripts history
    pub alone : IsOneByOne order history
    pub legal : IsLegal Effect opening history order last

  -- each merge of all calls is the legal order of such a run
  abbrev pub MergesAreLegalOrders : Type 0
  MergesAreLegalOrders =
      (order : List CallId) (last : State) → Leads Effect scripts (start Effect scripts opening) order (full Effect scripts last) → (history : List (Event Call Reply)) × IsRunAlone order last history
