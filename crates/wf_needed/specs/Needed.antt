-- Legal orders in which each open call is needed.
use Rattle.std.specs.Prelude.{◌≡◌, List, ◌∷◌, ◌++◌, Contains}
use Rattle.wf_history.specs.declared.event.CallId.{CallId}
use Rattle.wf_history.specs.History.{Event, End}
use Rattle.wf_history.specs.Legal.{IsLegal}

-- the call does not end
abbrev pub IsOpen : {Call Reply : Type 0} → List (Event Call Reply) → CallId → Type 0
IsOpen {Call} {Reply} history id = (reply : Reply) → ¬ Contains history (End id reply)

-- what is kept is the whole list, but for some items that may be left out
pub data LeavesOut {A : Type 0} (May : A → Type 0) (all : List A) : List A → Type 0 where
  nothing : {kept : List A} → kept ≡ all → LeavesOut May all kept
  one : {more kept : List A} (first rest : List A) (x : A) → LeavesOut May all more → more ≡ first ++ x ∷ rest → May x → kept ≡ first ++ rest → LeavesOut May all kept

-- No open call of the order can be left out: without it the order is not legal.
abbrev pub NoneIsNeedless : {State Call Reply : Type 0} → (Call → State → State → Reply → Type 0) → State → List (Event Call Reply) → List CallId → Type 0
NoneIsNeedless {State} Effect opening history order =
    (first rest : List CallId) (id : CallId) (last : State) → order ≡ first ++ id ∷ rest → IsOpen history id → ¬ IsLegal Effect opening history (first ++ rest) last
