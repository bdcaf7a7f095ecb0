-- Fronts of merges, and whole merges.
use Rattle.std.specs.Prelude.{◌↔◌, List}
use Rattle.wf_history.specs.declared.event.CallId.{CallId}
use Rattle.wf_outcomes.specs.Merges.{Configuration, IsReached, CanComplete, IsPossible, IsInWhole}

module _ {State Call Reply : Type 0} (Effect : Call → State → State → Reply → Type 0) where
  -- each call has an outcome on each state
  abbrev pub IsTotal : Type 0
  IsTotal = (call : Call) (before : State) → (after : State) × (reply : Reply) × Effect call before after reply

  module _ (scripts : List (List Call)) (opening : State) where
    -- from each configuration that is reached calls lead on until all are made; and the replies that a call may have are those
    -- that it has in merges of all calls
    pub record AreCompleted : Type 0 where
      pub fronts : (c : Configuration State) → IsReached Effect scripts opening c → CanComplete Effect scripts c
      pub replies : (id : CallId) (reply : Reply) → IsPossible Effect scripts opening id reply ↔ IsInWhole Effect scripts opening id reply

    abbrev pub Completes : Type 0
    Completes = IsTotal → AreCompleted
