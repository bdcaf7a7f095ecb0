-- Calls that end within a limit of steps, wherever the others may have led.
use Rattle.std.specs.Prelude.{◌≡◌, ℕ, ◌-◌, ◌<◌, true, ℤ, List, Contains, Some, slice_get}
use Rattle.ob_interface.specs.Call.{ObjectCall, Reply}
use Rattle.wf_history.specs.declared.event.CallId.{CallId}
use Rattle.wf_history.specs.Legal.{NoRepeats, OneAtATime}
use Rattle.wf_table.specs.Meaning.{Meaning, is_over, body}
use Rattle.wf_table.specs.Law.{Effects}

-- the body of a call on a block is over after at most that many steps, the last one counted
abbrev pub EndsWithin : {Run : Type 0} → Meaning Run → ℕ → List ℤ → ObjectCall → Type 0
EndsWithin m limit block call = is_over (body m limit block call).turn ≡ true

-- of the processes' scripts; a process's calls are numbered from 1
abbrev pub IsCallOf : (ℕ → List ObjectCall) → CallId → ObjectCall → Type 0
IsCallOf scripts id call = (0 < id.number) × (slice_get (scripts id.process) (id.number - 1) ≡ Some call)

-- other calls of the scripts, none of them twice, lead from the opening block to this one
pub record IsReachedWithout (Effect : Effects) (scripts : ℕ → List ObjectCall) (opening : List ℤ) (id : CallId) (block : List ℤ) : Type 0 where
  pub others : List CallId
  pub once : NoRepeats others
  pub without : ¬ Contains others id
  pub replies : List Reply
  pub made : OneAtATime (IsCallOf scripts) Effect opening others replies block

-- each call, on each block that is reached without it
pub record AllEndWithin {Run : Type 0} (m : Meaning Run) (Effect : Effects) (scripts : ℕ → List ObjectCall) (opening : List ℤ) (limit : ℕ) : Type 0 where
  pub ends : (id : CallId) (call : ObjectCall) (block : List ℤ) → IsCallOf scripts id call → IsReachedWithout Effect scripts opening id block → EndsWithin m limit block call
