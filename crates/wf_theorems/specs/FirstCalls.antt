-- Calls of an order that are the first ones of a process's script.
use Rattle.std.specs.Prelude.{◌≡◌, ℕ, ◌+◌, ◌<◌, ◌≤◌, List, [], ◌∷◌, length, map, slice_get, Some, if◌then◌else◌, nat_eq, ℤ}
use Rattle.std.specs.List.{filter, range_with_len}
use Rattle.ob_interface.specs.Call.{ObjectCall, Reply}
use Rattle.wf_history.specs.declared.event.CallId.{CallId}
use Rattle.wf_history.specs.History.{Event, own_calls}
use Rattle.wf_history.specs.Legal.{HasBegun}
use Rattle.wf_table.specs.Runs.{Act, Steps, Submits, IsRun}
use Rattle.wf_table.specs.Object.{State, script_of}
use Rattle.wf_table.specs.Meaning.{Meaning}

-- the calls that these acts submit to a process, in order
abbrev pub submitted : ℕ → List Act → List ObjectCall
submitted p [] = []
submitted p (Steps k ∷ acts) = submitted p acts
submitted p (Submits k call ∷ acts) = if nat_eq k p then call ∷ submitted p acts else submitted p acts

-- the calls of a process among these, as they stand
abbrev pub own_ids : ℕ → List CallId → List CallId
own_ids p ids = filter (λ id. nat_eq id.process p) ids

-- the first so many calls of a process: numbers 1, 2 and so on
abbrev pub first_ids : ℕ → ℕ → List CallId
first_ids p count = map (λ number. record { process = p; number = number }) (range_with_len 1 count)

-- these are the first calls of a process's script, in turn, no more than the script has, and each of them began as the call of
-- its place. Of the calls that have begun at most one, the last, is not among them
pub record AreFirstCalls (p : ℕ) (script : List ObjectCall) (history : List (Event ObjectCall Reply)) (ids : List CallId) : Type 0 where
  pub in_turn : ids ≡ first_ids p (length ids)
  pub few : length ids ≤ length script
  pub began : (place : ℕ) (call : ObjectCall) → place < length ids → slice_get script place ≡ Some call → HasBegun history (record { process = p; number = place + 1 }) call
  pub most : length (own_calls p history) ≤ length ids + 1

module _ {Run : Type 0} (m : Meaning Run) (lawful : List ℤ → Type 0) (fits : ObjectCall → Type 0) (ready : Run → Type 0) where
  -- in every run the script of a process is what was submitted to it
  abbrev pub EveryScriptIsSubmitted : Type 0
  EveryScriptIsSubmitted =
      (n p : ℕ) (opening : List ℤ) (acts : List Act) (s : State Run) → p < n → IsRun m lawful fits ready n opening acts s →
      script_of s p ≡ submitted p acts

  -- in every run the calls of a process that stand in the order are the first ones of its script
  abbrev pub EveryOrderHasFirstCalls : Type 0
  EveryOrderHasFirstCalls =
      (n p : ℕ) (opening : List ℤ) (acts : List Act) (s : State Run) → p < n → IsRun m lawful fits ready n opening acts s →
      AreFirstCalls p (submitted p acts) s.records.history (own_ids p s.records.order)

  -- in every run of one process the order has the first calls of its script
  abbrev pub OrderOfOneHasFirstCalls : Type 0
  OrderOfOneHasFirstCalls =
      (opening : List ℤ) (acts : List Act) (s : State Run) → IsRun m lawful fits ready 1 opening acts s →
      AreFirstCalls 0 (submitted 0 acts) s.records.history s.records.order
