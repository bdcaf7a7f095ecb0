-- The whole object, one step of it, and runs.
use Rattle.std.specs.Prelude.{ℕ, ◌+◌, ℤ, List, [], ◌∷◌, ◌++◌, length, map, slice_get, slice_set, if◌then◌else◌, nat_lt, Option, Some, None, not, slice_index}
use Rattle.std.proofs.Common.{int_eq}
use Rattle.std.specs.List.{range_with_len, filter}
use Rattle.ll_cell.specs.Cell.{Cell, is_linked, block_of, own_of}
use Rattle.ob_interface.specs.declared.scalar.Scalar.{Scalar}
use Rattle.ob_interface.specs.Call.{ObjectCall, Reply}
use Rattle.wf_history.specs.declared.event.CallId.{CallId}
use Rattle.wf_history.specs.History.{Event, Begin, Applied, End}
use Rattle.wf_table.specs.declared.process.Label.{Label}
use Rattle.wf_table.specs.declared.process.Label.TheVariants.{Next, Post, Flip, Try, Link, Load, Store, Check1, Mine, Seen, Fetch, Check2, Save, Enter, Body, Undo, Keep, Commit, Read, Take, Give}
use Rattle.wf_table.specs.declared.process.Sizes.{Sizes}
use Rattle.wf_table.specs.declared.schedule.Turns.{Turns}
use Rattle.wf_table.specs.Labels.{at_next, at_flip}
use Rattle.wf_table.specs.Schedule.{counted}
use Rattle.wf_table.specs.Meaning.{Meaning, values_in}
use Rattle.wf_table.specs.StepTable.{Process, cell_after, row, own_block, toggle_in, open_call, call_at}

-- what was seen, the order, and who stepped; the history's length at each process's last FLIP, and for each block
-- its length behind the Applied event that last made it the root (0 where none did)
pub record Records : Type 0 where
  pub history : List (Event ObjectCall Reply)
  pub order : List CallId
  pub schedule : List Turns
  pub flip_marks : List ℕ
  pub root_marks : List ℕ

pub record State (Run : Type 0) : Type 0 where
  pub cell : Cell
  pub processes : List (Process Run)
  pub records : Records

abbrev pub order_after : List CallId → Option (Event ObjectCall Reply) → List CallId
order_after order None = order
order_after order (Some (Begin id call)) = order
order_after order (Some (Applied ids)) = order ++ ids
order_after order (Some (End id reply)) = order

abbrev pub history_after : List (Event ObjectCall Reply) → Option (Event ObjectCall Reply) → List (Event ObjectCall Reply)
history_after history None = history
history_after history (Some event) = history ++ event ∷ []

-- the block becomes the root with an Applied event
abbrev pub root_marks_after : List ℕ → ℕ → ℕ → Option (Event ObjectCall Reply) → List ℕ
root_marks_after marks block end None = marks
root_marks_after marks block end (Some (Begin id call)) = marks
root_marks_after marks block end (Some (Applied ids)) = slice_set marks block end
root_marks_after marks block end (Some (End id reply)) = marks

-- p, which owns the block, takes a step at the label, and this event is seen
abbrev pub noted : Records → ℕ → Label → ℕ → Option (Event ObjectCall Reply) → Records
noted r p l block event = record {
  history = history_after r.history event;
  order = order_after r.order event;
  schedule = counted r.schedule p;
  flip_marks = if at_flip l then slice_set r.flip_marks p (length r.history) else r.flip_marks;
  root_marks = root_marks_after r.root_marks block (length r.history + 1) event;
}

-- the processes whose toggles differ between two blocks, with their open calls
abbrev pub applied_ids : Sizes → List ℤ → List ℤ → List ℕ → List CallId
applied_ids z old new begun =
    map (λ q. record { process = q; number = slice_index begun q })
    (filter (λ q. not (int_eq (toggle_in z old q) (toggle_in z new q))) (range_with_len 0 z.processes))

module _ {Run : Type 0} where
  abbrev pub begun_of : List (Process Run) → List ℕ
  begun_of ps = map (λ q. q.begun) ps

  abbrev pub began : ℕ → Process Run → Option (Event ObjectCall Reply)
  began p q =
      if nat_lt q.begun (length q.calls)
      then Some (Begin (record { process = p; number = q.begun + 1 }) (call_at q q.begun))
      else None

  abbrev pub applied : Sizes → Cell → List (Process Run) → ℕ → Option (Event ObjectCall Reply)
  applied z c ps p = if is_linked c p then Some (Applied (applied_ids z (block_of c c.root) (own_block c p) (begun_of ps))) else None

  abbrev pub ended : Meaning Run → ℕ → Process Run → Option (Event ObjectCall Reply)
  ended m p q = Some (End (record { process = p; number = q.begun }) (m.reply (open_call q) q.replies))

  -- what is seen at a label
  abbrev pub event_at : Label → Meaning Run → Sizes → Cell → List (Process Run) → ℕ → Process Run → Option (Event ObjectCall Reply)
  event_at Next m z c ps p q = began p q
  event_at Post m z c ps p q = None
  event_at Flip m z c ps p q = None
  event_at Try m z c ps p q = None
  event_at Link m z c ps p q = None
  event_at Load m z c ps p q = None
  event_at Store m z c ps p q = None
  event_at Check1 m z c ps p q = None
  event_at Mine m z c ps p q = None
  event_at Seen m z c ps p q = None
  event_at Fetch m z c ps p q = None
  event_at Check2 m z c ps p q = None
  event_at Save m z c ps p q = None
  event_at Enter m z c ps p q = None
  event_at Body m z c ps p q = None
  event_at Undo m z c ps p q = None
  event_at Keep m z c ps p q = None
  event_at Commit m z c ps p q = applied z c ps p
  event_at Read m z c ps p q = None
  event_at Take m z c ps p q = None
  event_at Give m z c ps p q = ended m p q

  -- the process p, which stands at q, takes a step
  abbrev pub stepped : Meaning Run → Sizes → State Run → ℕ → Process Run → State Run
  stepped m z s p q = record {
    cell = cell_after s.cell p (row q.label m z s.cell p q).change;
    processes = slice_set s.processes p (row q.label m z s.cell p q).process;
    records = noted s.records p q.label (own_of s.cell p) (event_at q.label m z s.cell s.processes p q);
  }

  abbrev pub step_by : Meaning Run → Sizes → State Run → ℕ → Option (Process Run) → State Run
  step_by m z s p None = s
  step_by m z s p (Some q) = stepped m z s p q

  abbrev pub step_of : Meaning Run → Sizes → State Run → ℕ → State Run
  step_of m z s p = step_by m z s p (slice_get s.processes p)

  abbrev pub seen_by : Meaning Run → Sizes → Cell → List (Process Run) → ℕ → Option (Process Run) → Option (Event ObjectCall Reply)
  seen_by m z c ps p None = None
  seen_by m z c ps p (Some q) = event_at q.label m z c ps p q

  abbrev pub seen_of : Meaning Run → Sizes → Cell → List (Process Run) → ℕ → Option (Event ObjectCall Reply)
  seen_of m z c ps p = seen_by m z c ps p (slice_get ps p)

  abbrev pub submit_by : State Run → ℕ → ObjectCall → Option (Process Run) → State Run
  submit_by s p call None = s
  submit_by s p call (Some q) = record s { processes = slice_set s.processes p (record q { calls = q.calls ++ call ∷ [] }) }

  abbrev pub submit_of : State Run → ℕ → ObjectCall → State Run
  submit_of s p call = submit_by s p call (slice_get s.processes p)

  abbrev pub label_by : Option (Process Run) → Label
  label_by None = Next
  label_by (Some q) = q.label

  -- where a process stands
  abbrev pub label_of : State Run → ℕ → Label
  label_of s p = label_by (slice_get s.processes p)

  abbrev pub script_by : Option (Process Run) → List ObjectCall
  script_by None = []
  script_by (Some q) = q.calls

  -- the calls that were submitted to a process
  abbrev pub script_of : State Run → ℕ → List ObjectCall
  script_of s p = script_by (slice_get s.processes p)

-- what a step answers
pub data Answer : Type 0 where
  GoesOn : Answer
  Begins : (id : CallId) → Answer
  Replies : (id : CallId) (reply : Reply) → Answer
  Halts : Answer

abbrev pub answer_by : Label → Option (Event ObjectCall Reply) → Answer
answer_by l None = if at_next l then Halts else GoesOn
answer_by l (Some (Begin id call)) = Begins id
answer_by l (Some (Applied ids)) = GoesOn
answer_by l (Some (End id reply)) = Replies id reply

-- the values that an answer gives
abbrev pub values_answered : Answer → List Scalar
values_answered (Replies id reply) = values_in reply
values_answered _ = []

abbrev pub answer_of : {Run : Type 0} → Meaning Run → Sizes → State Run → ℕ → Answer
answer_of m z s p = answer_by (label_of s p) (seen_of m z s.cell s.processes p)
