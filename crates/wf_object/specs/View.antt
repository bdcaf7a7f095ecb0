-- What a machine and answers stand for: no pointers, and vectors as lists.
use Rattle.std.specs.Prelude.{ℕ, ℤ, List, take}
use Rattle.ll_cell.specs.Cell.{Cell, block_of}
use Rattle.ob_interface.specs.Call.{ObjectCall}
use Rattle.ob_interface.specs.View.{reply_of}
use Rattle.wf_records.specs.declared.records.StepOut.{StepOut}
use Rattle.wf_records.specs.declared.records.StepOut.TheVariants.{On, Began, Answered, Halted}
use Rattle.wf_records.specs.declared.records.Seen.{Seen}
use Rattle.wf_table.specs.declared.process.Sizes.{Sizes}
use Rattle.wf_table.specs.declared.process.Label.{Label}
use Rattle.wf_table.specs.declared.process.Registers.{Registers}
use Rattle.wf_table.specs.Object.{Records, State, Answer, GoesOn, Begins, Replies, Halts}
use Rattle.wf_table.specs.StepTable.{Process}
use Rattle.wf_table.specs.declared.spent.Spent.{Spent}

-- an engine, the numbers of the object, the block that it began with, where it stands, and what each process has spent
pub record Object (E : Type 0) (Run : Type 0) : Type 0 where
  pub engine : E
  pub sizes : Sizes
  pub opening : List ℤ
  pub state : State Run
  pub spent : List Spent

-- an object in the state of a cell, processes and records
abbrev pub object_view : {E Run : Type 0} → E → Sizes → (opening : List ℤ) → Cell → List (Process Run) → Records → List Spent → Object E Run
object_view engine sizes opening cell processes records spent = record {
  engine = engine;
  sizes = sizes;
  opening = opening;
  state = record { cell = cell; processes = processes; records = records };
  spent = spent;
}

-- what a process keeps for itself, each part by itself
abbrev pub process_view : {Run : Type 0} → Label → (calls : List ObjectCall) → (begun : ℕ) → Registers → (list replies save : List ℤ) → Run → Process Run
process_view label calls begun registers list replies save run = record {
  label = label;
  calls = calls;
  begun = begun;
  registers = registers;
  list = list;
  replies = replies;
  save = save;
  run = run;
}

-- the words of its variables, which are those of the root
abbrev pub variables_of : {E Run : Type 0} → Object E Run → List ℤ
variables_of o = take o.sizes.variables (block_of o.state.cell o.state.cell.root)

abbrev pub answer_in : StepOut → Answer
answer_in On = GoesOn
answer_in (Began id) = Begins id
answer_in (Answered id reply) = Replies id (reply_of reply)
answer_in Halted = Halts

-- an answer, without its id and its reply
abbrev pub seen_in : Answer → Seen
seen_in GoesOn = Seen.On
seen_in (Begins id) = Seen.Began
seen_in (Replies id reply) = Seen.Answered
seen_in Halts = Seen.Halted
