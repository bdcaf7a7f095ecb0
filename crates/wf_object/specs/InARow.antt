-- Steps of one process in a row.
use Rattle.std.specs.Prelude.{◌≡◌, ℕ, zero, suc, ◌<◌, List, true}
use Rattle.wf_table.specs.declared.process.Label.TheVariants.{Body}
use Rattle.wf_table.specs.declared.process.Sizes.{Sizes}
use Rattle.wf_table.specs.Meaning.{Meaning}
use Rattle.wf_table.specs.Object.{State, label_of, step_of}
use Rattle.wf_table.specs.declared.spent.Spent.{Spent}
use Rattle.wf_table.specs.Counted.{spent_by_step}
use Rattle.wf_object.specs.Quiet.{is_quiet}
use Rattle.wf_object.specs.View.{Object}

module _ {Run : Type 0} (m : Meaning Run) (z : Sizes) where
  -- the process takes so many steps, and no other process one
  abbrev pub after_steps : ℕ → ℕ → State Run → State Run
  after_steps p zero s = s
  after_steps p (suc k) s = step_of m z (after_steps p k s) p

  -- what each process has spent then
  abbrev pub spent_after_steps : ℕ → ℕ → State Run → List Spent → List Spent
  spent_after_steps p zero s xs = xs
  spent_after_steps p (suc k) s xs = spent_by_step (after_steps p k s) (spent_after_steps p k s xs) p

  -- each of them is one of a body
  abbrev pub AreInBody : ℕ → ℕ → State Run → Type 0
  AreInBody p k s = (j : ℕ) → j < k → label_of (after_steps p j s) p ≡ Body

  -- each of them is one that shows nothing
  abbrev pub AreQuiet : ℕ → ℕ → State Run → Type 0
  AreQuiet p k s = (j : ℕ) → j < k → is_quiet (label_of (after_steps p j s) p) ≡ true

-- the object behind one step of the process
abbrev pub stepped : {E Run : Type 0} → Meaning Run → ℕ → Object E Run → Object E Run
stepped m p o = record o { state = step_of m o.sizes o.state p; spent = spent_by_step o.state o.spent p }

-- behind so many
abbrev pub object_after : {E Run : Type 0} → Meaning Run → ℕ → ℕ → Object E Run → Object E Run
object_after m p k o = record o { state = after_steps m o.sizes p k o.state; spent = spent_after_steps m o.sizes p k o.state o.spent }
