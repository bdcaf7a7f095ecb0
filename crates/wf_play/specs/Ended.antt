-- The calls that end in a run, and their own steps.
use Rattle.std.specs.Prelude.{◌≡◌, ℕ, ◌+◌, ◌-◌, ◌^◌, ℤ, List, [], ◌∷◌, ◌++◌, min, replicate}
use Rattle.ob_interface.specs.Call.{ObjectCall}
use Rattle.wf_table.specs.Counted.{spent_by_step, spent_of}
use Rattle.wf_table.specs.Spent.{unspent}
use Rattle.wf_table.specs.declared.spent.Spent.{Spent}
use Rattle.wf_object.specs.View.{Object}
use Rattle.wf_play.specs.declared.ended.EndedCall.{EndedCall}
use Rattle.wf_table.specs.Meaning.{Meaning}
use Rattle.wf_table.specs.Object.{Answer, Replies, State, answer_of, step_of}
use Rattle.wf_table.specs.Runs.{run, submissions}
use Rattle.wf_table.specs.Start.{IsStart, sizes_of}
use Rattle.wf_table.specs.declared.process.Sizes.{Sizes}

-- all own steps, in bodies and outside them; the greatest number where they are more
abbrev pub own_steps : Spent → ℕ
own_steps spent = min (spent.outside + spent.inside) (2 ^ 128 - 1)

-- the call that a step with this answer ends, of a process that has then spent so much on it
abbrev pub ended_by : Answer → Spent → List EndedCall
ended_by (Replies id reply) spent = record { id = id; steps = own_steps spent } ∷ []
ended_by _ spent = []

module _ {Run : Type 0} (m : Meaning Run) (z : Sizes) where
  -- the call that a step of process p ends, where the processes have spent so much
  abbrev pub ended_at : ℕ → State Run → List Spent → List EndedCall
  ended_at p s spent = ended_by (answer_of m z s p) (spent_of (spent_by_step s spent p) p)

  -- the calls that these steps end, one after the other
  abbrev pub ended_in : List ℕ → State Run → List Spent → List EndedCall
  ended_in [] s spent = []
  ended_in (p ∷ ps) s spent = ended_at p s spent ++ ended_in ps (step_of m z s p) (spent_by_step s spent p)

-- of the run of the scripts and of these steps on an object of n processes that begins with this block
pub record AreEndedOf {Run : Type 0} (m : Meaning Run) (ready : Run → Type 0) (n : ℕ) (opening : List ℤ) (scripts : List (ℕ × ObjectCall)) (steps : List ℕ) (ended : List EndedCall) : Type 0 where
  pub start : State Run
  pub begins : IsStart ready (sizes_of m n) opening start
  pub are : ended ≡ ended_in m (sizes_of m n) steps (run m (sizes_of m n) (submissions scripts) start) (replicate n unspent)

-- the calls of the scripts submitted to the machine
abbrev pub with_submissions : {E Run : Type 0} → Meaning Run → List (ℕ × ObjectCall) → Object E Run → Object E Run
with_submissions m scripts o = record o { state = run m o.sizes (submissions scripts) o.state }

-- From one machine with the calls that were ended to another one with more of them, by these steps: whatever steps follow, the calls
-- that have ended and those that are still to end stay the same.
pub record Leads {E Run : Type 0} (meaning : E → Meaning Run) (steps : List ℕ) (a : Object E Run) (ended : List EndedCall) (b : Object E Run) (later : List EndedCall) : Type 0 where
  pub engine : b.engine ≡ a.engine
  pub sizes : b.sizes ≡ a.sizes
  pub same : (rest : List ℕ) → later ++ ended_in (meaning b.engine) b.sizes rest b.state b.spent ≡ ended ++ ended_in (meaning a.engine) a.sizes (steps ++ rest) a.state a.spent
