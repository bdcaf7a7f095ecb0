-- What one call takes of its process, read off the acts of a run.
use Rattle.std.specs.Prelude.{◌≡◌, ℕ, ◌+◌, List, [], ◌∷◌, slice_get, if◌then◌else◌, nat_eq, Option, Some, None}
use Rattle.wf_table.specs.declared.process.Label.TheVariants.{Next}
use Rattle.wf_table.specs.declared.process.Sizes.{Sizes}
use Rattle.wf_table.specs.Meaning.{Meaning}
use Rattle.wf_table.specs.StepTable.{Process}
use Rattle.wf_table.specs.Object.{State}
use Rattle.wf_table.specs.Runs.{Act, Steps, Submits, act_of, run}
use Rattle.wf_table.specs.declared.spent.Spent.{Spent}
use Rattle.wf_table.specs.Spent.{unspent, spent_after, has_more}

abbrev pub plus : Spent → Spent → Spent
plus a b = record { bodies = a.bodies + b.bodies; inside = a.inside + b.inside; outside = a.outside + b.outside }

module _ {Run : Type 0} where
  -- what a step alone spends
  abbrev pub spends : Option (Process Run) → Spent
  spends None = unspent
  spends (Some q) = spent_after q.label (has_more q) unspent

  abbrev pub own_act : ℕ → State Run → Act → Spent
  own_act p s (Steps k) = if nat_eq k p then spends (slice_get s.processes p) else unspent
  own_act p s (Submits k call) = unspent

  -- what the own steps of process p spend, all together
  abbrev pub own_spent : Meaning Run → Sizes → ℕ → List Act → State Run → Spent
  own_spent m z p [] s = unspent
  own_spent m z p (act ∷ acts) s = plus (own_act p s act) (own_spent m z p acts (act_of m z s act))

  -- behind these acts process p, which stood between two calls, has begun one more and stands at last
  pub record BeginsOne (m : Meaning Run) (z : Sizes) (p : ℕ) (acts : List Act) (s : State Run) (last : Process Run) : Type 0 where
    pub before : Process Run
    pub stood : slice_get s.processes p ≡ Some before
    pub between : before.label ≡ Next
    pub stands : slice_get (run m z acts s).processes p ≡ Some last
    pub one : last.begun ≡ before.begun + 1
