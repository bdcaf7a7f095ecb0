-- What a call takes in bodies, and in all where none of them goes on behind a limit.
use Rattle.std.specs.Prelude.{◌≡◌, ℕ, ◌+◌, ◌*◌, ◌<◌, ◌≤◌, true, List, [], ◌∷◌, length, sum, slice_index_or}
use Rattle.wf_table.specs.declared.process.Sizes.{Sizes}
use Rattle.wf_table.specs.Meaning.{Meaning}
use Rattle.wf_table.specs.StepTable.{Process}
use Rattle.wf_table.specs.Runs.{Act}
use Rattle.wf_table.specs.Each.{Each}
use Rattle.wf_table.specs.declared.spent.Spent.{Spent}
use Rattle.wf_table.specs.Labels.{at_body}
use Rattle.wf_table.specs.Counted.{Counted, counts_of, counted_act}
use Rattle.wf_table.specs.Bound.{bound}

-- the counts of a process are the sums over the bodies that its call began
pub record SumsBodies {Run : Type 0} (s : Spent) (steps : List ℕ) (q : Process Run) : Type 0 where
  pub bodies : s.bodies ≡ length steps
  pub inside : s.inside ≡ sum steps
  pub present : at_body q.label ≡ true → 0 < length steps

abbrev pub AllSumBodies : {Run : Type 0} → Counted Run → Type 0
AllSumBodies s = Each (λ p q. SumsBodies (counts_of s.counts p).spent (counts_of s.counts p).body_steps q) s.state.processes

-- a present body can take one step more
abbrev pub IsBelow : {Run : Type 0} → ℕ → List ℕ → Process Run → Type 0
IsBelow limit steps q = at_body q.label ≡ true → slice_index_or steps 0 0 < limit

-- no body of a run takes a step behind the limit
abbrev pub StaysBelow : {Run : Type 0} → ℕ → Meaning Run → Sizes → List Act → Counted Run → Type 0
StaysBelow limit m z [] s = Unit {0}
StaysBelow limit m z (act ∷ acts) s = Each (λ p q. IsBelow limit (counts_of s.counts p).body_steps q) s.state.processes × StaysBelow limit m z acts (counted_act m z s act)

-- what a call takes in all, where its bodies end
pub record IsWithinLimit (z : Sizes) (limit : ℕ) (s : Spent) : Type 0 where
  pub inside : s.inside ≤ limit * s.bodies
  pub total : s.outside + s.inside ≤ bound z + 2 * z.processes * limit

abbrev pub AllWithinLimit : {Run : Type 0} → Sizes → ℕ → Counted Run → Type 0
AllWithinLimit z limit s = Each (λ p q. IsWithinLimit z limit (counts_of s.counts p).spent) s.state.processes
