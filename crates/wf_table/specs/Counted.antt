-- Runs with what each process spends, in how many rounds.
use Rattle.std.specs.Prelude.{◌≡◌, ℕ, Bool, List, [], ◌∷◌, length, replicate, slice_get, slice_index_or, slice_set, Option, Some, None}
use Rattle.wf_table.specs.declared.process.Label.{Label}
use Rattle.wf_table.specs.declared.process.Sizes.{Sizes}
use Rattle.wf_table.specs.Meaning.{Meaning}
use Rattle.wf_table.specs.StepTable.{Process}
use Rattle.wf_table.specs.Object.{State}
use Rattle.wf_table.specs.Runs.{Act, Steps, Submits, act_of}
use Rattle.wf_table.specs.Each.{Each}
use Rattle.wf_table.specs.declared.spent.Spent.{Spent}
use Rattle.wf_table.specs.Spent.{unspent, spent_after, body_steps_after, has_more}
use Rattle.wf_table.specs.Rounds.{rounds_after}

-- what is counted of one process
pub record Counts : Type 0 where
  pub spent : Spent
  pub body_steps : List ℕ
  pub rounds : ℕ

abbrev pub uncounted : Counts
uncounted = record { spent = unspent; body_steps = []; rounds = 0 }

abbrev pub counts_after : Label → Bool → Counts → Counts
counts_after l begins x = record { spent = spent_after l begins x.spent; body_steps = body_steps_after l begins x.body_steps; rounds = rounds_after l begins x.rounds }

-- something is counted of each process, from d on: a step counts for its process alone, a submission is no step
module _ {A Run : Type 0} (after : Label → Bool → A → A) (d : A) where
  -- process p, which stands at q, takes a step
  abbrev pub count_by : List A → ℕ → Option (Process Run) → List A
  count_by xs p None = xs
  count_by xs p (Some q) = slice_set xs p (after q.label (has_more q) (slice_index_or xs p d))

  abbrev pub count_act : State Run → List A → Act → List A
  count_act s xs (Steps p) = count_by xs p (slice_get s.processes p)
  count_act s xs (Submits p call) = xs

-- what each process has spent, where process p takes a step
abbrev pub spent_by_step : {Run : Type 0} → State Run → List Spent → ℕ → List Spent
spent_by_step s xs p = count_by spent_after unspent xs p (slice_get s.processes p)

abbrev pub spent_of : List Spent → ℕ → Spent
spent_of xs p = slice_index_or xs p unspent

-- a fact of what is counted of each process, and of the process
pub record EachCounts {A Run : Type 0} (P : A → Process Run → Type 0) (d : A) (xs : List A) (ps : List (Process Run)) : Type 0 where
  pub count : length xs ≡ length ps
  pub each : Each (λ p q. P (slice_index_or xs p d) q) ps

pub record Counted (Run : Type 0) : Type 0 where
  pub state : State Run
  pub counts : List Counts

abbrev pub counts_of : List Counts → ℕ → Counts
counts_of counts p = slice_index_or counts p uncounted

module _ {Run : Type 0} where
  -- where an object begins
  abbrev pub counted_from : State Run → Counted Run
  counted_from s = record { state = s; counts = replicate (length s.processes) uncounted }

  abbrev pub counted_act : Meaning Run → Sizes → Counted Run → Act → Counted Run
  counted_act m z s act = record { state = act_of m z s.state act; counts = count_act counts_after uncounted s.state s.counts act }

  abbrev pub counted_run : Meaning Run → Sizes → List Act → Counted Run → Counted Run
  counted_run m z [] s = s
  counted_run m z (act ∷ acts) s = counted_run m z acts (counted_act m z s act)
