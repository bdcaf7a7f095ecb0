-- Who made the events of a run.
use Rattle.std.specs.Prelude.{◌≡◌, ℕ, ◌+◌, ℤ, List, [], ◌∷◌, ◌++◌, length, slice_get, Some, if◌then◌else◌, nat_lt}
use Rattle.ob_interface.specs.Call.{ObjectCall}
use Rattle.wf_table.specs.declared.process.Sizes.{Sizes}
use Rattle.wf_table.specs.Meaning.{Meaning}
use Rattle.wf_table.specs.Object.{State, step_of}
use Rattle.wf_table.specs.Runs.{run, submissions, turns}
use Rattle.wf_table.specs.Start.{IsStart, sizes_of}

module _ {Run : Type 0} (m : Meaning Run) (z : Sizes) where
  -- one of the steps is the process's, so many events were seen before it, and one more behind it: it showed the event of
  -- this place
  pub record Shows (steps : List ℕ) (s : State Run) (place p : ℕ) : Type 0 where
    pub first : List ℕ
    pub rest : List ℕ
    pub split : steps ≡ first ++ p ∷ rest
    pub before : length (run m z (turns first) s).records.history ≡ place
    pub behind : length (run m z (turns (first ++ p ∷ [])) s).records.history ≡ place + 1

  -- for each event that the steps show, from a state where nothing was seen yet, the process whose step showed it
  pub record AreMakers (steps : List ℕ) (s : State Run) (makers : List ℕ) : Type 0 where
    pub count : length makers ≡ length (run m z (turns steps) s).records.history
    pub shown : (place p : ℕ) → slice_get makers place ≡ Some p → Shows steps s place p

  -- how they are found, step by step: where a step shows an event, its process is the maker

  abbrev pub maker_at : State Run → ℕ → List ℕ
  maker_at s p = if nat_lt (length s.records.history) (length (step_of m z s p).records.history) then p ∷ [] else []

  abbrev pub makers_in : List ℕ → State Run → List ℕ
  makers_in [] s = []
  makers_in (p ∷ ps) s = maker_at s p ++ makers_in ps (step_of m z s p)

-- of the run of the scripts and of these steps on an object of n processes that begins with this block
pub record AreMakersOf {Run : Type 0} (m : Meaning Run) (ready : Run → Type 0) (n : ℕ) (opening : List ℤ) (scripts : List (ℕ × ObjectCall)) (steps makers : List ℕ) : Type 0 where
  pub start : State Run
  pub begins : IsStart ready (sizes_of m n) opening start
  pub are : AreMakers m (sizes_of m n) steps (run m (sizes_of m n) (submissions scripts) start) makers
