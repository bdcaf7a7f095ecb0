-- Places of configurations at which the replies of all calls are to be seen.
use Rattle.std.specs.Prelude.{◌≡◌, ℕ, ◌<◌, ◌⊎◌, List, [], ◌∷◌, ◌++◌, length, get_or, slice_get, Some, Contains}
use Rattle.wf_outcomes.specs.declared.seen.Found.{Found}

-- as many calls of the process are made at both, and their states have the same words
pub record MeetsAlike {State : Type 0} (process : ℕ) (one other : Found State) : Type 0 where
  pub within : process < length one.counts.items
  pub count : get_or one.counts.items process 0 ≡ get_or other.counts.items process 0
  pub words : one.kept.value.words.items ≡ other.kept.value.words.items

-- one of the places is alike for the process
pub record IsMet {State : Type 0} (found : List (Found State)) (places : List ℕ) (process : ℕ) (here : Found State) : Type 0 where
  pub row : ℕ
  pub place : ℕ
  pub listed : slice_get places row ≡ Some place
  pub one : Found State
  pub there : slice_get found place ≡ Some one
  pub alike : MeetsAlike process one here

-- of the configuration, all processes below a bound are met
abbrev pub AreMet : {State : Type 0} → List (Found State) → (places : List ℕ) → Found State → (bound : ℕ) → Type 0
AreMet found places here bound = (process : ℕ) → process < bound → process < length here.counts.items → IsMet found places process here

-- of each configuration below a bound all processes are met at these places
pub record AreTelling {State : Type 0} (found : List (Found State)) (places : List ℕ) (bound : ℕ) : Type 0 where
  pub within : (row place : ℕ) → slice_get places row ≡ Some place → place < length found
  pub met : (place process : ℕ) (here : Found State) → place < bound → slice_get found place ≡ Some here → process < length here.counts.items → IsMet found places process here

-- one more place, unless it is there
abbrev pub IsPlaced : (places more : List ℕ) → ℕ → Type 0
IsPlaced places more place = (Contains places place × (more ≡ places)) ⊎ (more ≡ places ++ place ∷ [])

-- each mark is one of the places
abbrev pub AreMarks : (marks places : List ℕ) → Type 0
AreMarks marks places = (row mark : ℕ) → slice_get marks row ≡ Some mark → Contains places mark

-- each mark stood there before, or is the place
abbrev pub IsMarked : (marks more : List ℕ) → ℕ → Type 0
IsMarked marks more place = (row mark : ℕ) → slice_get more row ≡ Some mark → Contains marks mark ⊎ (mark ≡ place)
