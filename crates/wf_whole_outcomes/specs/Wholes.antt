-- All whole outcomes of scripts, each once, with the first order that gives it.
use Rattle.std.specs.Prelude.{◌≡◌, ◌⊎◌, ℕ, ◌<◌, List, [], ◌∷◌, slice_get, Some}
use Rattle.wf_history.specs.declared.event.CallId.{CallId}
use Rattle.wf_whole_outcomes.specs.Tellings.{Telling, Gives}

-- a call's name before another one: by process, and then by number
abbrev pub IsSmaller : CallId → CallId → Type 0
IsSmaller a b = (a.process < b.process) ⊎ ((a.process ≡ b.process) × (a.number < b.number))

-- lexical order: where two orders differ first, the smaller call comes first; and a front comes before what goes on
abbrev pub IsBefore : List CallId → List CallId → Type 0
IsBefore [] [] = ⊥
IsBefore [] (b ∷ other) = Unit {0}
IsBefore (a ∷ one) [] = ⊥
IsBefore (a ∷ one) (b ∷ other) = IsSmaller a b ⊎ ((a ≡ b) × IsBefore one other)

-- all replies, of each process in order, what is kept of the last state, and an order that gives them
pub record WholeTold (Kept Reply : Type 0) : Type 0 where
  pub replies : List (List Reply)
  pub state : Kept
  pub order : List CallId

-- Is: what is kept stands for the state
module _ {State Kept Call Reply : Type 0} (Is : State → Kept → Type 0) (Effect : Call → State → State → Reply → Type 0) (scripts : List (List Call)) (opening : State) where
  -- the order gives these replies, and leads to the state
  pub record GivesSo (w : WholeTold Kept Reply) : Type 0 where
    pub last : State
    pub is : Is last w.state
    pub gives : Gives Effect scripts opening w.order (record { replies = w.replies; state = last })

  -- the outcome is there, and the order is not before the one that is told with it
  pub record IsThere (wholes : List (WholeTold Kept Reply)) (order : List CallId) (t : Telling State Reply) : Type 0 where
    pub place : ℕ
    pub it : WholeTold Kept Reply
    pub there : slice_get wholes place ≡ Some it
    pub replies : it.replies ≡ t.replies
    pub is : Is t.state it.state
    pub first : ¬ IsBefore order it.order

  -- These are exactly the whole outcomes, each once. With each stands the first order that gives it, and they stand by these orders.
  pub record AreWholes (wholes : List (WholeTold Kept Reply)) : Type 0 where
    pub each : (k : ℕ) (w : WholeTold Kept Reply) → slice_get wholes k ≡ Some w → ∥ GivesSo w ∥₁
    pub every : (order : List CallId) (t : Telling State Reply) → Gives Effect scripts opening order t → IsThere wholes order t
    pub once : (j k : ℕ) (one other : WholeTold Kept Reply) (last : State) → slice_get wholes j ≡ Some one → slice_get wholes k ≡ Some other →
        one.replies ≡ other.replies → Is last one.state → Is last other.state → j ≡ k
    pub sorted : (j k : ℕ) (one other : WholeTold Kept Reply) → j < k → slice_get wholes j ≡ Some one → slice_get wholes k ≡ Some other → IsBefore one.order other.order
