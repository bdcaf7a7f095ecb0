-- What is told of the nodes of the last layer.
use Rattle.std.specs.Prelude.{◌≡◌, ℕ, ◌+◌, ◌<◌, List, [], ◌∷◌, length, map, get_or, replicate, slice_get, slice_set, Some, All}
use Rattle.wf_history.specs.declared.event.CallId.{CallId}
use Rattle.wf_whole_outcomes.specs.Graph.{Spot}
use Rattle.wf_outcomes.specs.Explored.{Kept}
use Rattle.wf_whole_outcomes.specs.Wholes.{WholeTold}

-- the names of calls, by the processes that call one after the other, where so many calls of each process were made before
abbrev pub named : List ℕ → List ℕ → List CallId
named counts [] = []
named counts (p ∷ way) = record { process = p; number = get_or counts p 0 + 1 } ∷ named (slice_set counts p (get_or counts p 0 + 1)) way

-- the lists that have these numbers
abbrev pub said_in : List (List ℕ) → List ℕ → List (List ℕ)
said_in lists told = map (λ number. get_or lists number []) told

-- the spot's place is one of so many, and each number that it has is that of one of so many replies
pub record IsTellable (places replies : ℕ) (s : Spot) : Type 0 where
  pub place : s.place < places
  pub said : All (All (λ number. number < replies)) s.said

module _ {State Reply : Type 0} (found : List (Kept State)) (known : List Reply) (processes : ℕ) (ways : List (List ℕ)) (spots : List Spot) where
  -- the state of the place, the replies of the numbers, and the way as names of calls
  pub record IsLeaf (k : ℕ) (w : WholeTold State Reply) : Type 0 where
    pub spot : Spot
    pub at : slice_get spots k ≡ Some spot
    pub it : Kept State
    pub there : slice_get found spot.place ≡ Some it
    pub state : it.here.state ≡ w.state
    pub replies : map (map (slice_get known)) spot.said ≡ map (map Some) w.replies
    pub order : w.order ≡ named (replicate processes 0) (get_or ways k [])

  pub record AreLeaves (wholes : List (WholeTold State Reply)) : Type 0 where
    pub size : length wholes ≡ length spots
    pub each : (k : ℕ) (w : WholeTold State Reply) → slice_get wholes k ≡ Some w → IsLeaf k w
