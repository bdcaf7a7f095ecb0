-- Whole outcomes, as the definitions see them.
use Rattle.std.specs.Prelude.{◌≡◌, ℕ, ◌+◌, List, [], ◌∷◌, map, filter_map, get_or, replicate, slice_get, Some}
use Rattle.std.specs.Borrow.{Bor}
use Rattle.ob_interface.specs.Call.{Reply}
use Rattle.wf_history.specs.View.{kept_reply}
use Rattle.wf_outcomes.specs.Explored.{Kept, state_at}
use Rattle.wf_whole_outcomes.specs.Layers.{ways_of}
use Rattle.wf_whole_outcomes.specs.Leaves.{named}
use Rattle.wf_whole_outcomes.specs.Nodes.{lists_in, trail_in}
use Rattle.wf_whole_outcomes.specs.Wholes.{WholeTold}
use Rattle.wf_whole_outcomes.specs.declared.layers.Front.{Front}
use Rattle.wf_whole_outcomes.specs.declared.wholes.ToldWholes.{ToldWholes}

-- the replies that have these numbers
abbrev pub replies_of : List Reply → List ℕ → List Reply
replies_of known numbers = filter_map (slice_get known) numbers

-- the replies of a list of numbers that has a number itself
abbrev pub row_of : (known : List Reply) (lists : List (List ℕ)) (number : ℕ) → List Reply
row_of known lists number = replies_of known (get_or lists number [])

-- of each node, the numbers of the lists of its processes
abbrev pub told_by : Front → List (List ℕ)
told_by f = map (λ node. node.told.items) f.layer.keys

-- the first ways that lead to the nodes
abbrev pub front_ways : Front → List (List ℕ)
front_ways f = ways_of ([] ∷ []) (trail_in f.trail.items)

-- the outcome of a node, with a state: the replies of its lists, and the first way as names of calls
abbrev pub whole_at : {Kept : Type 0} → (known : List Reply) (processes : ℕ) → Front → (k : ℕ) → Kept → WholeTold Kept Reply
whole_at known processes f k state = record {
  replies = map (row_of known (lists_in f.lists)) (get_or (told_by f) k []);
  state = state;
  order = named (replicate processes 0) (get_or (front_ways f) k []);
}

-- the outcomes from a node on, with these states
abbrev pub wholes_from : {Kept : Type 0} → (known : List Reply) (processes : ℕ) → Front → (k : ℕ) → List Kept → List (WholeTold Kept Reply)
wholes_from known processes f k [] = []
wholes_from known processes f k (state ∷ states) = whole_at known processes f k state ∷ wholes_from known processes f (k + 1) states

-- what a state that is lent stands for
abbrev pub seen_in : {State Meaning : Type 0} → (State → Meaning) → Bor State → Meaning
seen_in meaning s = meaning s.now

-- the states are those of the configurations at the nodes' places
abbrev pub AreStatesOf : {State Meaning : Type 0} → (State → Meaning) → List (Kept Meaning) → ToldWholes (Bor State) → Type 0
AreStatesOf meaning found t = map Some (map (seen_in meaning) t.states.items) ≡ map (λ node. state_at found node.place) t.front.layer.keys

abbrev pub wholes_in : {State Meaning : Type 0} → (State → Meaning) → ToldWholes State → List (WholeTold Meaning Reply)
wholes_in meaning t = wholes_from (map kept_reply t.replies.items) t.processes t.front 0 (map meaning t.states.items)
