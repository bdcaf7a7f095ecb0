-- What a search keeps of a spot.
use Rattle.std.specs.Prelude.{◌≡◌, ◌⊎◌, ℕ, ◌+◌, ◌<◌, List, [], ◌∷◌, ◌++◌, length, map, get_or, replicate, slice_get, Some, Vec, All, Option, Contains}
use Rattle.wf_whole_outcomes.specs.Graph.{Spot, AreApart, next_from}
use Rattle.wf_whole_outcomes.specs.Layers.{HasSome, IsGrowing, IsLayer, IsLinked, ways_of}
use Rattle.wf_whole_outcomes.specs.declared.edges.Edge.{Edge}
use Rattle.wf_whole_outcomes.specs.declared.growing.Came.{Came}
use Rattle.wf_whole_outcomes.specs.declared.growing.Growing.{Growing}
use Rattle.wf_whole_outcomes.specs.declared.nodes.Link.{Link}
use Rattle.wf_whole_outcomes.specs.declared.nodes.Lists.{Lists}
use Rattle.wf_whole_outcomes.specs.declared.nodes.Node.{Node}
use Rattle.wf_whole_outcomes.specs.declared.layers.Front.{Front}

-- the lists that were found, by their numbers
abbrev pub lists_in : Lists → List (List ℕ)
lists_in lists = map (λ l. l.items) lists.items.items

-- the list that has a number, with one reply more
abbrev pub list_with : List (List ℕ) → (list reply : ℕ) → List ℕ
list_with lists list reply = get_or lists list [] ++ reply ∷ []

-- The empty list comes first, and behind it of each link the list that it makes of one before it. None stands twice.
pub record AreLinked (links : List Link) (lists : List (List ℕ)) : Type 0 where
  pub size : length lists ≡ length links + 1
  pub first : slice_get lists 0 ≡ Some []
  pub each : (k : ℕ) (l : Link) → slice_get links k ≡ Some l → (l.list < k + 1) × (slice_get lists (k + 1) ≡ Some (list_with lists l.list l.reply))
  pub apart : AreApart lists

-- the number is that of the list which the link of this list and this reply makes
abbrev pub IsLinkOf : List Link → (list reply number : ℕ) → Type 0
IsLinkOf links list reply number = (k : ℕ) × (number ≡ k + 1) × (slice_get links k ≡ Some (record { list = list; reply = reply }))

abbrev pub AreLists : Lists → Type 0
AreLists lists = AreLinked lists.links.keys (lists_in lists)

-- the node's place, and of each process the list that has the number
abbrev pub spot_in : List (List ℕ) → Node → Spot
spot_in lists node = record { place = node.place; said = map (λ number. get_or lists number []) node.told.items }

abbrev pub spots_in : List (List ℕ) → List Node → List Spot
spots_in lists nodes = map (spot_in lists) nodes

-- a list for each process
pub record IsNode (lists : List (List ℕ)) (processes : ℕ) (node : Node) : Type 0 where
  pub size : length node.told.items ≡ processes
  pub within : All (λ number. number < length lists) node.told.items

abbrev pub AreNodes : List (List ℕ) → (processes : ℕ) → List Node → Type 0
AreNodes lists processes nodes = All (IsNode lists processes) nodes

abbrev pub trail_in : {A : Type 0} → List (Vec Came A) → List (List Came)
trail_in trail = map (λ came. came.items) trail

-- it was there already, or it is one more, with where it came from
abbrev pub IsArrived : (spots : List Spot) (came : List Came) (more : List Spot) (grown : List Came) → Spot → Came → Type 0
IsArrived spots came more grown spot c =
    (Contains spots spot × (more ≡ spots) × (grown ≡ came)) ⊎ ((¬ Contains spots spot) × (more ≡ spots ++ spot ∷ []) × (grown ≡ came ++ c ∷ []))

-- the one node at which each process has the first list
abbrev pub IsFirst : (processes : ℕ) → List Node → Type 0
IsFirst processes nodes = (node : Node) × (nodes ≡ node ∷ []) × (node.place ≡ 0) × (node.told.items ≡ replicate processes 0)

-- no process has said anything
abbrev pub first_spot : (processes : ℕ) → Spot
first_spot processes = record { place = 0; said = replicate processes [] }

module _ (rows : List (List (Option Edge))) (processes : ℕ) where
  -- what one step leads to from a layer, as far as it was gone on from
  pub record IsGrown (layer : List Node) (place step : ℕ) (g : Growing) : Type 0 where
    pub lists : AreLists g.lists
    pub before : AreNodes (lists_in g.lists) processes layer
    pub nodes : AreNodes (lists_in g.lists) processes g.layer.keys
    pub growing : IsGrowing (next_from rows) (spots_in (lists_in g.lists) layer) place step g.came.items (spots_in (lists_in g.lists) g.layer.keys)

  -- the last layer, with the ways that lead there, and how many spots there are in all
  pub record IsFront (f : Front) : Type 0 where
    pub lists : AreLists f.lists
    pub nodes : AreNodes (lists_in f.lists) processes f.layer.keys
    pub layer : IsLayer (next_from rows) (first_spot processes) (length f.trail.items) (ways_of ([] ∷ []) (trail_in f.trail.items)) (spots_in (lists_in f.lists) f.layer.keys)
    pub linked : IsLinked (trail_in f.trail.items)
    pub some : HasSome (next_from rows) (first_spot processes) f.many (length f.trail.items + 1)
