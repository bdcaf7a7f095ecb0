-- A search by layers: what so many steps lead to, each once, by the first way that leads there.
use Rattle.std.specs.Prelude.{◌≡◌, ◌⊎◌, ℕ, ◌<◌, List, [], ◌∷◌, ◌++◌, length, map, get_or, slice_get, take, Option, None, Some}
use Rattle.wf_whole_outcomes.specs.declared.growing.Came.{Came}

-- lexical order
abbrev pub Precedes : List ℕ → List ℕ → Type 0
Precedes [] [] = ⊥
Precedes [] (b ∷ other) = Unit {0}
Precedes (a ∷ one) [] = ⊥
Precedes (a ∷ one) (b ∷ other) = (a < b) ⊎ ((a ≡ b) × Precedes one other)

-- the ways of one layer, by where each came from in the layer before and by which step
abbrev pub way_on : List (List ℕ) → Came → List ℕ
way_on ways came = get_or ways came.from [] ++ came.by ∷ []

abbrev pub ways_on : List (List ℕ) → List Came → List (List ℕ)
ways_on ways came = map (way_on ways) came

abbrev pub ways_of : List (List ℕ) → List (List Came) → List (List ℕ)
ways_of ways [] = ways
ways_of ways (came ∷ trail) = ways_of (ways_on ways came) trail

-- each came from a place of the layer before
abbrev pub IsLinked : List (List Came) → Type 0
IsLinked trail =
    (depth : ℕ) (came : List Came) (k : ℕ) (c : Came) → slice_get trail depth ≡ Some came → slice_get came k ≡ Some c → c.from < length (ways_of ([] ∷ []) (take depth trail))

-- by place, and then by step
abbrev pub IsEarlier : (from by place process : ℕ) → Type 0
IsEarlier from by place process = (from < place) ⊎ ((from ≡ place) × (by < process))

module _ {N : Type 0} (next : N → ℕ → Option N) where
  abbrev pub then_by : Option N → ℕ → Option N
  then_by None step = None
  then_by (Some a) step = next a step

  -- where steps lead, one after the other
  abbrev pub walk : Option N → List ℕ → Option N
  walk o [] = o
  walk o (step ∷ way) = walk (then_by o step) way

  -- What ways of a length lead to, each once, with the first way that leads there, and by these ways.
  pub record IsLayer (start : N) (size : ℕ) (ways : List (List ℕ)) (layer : List N) : Type 0 where
    pub same : length ways ≡ length layer
    pub each : (k : ℕ) (way : List ℕ) (a : N) → slice_get ways k ≡ Some way → slice_get layer k ≡ Some a → (length way ≡ size) × (walk (Some start) way ≡ Some a)
    pub every : (way : List ℕ) (a : N) → length way ≡ size → walk (Some start) way ≡ Some a →
        (k : ℕ) × (first : List ℕ) × (slice_get layer k ≡ Some a) × (slice_get ways k ≡ Some first) × (¬ Precedes way first)
    pub once : (j k : ℕ) (a : N) → slice_get layer j ≡ Some a → slice_get layer k ≡ Some a → j ≡ k
    pub sorted : (j k : ℕ) (one other : List ℕ) → j < k → slice_get ways j ≡ Some one → slice_get ways k ≡ Some other → Precedes one other

  -- What one step leads to from a layer, from the places before this one and from it by the steps before this one: each once, with
  -- the first place and step that lead there, and by these.
  pub record IsGrowing (layer : List N) (place step : ℕ) (came : List Came) (more : List N) : Type 0 where
    pub same : length came ≡ length more
    pub each : (k : ℕ) (c : Came) (b : N) → slice_get came k ≡ Some c → slice_get more k ≡ Some b →
        (a : N) × (slice_get layer c.from ≡ Some a) × (next a c.by ≡ Some b) × IsEarlier c.from c.by place step
    pub every : (from by : ℕ) (a b : N) → slice_get layer from ≡ Some a → next a by ≡ Some b → IsEarlier from by place step →
        (k : ℕ) × (c : Came) × (slice_get more k ≡ Some b) × (slice_get came k ≡ Some c) × (¬ IsEarlier from by c.from c.by)
    pub once : (j k : ℕ) (a : N) → slice_get more j ≡ Some a → slice_get more k ≡ Some a → j ≡ k
    pub sorted : (j k : ℕ) (c d : Came) → j < k → slice_get came j ≡ Some c → slice_get came k ≡ Some d → IsEarlier c.from c.by d.from d.by

  -- so many are reached by ways that are shorter: these are some, none twice
  pub record HasSome (start : N) (many bound : ℕ) : Type 0 where
    pub some : List N
    pub count : length some ≡ many
    pub each : (k : ℕ) (a : N) → slice_get some k ≡ Some a → (way : List ℕ) × (length way < bound) × (walk (Some start) way ≡ Some a)
    pub once : (j k : ℕ) (a : N) → slice_get some j ≡ Some a → slice_get some k ≡ Some a → j ≡ k

  -- one step leads from the layer to more than so many: here are some
  pub record GrowsOver (layer : List N) (room : ℕ) : Type 0 where
    pub place : ℕ
    pub step : ℕ
    pub came : List Came
    pub more : List N
    pub growing : IsGrowing layer place step came more
    pub over : room < length more

  -- more than so many are reached
  pub record HasOver (start : N) (most : ℕ) : Type 0 where
    pub many : ℕ
    pub bound : ℕ
    pub some : HasSome start many bound
    pub over : most < many
