-- A graph with places, in which each step says something: calls of processes, with replies by numbers.
use Rattle.std.specs.Prelude.{◌≡◌, ℕ, List, [], ◌∷◌, ◌++◌, length, map, get_or, slice_get, slice_set, Option, None, Some, Vec, option_map}
use Rattle.wf_whole_outcomes.specs.declared.edges.Edge.{Edge}

-- a place, and of each process the numbers of the replies to its calls so far
pub record Spot : Type 0 where
  pub place : ℕ
  pub said : List (List ℕ)

abbrev pub rows_in : {A : Type 0} → List (Vec (Option Edge) A) → List (List (Option Edge))
rows_in rows = map (λ row. row.items) rows

-- what the next call of a process leads to from a place
abbrev pub edge_from : List (List (Option Edge)) → (place process : ℕ) → Option Edge
edge_from rows place process = get_or (get_or rows place []) process None

-- one reply more of a process
abbrev pub said_on : List (List ℕ) → (process reply : ℕ) → List (List ℕ)
said_on said process reply = slice_set said process (get_or said process [] ++ reply ∷ [])

abbrev pub spot_on : Spot → (process : ℕ) → Edge → Spot
spot_on s process e = record { place = e.to; said = said_on s.said process e.reply }

abbrev pub next_from : List (List (Option Edge)) → Spot → (process : ℕ) → Option Spot
next_from rows s process = option_map (spot_on s process) (edge_from rows s.place process)

-- each row is for so many processes
abbrev pub IsNarrow : List (List (Option Edge)) → (processes : ℕ) → Type 0
IsNarrow rows processes = (k : ℕ) (row : List (Option Edge)) → slice_get rows k ≡ Some row → length row ≡ processes

-- none stands twice
abbrev pub AreApart : {A : Type 0} → List A → Type 0
AreApart {A} items = (j k : ℕ) (a : A) → slice_get items j ≡ Some a → slice_get items k ≡ Some a → j ≡ k

-- more stands behind
abbrev pub GoesOn : {A : Type 0} → List A → List A → Type 0
GoesOn {A} items more = (rest : List A) × (more ≡ items ++ rest)
