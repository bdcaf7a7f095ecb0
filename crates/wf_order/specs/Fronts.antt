-- What the search of all events tells of the first ones.
use Rattle.std.specs.Prelude.{◌≡◌, ℕ, ◌<◌, ◌≤◌, List, length, get_or, slice_get, Some, Contains, ◌⊎◌}
use Rattle.ob_interface.specs.Call.{ObjectCall, Reply}
use Rattle.wf_history.specs.History.{Event}
use Rattle.wf_order.specs.declared.front.Front.{Front}
use Rattle.wf_order.specs.declared.front.Front.TheVariants as Fronts
use Rattle.wf_order.specs.declared.rows.Ended.{Ended}
use Rattle.wf_order.specs.declared.kept_rows.Rows.{Rows}
use Rattle.wf_order.specs.declared.search.Frame.{Frame}
use Rattle.wf_order.specs.Rows.{ended_rows, row_of}
use Rattle.wf_order.specs.Steps.{IsLimit}
use Rattle.wf_order.specs.Verdict.{HasLegal}

-- each list has a count for each process
abbrev pub AreSized : ℕ → List (List ℕ) → Type 0
AreSized processes taken = (counts : List ℕ) → Contains taken counts → length counts ≡ processes

-- where the next calls of the processes end, they end before this place
abbrev pub EndsBefore : Rows → List ℕ → ℕ → Type 0
EndsBefore rows counts place = (process : ℕ) (end : Ended) → process < length counts → slice_get (row_of (ended_rows rows) process) (get_or counts process 0) ≡ Some end → end.place < place

module _ {Call Reply : Type 0} (history : List (Event Call Reply)) where
  -- the first end that is not taken is no farther than this place
  pub record IsWithin (counts : List ℕ) (farthest : ℕ) : Type 0 where
    pub limit : ℕ
    pub is : IsLimit history counts limit
    pub within : limit ≤ farthest

  -- all go as far as this place at most, and one does, unless it is the first place
  pub record IsFarthest (taken : List (List ℕ)) (farthest : ℕ) : Type 0 where
    pub all : (counts : List ℕ) → Contains taken counts → IsWithin counts farthest
    pub one : (farthest ≡ 0) ⊎ ((counts : List ℕ) × Contains taken counts × IsLimit history counts farthest)

  -- a frame from which all steps are still to be tried
  pub record IsFresh (taken : List (List ℕ)) (f : Frame) : Type 0 where
    pub counts : List ℕ
    pub at : slice_get taken f.place ≡ Some counts
    pub next : f.next ≡ 0
    pub limit : IsLimit history counts f.limit

  -- of what was found each has a fresh frame, or its next calls end before this place, where they end
  pub record AreFramed (rows : Rows) (taken : List (List ℕ)) (place : ℕ) (frames : List Frame) : Type 0 where
    pub fresh : (f : Frame) → Contains frames f → IsFresh taken f
    pub all : (k : ℕ) (counts : List ℕ) → slice_get taken k ≡ Some counts → EndsBefore rows counts place ⊎ ((f : Frame) × Contains frames f × (f.place ≡ k))

-- what is said of events: that they have a legal order, or have none, or nothing
abbrev pub IsFound : {M : Type 0} → (ObjectCall → M → M → Reply → Type 0) → M → List (Event ObjectCall Reply) → Front → Type 0
IsFound Effect opening history Fronts.Legal = HasLegal Effect opening history
IsFound Effect opening history Fronts.Illegal = ¬ HasLegal Effect opening history
IsFound Effect opening history Fronts.Unknown = Unit {0}
