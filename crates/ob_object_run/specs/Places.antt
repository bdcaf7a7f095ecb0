-- Where calls begin and end among the events of a history.
use Rattle.std.specs.Prelude.{◌≡◌, ℕ, ◌<◌, Bool, ◌&&◌, nat_eq, if◌then◌else◌, Option, Some, List, slice_get, MatchOption}
use Rattle.wf_history.specs.declared.event.CallId.{CallId}
use Rattle.ob_object_run.specs.declared.event_places.Placed.{Placed}
use Rattle.wf_history.specs.History.{Event, Begin, Applied, End}

-- the fact holds at the place, or at none where there is no place
abbrev pub IsPlaceOf : (ℕ → Type 0) → Option ℕ → Type 0
IsPlaceOf Fact place = MatchOption place ((k : ℕ) → ¬ Fact k) Fact

module _ {Call Reply : Type 0} (history : List (Event Call Reply)) where
  -- the call begins at this place
  abbrev pub BeginsAt : CallId → ℕ → Type 0
  BeginsAt id place = (call : Call) × (slice_get history place ≡ Some (Begin id call))

  -- the call ends at this place
  abbrev pub EndsAt : CallId → ℕ → Type 0
  EndsAt id place = (reply : Reply) × (slice_get history place ≡ Some (End id reply))

  -- a call with its places
  pub record IsPlaced (x : Placed) : Type 0 where
    pub begins : BeginsAt x.id x.begin
    pub ends : IsPlaceOf (EndsAt x.id) x.end

  abbrev pub ArePlaced : List Placed → Type 0
  ArePlaced placed = (k : ℕ) (x : Placed) → slice_get placed k ≡ Some x → IsPlaced x

-- one that stands behind this place ended before the call here began
abbrev pub BeginsTooLate : List Placed → ℕ → Placed → Type 0
BeginsTooLate placed place x =
    (later : ℕ) × (other : Placed) × (end : ℕ) × (place < later) × (slice_get placed later ≡ Some other) × (other.end ≡ Some end) × (end < x.begin)

-- whether two names are of one call
abbrev pub same_id : CallId → CallId → Bool
same_id a b = nat_eq a.process b.process && nat_eq a.number b.number

module _ {Call Reply : Type 0} where
  -- where a call begins and ends, as far as is known, after one more event
  abbrev pub begin_noted : ℕ → Event Call Reply → CallId → Option ℕ → Option ℕ
  begin_noted place (Begin id call) q old = if same_id id q then Some place else old
  begin_noted place (Applied ids) q old = old
  begin_noted place (End id reply) q old = old

  abbrev pub end_noted : ℕ → Event Call Reply → CallId → Option ℕ → Option ℕ
  end_noted place (Begin id call) q old = old
  end_noted place (Applied ids) q old = old
  end_noted place (End id reply) q old = if same_id id q then Some place else old

-- the places of each call
pub record ArePlaces {Call Reply : Type 0} (history : List (Event Call Reply)) (begins ends : CallId → Option ℕ) : Type 0 where
  pub begin : (id : CallId) → IsPlaceOf (BeginsAt history id) (begins id)
  pub end : (id : CallId) → IsPlaceOf (EndsAt history id) (ends id)
