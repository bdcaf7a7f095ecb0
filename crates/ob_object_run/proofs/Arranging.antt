-- Calls by their places, and calls by their ids: which of them stand too early.
use Rattle.std.proofs.Common.{◌≡◌, refl, sym, ap, ◌∙◌, subst, ℕ, ◌+◌, ◌<◌, zero, suc, List, [], ◌∷◌, length, map, option_map, Option, Some, None, arith}
use Rattle.std.proofs.lemmas.Option.{same_Some, slice_get-map}
use Rattle.std.specs.Prelude.{slice_get, Contains}
use Rattle.wf_history.specs.declared.event.CallId.{CallId}
use Rattle.ob_object_run.specs.declared.event_places.Placed.{Placed}
use Rattle.wf_history.specs.History.{Event, Begin, Applied, End, IsHistory, Before, before}
use Rattle.ob_object_run.specs.OrderFaults.{IsFirst, IsNowhere, EndsUnlisted, IsTooEarly}
use Rattle.ob_object_run.specs.Places.{ArePlaced, BeginsTooLate}
use Rattle.wf_history.proofs.Once.{one_begin, one_end}
use Rattle.ob_object_run.proofs.Placing.{not_ended, end_at}
use Rattle.wf_history.proofs.Positions.{split_twice, places_of_split, contains_at}

-- an event that ends no call, or one that is listed
pub no_end : {Call Reply : Type 0} (history : List (Event Call Reply)) (order : List CallId) (k : ℕ) (event : Event Call Reply) → ((id : CallId) (reply : Reply) → event ≡ End id reply → ⊥) → ¬ EndsUnlisted history order k event
no_end history order k (Begin id call) none unlisted = unlisted
no_end history order k (Applied ids) none unlisted = unlisted
no_end history order k (End id reply) none unlisted = none id reply refl

pub end_listed : {Call Reply : Type 0} (history : List (Event Call Reply)) (order : List CallId) (k : ℕ) (event : Event Call Reply) (id : CallId) (reply : Reply) → event ≡ End id reply → Contains order id → ¬ EndsUnlisted history order k event
end_listed history order k event id reply is listed =
    subst (λ (e : Event _ _). ¬ EndsUnlisted history order k e) (sym is) (λ missing. missing listed)

abbrev pub id_of : Placed → CallId
id_of x = x.id

item_under : (xs : List Placed) (k : ℕ) (id : CallId) → slice_get (map id_of xs) k ≡ Some id → (x : Placed) × (slice_get xs k ≡ Some x) × (x.id ≡ id)
item_under [] k id h = absurd (cc)
item_under (x ∷ xs) zero id h = (x, refl, same_Some x.id id h)
item_under (x ∷ xs) (suc k) id h = item_under xs k id h

module _ {Call Reply : Type 0} (history : List (Event Call Reply)) (whole : IsHistory history) (placed : List Placed) (all : ArePlaced history placed) where
  early_from_late : (k : ℕ) (x : Placed) → slice_get placed k ≡ Some x → BeginsTooLate placed k x → IsTooEarly history (map id_of placed) k x.id
  early_from_late k x here (later, other, end, lt, at, ends, less) =
      let begins = (all k x here).begins in
      let ended = end_at history other.id other.end end ends (all later other at).ends in
      let s = split_twice history end x.begin (End other.id ended.0) (Begin x.id begins.0) less ended.1 begins.1 in
      (later, other.id, lt, slice_get-map id_of placed later ∙ ap (option_map id_of) at, before ended.0 begins.0 s.0 s.1 s.2 s.3)

  late_with : (k later m n : ℕ) (x other : Placed) (end : Option ℕ) (reply : Reply) (call : Call) → other.end ≡ end → k < later → slice_get placed k ≡ Some x → slice_get placed later ≡ Some other →
      slice_get history m ≡ Some (End other.id reply) → slice_get history n ≡ Some (Begin x.id call) → m < n → BeginsTooLate placed k x
  late_with k later m n x other None reply call e lt here at ends begins less =
      absurd (not_ended history other.id other.end e (all later other at).ends reply (contains_at history m (End other.id reply) ends))
  late_with k later m n x other (Some end) reply call e lt here at ends begins less =
      let ended = end_at history other.id other.end end e (all later other at).ends in
      let begun = (all k x here).begins in
      let same = one_end history whole other.id end m ended.0 reply ended.1 ends in
      let also = one_begin history whole x.id x.begin n begun.0 call begun.1 begins in
      (later, other, end, lt, at, e, omega (arith, same, also))

  late_from_before : (k later : ℕ) (x other : Placed) → k < later → slice_get placed k ≡ Some x → slice_get placed later ≡ Some other → Before history other.id x.id → BeginsTooLate placed k x
  late_from_before k later x other lt here at (before reply call first between last split) =
      let p = places_of_split history first between last (End other.id reply) (Begin x.id call) split in
      late_with k later (length first) (length first + suc (length between)) x other other.end reply call refl lt here at p.0 p.1 (omega arith)

  late_from_early : (k : ℕ) (x : Placed) → slice_get placed k ≡ Some x → IsTooEarly history (map id_of placed) k x.id → BeginsTooLate placed k x
  late_from_early k x here (later, id, lt, at, early) =
      let u = item_under placed later id at in
      late_from_before k later x u.0 lt here u.1 (subst (λ (i : CallId). Before history i x.id) (sym u.2) early)

  pub none_early : (order : List CallId) → map id_of placed ≡ order → IsNowhere (BeginsTooLate placed) placed → IsNowhere (IsTooEarly history order) order
  none_early order ids none =
      subst (λ (is : List CallId). IsNowhere (IsTooEarly history is) is) ids
      (λ k id here early.
      let u = item_under placed k id here in
      none k u.0 u.1 (late_from_early k u.0 u.1 (subst (λ (i : CallId). IsTooEarly history (map id_of placed) k i) (sym u.2) early)))

  pub first_early : (order : List CallId) (id : CallId) → map id_of placed ≡ order → (x : Placed) → x.id ≡ id → IsFirst (BeginsTooLate placed) placed x → IsFirst (IsTooEarly history order) order id
  first_early order id ids x named first =
      subst (λ (is : List CallId). IsFirst (IsTooEarly history is) is id) ids
      (subst (λ (i : CallId). IsFirst (IsTooEarly history (map id_of placed)) (map id_of placed) i) named (record {
        place = first.place;
        here = slice_get-map id_of placed first.place ∙ ap (option_map id_of) first.here;
        holds = early_from_late first.place x first.here first.holds;
        earlier = λ k other lt at early.
            let u = item_under placed k other at in
            first.earlier k u.0 lt u.1 (late_from_early k u.0 u.1 (subst (λ (i : CallId). IsTooEarly history (map id_of placed) k i) (sym u.2) early));
      }))
