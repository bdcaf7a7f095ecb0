-- The call that another one overtook: it is found, or the other one doesn't stand too early.
use Rattle.std.proofs.Common.{◌≡◌, ◌↔◌, ℕ, ◌+◌, suc, List, None, Option, Some, arith, drop, inl, inr, length, slice_get, take}
use Rattle.std.proofs.lemmas.Bool.{cases_lt}
use Rattle.std.specs.List.{Contains}
use Rattle.ob_interface.specs.Call.{ObjectCall, Reply}
use Rattle.ob_object_run.specs.OrderFaults.{IsListFault}
use Rattle.ob_object_run.specs.Places.{BeginsAt}
use Rattle.ob_object_run.specs.declared.order_checker.OrderFault.TheVariants as Order
use Rattle.ob_object_calls.proofs.Items.{behind_here, split_here}
use Rattle.ob_object_calls.specs.Early.{IsEnded, IsOvertaken, IsOvertakenFound}
use Rattle.ob_object_calls.specs.MadeCalls.{NeverBegan}
use Rattle.wf_history.proofs.Once.{one_begin}
use Rattle.wf_history.proofs.Positions.{contains_at, place_in_take, place_of, place_take, places_of_split, split_twice}
use Rattle.wf_history.specs.History as History
use Rattle.wf_history.specs.History.{Before, Begin, End, Event, IsHistory}
use Rattle.wf_history.specs.declared.event.CallId.{CallId}

module _ (history : List (Event ObjectCall Reply)) (order : List CallId) (id : CallId) where
  -- an order that lacks the call
  pub lacking : ¬ Contains order id → ¬ IsListFault history order (Order.TooEarly id)
  lacking lacks f = lacks (contains_at order f.2.place id f.2.here)

  begun_behind : (other : CallId) → NeverBegan history id → ¬ Before history other id
  begun_behind other never (History.before reply call first between last split) =
      let p = places_of_split history first between last (End other reply) (Begin id call) split in
      never call (contains_at history (length first + suc (length between)) (Begin id call) p.1)

  -- a call that never began
  pub unbegun : NeverBegan history id → ¬ IsListFault history order (Order.TooEarly id)
  unbegun never f = begun_behind f.2.holds.1 never f.2.holds.4

  module _ (place begin : ℕ) (here : slice_get order place ≡ Some id) (begins : BeginsAt history id begin) where
    -- a call that stands behind this one ended among the events before this one's Begin
    pub found : (other : CallId) (reply : Reply) → Contains (drop (suc place) order) other → Contains (take begin history) (End other reply) → IsOvertaken history order id other
    found other reply listed ended =
        let p = place_of (take begin history) (End other reply) ended in
        let at = place_take begin history p.0 (End other reply) p.1 in
        let s = split_twice history p.0 begin (End other reply) (Begin id begins.0) at.1 at.0 begins.1 in
        record {
          before = take place order;
          behind = drop (suc place) order;
          here = split_here order place id here;
          listed = listed;
          ended = History.before reply begins.0 s.0 s.1 s.2 s.3;
        }

    module _ (whole : IsHistory history) (none : (other : CallId) (reply : Reply) → Contains (drop (suc place) order) other → ¬ Contains (take begin history) (End other reply)) where
      no_end_before : (other : CallId) → Contains (drop (suc place) order) other → ¬ Before history other id
      no_end_before other listed (History.before reply call first between last split) =
          let p = places_of_split history first between last (End other reply) (Begin id call) split in
          let same = one_begin history whole id begin (length first + suc (length between)) begins.0 call begins.1 p.1 in
          none other reply listed
          (contains_at (take begin history) (length first) (End other reply) (place_in_take begin history (length first) (End other reply) p.0 (omega (arith, same))))

      -- no call that stands behind it did
      pub in_time : ¬ IsListFault history order (Order.TooEarly id)
      in_time f =
          let early = f.2.holds in
          elim (cases_lt place early.0) [
            | inl lt ↦ no_end_before early.1 (behind_here order place early.0 early.1 early.3 lt) early.4
            | inr ge ↦
                let before = early.2 in
                f.0 place id here (inr (contains_at (take place order) f.2.place id (place_in_take place order f.2.place id f.2.here (omega (arith, before, ge)))))
          ]

-- which calls are looked for
pub ended_of : (events : List (Event ObjectCall Reply)) (Listed Other : CallId → Type 0) → ((q : CallId) → Listed q ↔ Other q) → (ended : Option CallId) → IsEnded events Listed ended → IsEnded events Other ended
ended_of events Listed Other same None none = λ id reply listed. none id reply ((same id).1 listed)
ended_of events Listed Other same (Some id) e = ((same id).0 e.0, e.1)

-- the call that is found behind this one
pub overtaken_found : (history : List (Event ObjectCall Reply)) (order : List CallId) (id : CallId) (place begin : ℕ) → slice_get order place ≡ Some id → BeginsAt history id begin → IsHistory history →
    (other : Option CallId) → IsEnded (take begin history) (Contains (drop (suc place) order)) other → IsOvertakenFound history order id other
overtaken_found history order id place begin here begins whole None none = in_time history order id place begin here begins whole none
overtaken_found history order id place begin here begins whole (Some other) e = found history order id place begin here begins other e.1.0 e.0 e.1.1
