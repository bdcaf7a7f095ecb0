-- Replies and ends, as they are told.
use Rattle.std.proofs.Common.{◌≡◌, refl, sym, ap, ◌∙◌, subst, ℕ, zero, suc, ◌≤◌, List, [], ◌∷◌, length, map, Some}
use Rattle.std.proofs.Math.Logic.{∥∥₁_map}
use Rattle.std.proofs.lemmas.Option.{same_Some}
use Rattle.std.specs.List.{slice_get}
use Rattle.wf_history.proofs.Positions.{place_of, contains_at, one_item}
use Rattle.wf_history.specs.declared.event.CallId.{CallId}
use Rattle.wf_outcomes.proofs.OutcomesLists.{map_place, place_map}
use Rattle.wf_outcomes.specs.Explored.{Kept, state_at}
use Rattle.wf_outcomes.specs.Merges.{Configuration, Leads, start}
use Rattle.wf_outcomes.specs.Outcomes.{AreFinals, AreReplies, Had, IsHad, LeadsToPlace, reply_had}
use Rattle.wf_outcomes.proofs.Matching.{Match, across}
use Rattle.wf_outcomes.specs.OutcomeOrders.{AreEndsTold, AreRepliesTold, End, HasBehind, IsItself, Told, reply_told}

module _ {State Call Reply : Type 0} (Effect : Call → State → State → Reply → Type 0) (scripts : List (List Call)) (opening : State) (found : List (Kept State)) where
  -- what is told of a reply that the call has at a place
  pub record TellsReply (id : CallId) (had : Had Reply) (told : Told Reply) : Type 0 where
    pub same : had.reply ≡ told.reply
    pub behind : ∥ HasBehind Effect scripts opening told.behind id told.reply ∥₁

  pub told_behind : (id : CallId) (had : Had Reply) → IsHad Effect scripts opening found id had → (told : Told Reply) → told.reply ≡ had.reply →
      LeadsToPlace Effect scripts opening found told.behind had.place → HasBehind Effect scripts opening told.behind id told.reply
  told_behind id had h told same led =
      subst (λ (r : Reply). HasBehind Effect scripts opening told.behind id r) (sym same) (
        h.it.here,
        h.after,
        subst (λ (e : Kept State). Leads Effect scripts (start Effect scripts opening) told.behind e.here) (one_item found had.place led.0 h.it led.1 h.there) led.2,
        h.step,
      )

  pub replies_are : (id : CallId) (had : List (Had Reply)) → AreReplies Effect scripts opening found id had → (told : List (Told Reply)) (bound : ℕ) →
      Match (TellsReply id) had told bound → length had ≤ bound → AreRepliesTold Effect scripts opening id told
  replies_are id had a told bound h all = record {
    had = λ k t at. (h.each k t at).is.behind;
    every = λ reply possible.
        let c = place_of (map reply_had had) reply (a.every reply possible) in
        let p = map_place reply_had had c.0 reply c.1 in
        let y = across (TellsReply id) had told bound h all c.0 p.0 p.1 in
        contains_at (map reply_told told) c.0 reply (place_map reply_told told c.0 y.item y.at ∙ ap Some (sym y.is.same ∙ p.2));
    once = λ j k reply at also.
        let p = map_place reply_told told j reply at in
        let q = map_place reply_told told k reply also in
        let m = h.each j p.0 p.1 in
        let n = h.each k q.0 q.1 in
        a.once j k reply (place_map reply_had had j m.item m.at ∙ ap Some (m.is.same ∙ p.2)) (place_map reply_had had k n.item n.at ∙ ap Some (n.is.same ∙ q.2));
  }

  -- what is told of the state at a place
  pub record TellsEnd (place : ℕ) (end : End State) : Type 0 where
    pub it : Kept State
    pub there : slice_get found place ≡ Some it
    pub same : it.here.state ≡ end.state
    pub leads : ∥ LeadsToPlace Effect scripts opening found end.order place ∥₁

  pub ends_are : (places : List ℕ) → AreFinals Effect scripts opening found places → (ends : List (End State)) (bound : ℕ) →
      Match TellsEnd places ends bound → length places ≤ bound → AreEndsTold IsItself Effect scripts opening ends
  ends_are places a ends bound h all = record {
    each = λ k end at.
        let m = h.each k end at in
        let f = a.final k m.item m.at in
        ∥∥₁_map m.is.leads (λ led. record {
          last = f.0.here.state;
          is = ap (λ (e : Kept State). e.here.state) (one_item found m.item f.0 m.is.it f.1 m.is.there) ∙ m.is.same;
          leads = subst (λ (c : Configuration State). Leads Effect scripts (start Effect scripts opening) end.order c)
              (ap (λ (e : Kept State). e.here) (one_item found m.item led.0 f.0 led.1 f.1) ∙ f.2) led.2;
        });
    every = λ last reached.
        let r = a.every last reached in
        let y = across TellsEnd places ends bound h all r.0 r.1 r.3 in
        (r.0, y.item, y.at, sym r.5 ∙ ap (λ (e : Kept State). e.here.state) (one_item found r.1 r.2 y.is.it r.4 y.is.there) ∙ y.is.same);
    once = λ j k one other last at also is so.
        let m = h.each j one at in
        let n = h.each k other also in
        a.once j k m.item n.item m.is.it n.is.it m.at n.at m.is.there n.is.there (m.is.same ∙ sym is ∙ so ∙ sym n.is.same);
  }

-- the configuration whose state stands at a place
pub state_there : {State : Type 0} (found : List (Kept State)) (k : ℕ) (state : State) → state_at found k ≡ Some state → (e : Kept State) × (slice_get found k ≡ Some e) × (e.here.state ≡ state)
state_there [] k state h = absurd (cc)
state_there (e ∷ found) zero state h = (e, refl, same_Some e.here.state state h)
state_there (e ∷ found) (suc k) state h = state_there found k state h
