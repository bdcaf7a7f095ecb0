-- The replies of a call, so far.
use Rattle.std.proofs.Common.{◌≡◌, refl, sym, ap, ◌∙◌, subst, ℕ, ◌+◌, ◌<◌, ◌≤◌, List, [], ◌∷◌, ◌++◌, length, get_or, set, map, Some, arith, inl, inr}
use Rattle.std.proofs.lemmas.Bool.{cases_eq}
use Rattle.std.proofs.lemmas.List.{map-append}
use Rattle.std.proofs.lemmas.Option.{slice_get_within}
use Rattle.std.proofs.lemmas.List.Elements.{Contains-append_left, Contains-push}
use Rattle.std.specs.List.{slice_get, Contains}
use Rattle.wf_history.specs.declared.event.CallId.{CallId}
use Rattle.wf_history.proofs.Positions.{place_push, contains_at, one_item}
use Rattle.wf_outcomes.specs.Merges.{Configuration, IsStep}
use Rattle.wf_outcomes.specs.Explored.{Kept, IsExplored}
use Rattle.wf_outcomes.specs.Outcomes.{AreReplies, Had, HasNoReply, IsAdded, IsOnlyReply, reply_had}
use Rattle.wf_outcomes.proofs.Meeting.{AreTold, IsAlike}

module _ {State Call Reply : Type 0} (Effect : Call → State → State → Reply → Type 0) (scripts : List (List Call)) where
  -- a call that is next at a configuration is next at each that is alike, with the same reply
  step_alike : (c d : Configuration State) (id : CallId) (reply : Reply) → IsStep Effect scripts c id reply d → (b : Configuration State) → IsAlike id.process b c → (e : Configuration State) × IsStep Effect scripts b id reply e
  step_alike c d id reply s b a = (
    record { counts = set b.counts id.process id.number; state = d.state },
    record {
      call = s.call;
      process = a.within;
      listed = ap (slice_get (get_or scripts id.process [])) a.count ∙ s.listed;
      number = s.number ∙ ap (λ (n : ℕ). n + 1) (sym a.count);
      effect = subst (λ (x : State). Effect s.call x d.state reply) (sym a.state) s.effect;
      counts = refl;
    },
  )

module _ {State Call Reply : Type 0} (Effect : Call → State → State → Reply → Type 0) (scripts : List (List Call)) (found : List (Kept State)) (places : List ℕ) (id : CallId) where
  -- the call has the reply at the place
  abbrev HasAt : Had Reply → Type 0
  HasAt h = (e : Kept State) × (d : Configuration State) × (slice_get found h.place ≡ Some e) × IsStep Effect scripts e.here id h.reply d

  -- the replies that the call has at so many of the places, each once
  pub record AreSoFar (replies : List (Had Reply)) (bound : ℕ) : Type 0 where
    pub had : (k : ℕ) (h : Had Reply) → slice_get replies k ≡ Some h → HasAt h
    pub every : (row k : ℕ) (e : Kept State) (d : Configuration State) (reply : Reply) → row < bound → slice_get places row ≡ Some k → slice_get found k ≡ Some e → IsStep Effect scripts e.here id reply d → Contains (map reply_had replies) reply
    pub once : (j k : ℕ) (reply : Reply) → slice_get (map reply_had replies) j ≡ Some reply → slice_get (map reply_had replies) k ≡ Some reply → j ≡ k

  pub none_so_far : (replies : List (Had Reply)) → replies ≡ [] → AreSoFar replies 0
  none_so_far replies none = record {
    had = λ k h at. let e : slice_get [] k ≡ Some h = ap (λ (l : List (Had Reply)). slice_get l k) (sym none) ∙ at in absurd (cc);
    every = λ row k e d r lt is at s. absurd (omega (arith, lt));
    once = λ j k r at also. let e : slice_get [] j ≡ Some r = ap (λ (l : List (Had Reply)). slice_get (map reply_had l) j) (sym none) ∙ at in absurd (cc);
  }

  module _ (replies : List (Had Reply)) (bound : ℕ) (h : AreSoFar replies bound) (place : ℕ) (listed : slice_get places bound ≡ Some place) (e : Kept State) (at : slice_get found place ≡ Some e) where
    -- replies with which the place below the bound is served
    served : (more : List Reply) → ((r : Reply) → Contains (map reply_had replies) r → Contains more r) → ((d : Configuration State) (r : Reply) → IsStep Effect scripts e.here id r d → Contains more r) →
        (row k : ℕ) (f : Kept State) (d : Configuration State) (r : Reply) → row < bound + 1 → slice_get places row ≡ Some k → slice_get found k ≡ Some f → IsStep Effect scripts f.here id r d → Contains more r
    served more old new row k f d r lt is there s =
        elim (cases_eq row bound) [
          | inl same ↦
              let here : place ≡ k = one_item places bound place k listed (ap (slice_get places) (sym same) ∙ is) in
              new d r (subst (λ (x : Kept State). IsStep Effect scripts x.here id r d) (sym (one_item found place e f at (ap (slice_get found) here ∙ there))) s)
          | inr other ↦ old r (h.every row k f d r (omega (arith, lt, other)) is there s)
        ]

    pub no_reply : HasNoReply Effect scripts e.here id → AreSoFar replies (bound + 1)
    no_reply never = record { had = h.had; every = served (map reply_had replies) (λ r c. c) (λ d r s. absurd (never r d s)); once = h.once }

    old_reply : (reply : Reply) → IsOnlyReply Effect scripts e.here id reply → Contains (map reply_had replies) reply → AreSoFar replies (bound + 1)
    old_reply reply only old = record {
      had = h.had;
      every = served (map reply_had replies) (λ r c. c) (λ d r s. subst (λ (x : Reply). Contains (map reply_had replies) x) (sym (only.1 r d s)) old);
      once = h.once;
    }

    new_reply : (reply : Reply) → IsOnlyReply Effect scripts e.here id reply → ¬ Contains (map reply_had replies) reply → AreSoFar (replies ++ record { reply = reply; place = place } ∷ []) (bound + 1)
    new_reply reply only new = record {
      had = λ k g there. elim (place_push replies (record { reply = reply; place = place }) k g there) [
        | inl old ↦ h.had k g old
        | inr now ↦ subst HasAt now.1 (e, only.0.0, at, only.0.1)
      ];
      every = served (map reply_had (replies ++ record { reply = reply; place = place } ∷ []))
          (λ r c. subst (λ (l : List Reply). Contains l r) (sym pushed) (Contains-append_left (map reply_had replies) (reply ∷ []) r c))
          (λ d r s. subst (λ (l : List Reply). Contains l r) (sym pushed) (subst (λ (x : Reply). Contains (map reply_had replies ++ reply ∷ []) x) (sym (only.1 r d s)) (Contains-push (map reply_had replies) reply)));
      once = λ j k r there also. once_more j k r (ap (λ (l : List Reply). slice_get l j) (sym pushed) ∙ there) (ap (λ (l : List Reply). slice_get l k) (sym pushed) ∙ also);
    }
      where
        pushed : map reply_had (replies ++ record { reply = reply; place = place } ∷ []) ≡ map reply_had replies ++ reply ∷ []
        pushed = map-append reply_had replies (record { reply = reply; place = place } ∷ [])

        once_more : (j k : ℕ) (r : Reply) → slice_get (map reply_had replies ++ reply ∷ []) j ≡ Some r → slice_get (map reply_had replies ++ reply ∷ []) k ≡ Some r → j ≡ k
        once_more j k r there also = elim (place_push (map reply_had replies) reply j r there) [
          | inl one ↦ elim (place_push (map reply_had replies) reply k r also) [
            | inl two ↦ h.once j k r one two
            | inr two ↦ absurd (new (subst (λ (x : Reply). Contains (map reply_had replies) x) (sym two.1) (contains_at (map reply_had replies) j r one)))
          ]
          | inr one ↦ elim (place_push (map reply_had replies) reply k r also) [
            | inl two ↦ absurd (new (subst (λ (x : Reply). Contains (map reply_had replies) x) (sym one.1) (contains_at (map reply_had replies) k r two)))
            | inr two ↦ one.0 ∙ sym two.0
          ]
        ]

    pub one_reply : (reply : Reply) → IsOnlyReply Effect scripts e.here id reply → (more : List (Had Reply)) → IsAdded replies more (record { reply = reply; place = place }) → AreSoFar more (bound + 1)
    one_reply reply only more w =
        elim w [
          | inl old ↦ subst (λ (l : List (Had Reply)). AreSoFar l (bound + 1)) (sym old.1) (old_reply reply only old.0)
          | inr new ↦ subst (λ (l : List (Had Reply)). AreSoFar l (bound + 1)) (sym new.1) (new_reply reply only new.0)
        ]

  -- all places are gone over
  pub all_replies : (opening : State) → IsExplored Effect scripts opening found → AreTold found places → (replies : List (Had Reply)) (bound : ℕ) → AreSoFar replies bound → length places ≤ bound → AreReplies Effect scripts opening found id replies
  all_replies opening x told replies bound h end = record {
    had = λ k g at. let p = h.had k g at in record { it = p.0; there = p.2; reached = x.reached g.place p.0 p.2; after = p.1; step = p.3 };
    every = λ r p.
        let f = x.complete p.0 p.2 in
        let s : IsStep Effect scripts f.1.here id r p.1 = subst (λ (c : Configuration State). IsStep Effect scripts c id r p.1) (sym f.3) p.3 in
        let t = told f.0 f.1 id.process f.2 s.process in
        let alike = step_alike Effect scripts f.1.here p.1 id r s t.one.here t.alike in
        let within = slice_get_within places t.row t.place t.listed in
        h.every t.row t.place t.one alike.0 r (omega (arith, within, end)) t.listed t.there alike.1;
    once = h.once;
  }
