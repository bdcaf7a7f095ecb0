-- Legal orders without some of their open calls.
use Rattle.std.proofs.Common.{◌≡◌, ◌∙◌, refl, sym, ap, subst, ℕ, zero, suc, ◌+◌, ◌<◌, List, [], ◌∷◌, ◌++◌, length, Option, Some, None, Vec, Global, arith}
use Rattle.std.proofs.lemmas.List.{length-append, map-append}
use Rattle.std.proofs.lemmas.List.Elements.{All-contains}
use Rattle.std.proofs.lemmas.Option.{MatchOption-at_none, same_Some}
use Rattle.std.specs.Prelude.{slice_get, Contains, IfSome, MatchOption}
use Rattle.ob_interface.specs.Call.{ObjectCall, Reply}
use Rattle.wf_history.proofs.Once.{one_call, one_reply}
use Rattle.wf_history.proofs.Positions.{contains_at, place_here, place_of, places_of_split, split_twice}
use Rattle.wf_history.specs.declared.event.CallId.{CallId}
use Rattle.wf_history.specs.declared.seen_event.SeenReply.{SeenReply}
use Rattle.wf_history.specs.History.{Event, End, Before, IsHistory}
use Rattle.wf_history.specs.Legal.{HasBegun, IsLegal, NoRepeats, OneAtATime, RepliesAgree, none, more}
use Rattle.wf_history.specs.View.{seen_call, seen_reply}
use Rattle.wf_needed.specs.Listed.{AreListed, EachIsNeeded, IsOpenCall, NoneIsOpen, Replays, id_of, ids_of, over, next}
use Rattle.wf_needed.specs.Needed.{IsOpen, LeavesOut, NoneIsNeedless, nothing, one}
use Rattle.wf_needed.specs.declared.listed_calls.Listed.{Listed}

-- where an item stands that stood at a place before one was put behind the first ones
abbrev up : {A : Type 0} → List A → ℕ → ℕ
up [] k = suc k
up (a ∷ first) zero = zero
up (a ∷ first) (suc k) = suc (up first k)

module _ {A : Type 0} where
  up_at : (first rest : List A) (x : A) (k : ℕ) (y : A) → slice_get (first ++ rest) k ≡ Some y → slice_get (first ++ x ∷ rest) (up first k) ≡ Some y
  up_at [] rest x k y h = h
  up_at (a ∷ first) rest x zero y h = h
  up_at (a ∷ first) rest x (suc k) y h = up_at first rest x k y h

  up_less : (first : List A) (i j : ℕ) → i < j → up first i < up first j
  up_less [] i j lt = omega (arith, lt)
  up_less (a ∷ first) i zero lt = absurd (omega (arith, lt))
  up_less (a ∷ first) zero (suc j) lt = omega arith
  up_less (a ∷ first) (suc i) (suc j) lt = let r = up_less first i j (omega (arith, lt)) in omega (arith, r)

  more_contains : (first rest : List A) (x y : A) → Contains (first ++ rest) y → Contains (first ++ x ∷ rest) y
  more_contains first rest x y h = let p = place_of (first ++ rest) y h in contains_at (first ++ x ∷ rest) (up first p.0) y (up_at first rest x p.0 y p.1)

  -- what is not the item that is left out
  less_at : (first rest : List A) (x : A) (k : ℕ) (y : A) → slice_get (first ++ x ∷ rest) k ≡ Some y → (x ≡ y → ⊥) → (j : ℕ) × (slice_get (first ++ rest) j ≡ Some y)
  less_at [] rest x zero y h other = absurd (other (same_Some x y h))
  less_at [] rest x (suc k) y h other = (k, h)
  less_at (a ∷ first) rest x zero y h other = (zero, h)
  less_at (a ∷ first) rest x (suc k) y h other = let r = less_at first rest x k y h other in (suc r.0, r.1)

  less_contains : (first rest : List A) (x y : A) → Contains (first ++ x ∷ rest) y → (x ≡ y → ⊥) → Contains (first ++ rest) y
  less_contains first rest x y h other =
      let p = place_of (first ++ x ∷ rest) y h in
      let q = less_at first rest x p.0 y p.1 other in
      contains_at (first ++ rest) q.0 y q.1

once_less : (first rest : List CallId) (id : CallId) → NoRepeats (first ++ id ∷ rest) → NoRepeats (first ++ rest)
once_less [] rest id once = once.1
once_less (a ∷ first) rest id once = (λ c. once.0 (more_contains first rest id a c), once_less first rest id once.1)

module _ {Call Reply : Type 0} (history : List (Event Call Reply)) where
  -- what a legal order is but for the replies
  pub record IsArranged (order : List CallId) : Type 0 where
    pub once : NoRepeats order
    pub ended : (id : CallId) (reply : Reply) → Contains history (End id reply) → Contains order id
    pub in_time : (first second third : List CallId) (a b : CallId) → order ≡ first ++ a ∷ (second ++ b ∷ third) → ¬ Before history b a

  arranged_less : (first rest : List CallId) (id : CallId) → IsArranged (first ++ id ∷ rest) → IsOpen history id → IsArranged (first ++ rest)
  arranged_less first rest id r opens = record {
    once = once_less first rest id r.once;
    ended = λ a reply end.
        less_contains first rest id a (r.ended a reply end) (λ same. opens reply (subst (λ (x : CallId). Contains history (End x reply)) (sym same) end));
    in_time = λ front second third a b parts.
        let p = places_of_split (first ++ rest) front second third a b parts in
        let i = length front in
        let j = length front + suc (length second) in
        let s = split_twice (first ++ id ∷ rest) (up first i) (up first j) a b (up_less first i j (omega arith)) (up_at first rest id i a p.0) (up_at first rest id j b p.1) in
        r.in_time s.0 s.1 s.2 a b s.3;
  }

listed_less : (history : List (Event ObjectCall Reply)) (first rest : List Listed) (c : Listed) → AreListed history (first ++ c ∷ rest) → AreListed history (first ++ rest)
listed_less history first rest c are k d at = are (up first k) d (up_at first rest c k d at)

-- the names of two lists
ids_joined : (first rest : List Listed) → ids_of (first ++ rest) ≡ ids_of first ++ ids_of rest
ids_joined first rest = map-append id_of first rest

-- a list whose names are split so
split_ids : (all : List Listed) (first : List CallId) (id : CallId) (rest : List CallId) → ids_of all ≡ first ++ id ∷ rest →
    (front : List Listed) × (c : Listed) × (back : List Listed) × (all ≡ front ++ c ∷ back) × (ids_of front ≡ first) × (c.id ≡ id) × (ids_of back ≡ rest)
split_ids [] [] id rest h = absurd (cc)
split_ids [] (f ∷ first) id rest h = absurd (cc)
split_ids (c ∷ all) [] id rest h = ([], c, all, refl, refl, cc, cc)
split_ids (c ∷ all) (f ∷ first) id rest h =
    let tail : ids_of all ≡ first ++ id ∷ rest = cc in
    let head : c.id ≡ f = cc in
    let r = split_ids all first id rest tail in
    (c ∷ r.0, r.1, r.2, ap (λ (cs : List Listed). c ∷ cs) r.3, cc, r.5, r.6)

module _ (history : List (Event ObjectCall Reply)) where
  -- some open calls are left out of an order
  pub left_arranged : {all kept : List Listed} → LeavesOut IsOpenCall all kept → AreListed history all → IsArranged history (ids_of all) → AreListed history kept × IsArranged history (ids_of kept)
  left_arranged (nothing same) are r = (subst (λ (cs : List Listed). AreListed history cs) (sym same) are, subst (λ (cs : List Listed). IsArranged history (ids_of cs)) (sym same) r)
  left_arranged {all} {kept} (one first rest c left parts opens is) are r =
      let h = left_arranged left are r in
      let there = subst (λ (cs : List Listed). AreListed history cs) parts h.0 in
      let never : IsOpen history c.id = MatchOption-at_none (IsOpen history c.id) (λ (s : SeenReply). Contains history (End c.id (seen_reply s))) opens (there (length first) c (place_here first rest c)).reply in
      let order = subst (λ (ids : List CallId). IsArranged history ids) (ap ids_of parts ∙ ids_joined first (c ∷ rest)) h.1 in (
        subst (λ (cs : List Listed). AreListed history cs) (sym is) (listed_less history first rest c there),
        subst (λ (ids : List CallId). IsArranged history ids) (sym (ap ids_of is ∙ ids_joined first rest)) (arranged_less history (ids_of first) (ids_of rest) c.id order never),
      )

  pub left_ids : {all kept : List Listed} → LeavesOut IsOpenCall all kept → AreListed history all → AreListed history kept × LeavesOut (IsOpen history) (ids_of all) (ids_of kept)
  left_ids (nothing same) are = (subst (λ (cs : List Listed). AreListed history cs) (sym same) are, nothing (ap ids_of same))
  left_ids (one first rest c left parts opens is) are =
      let h = left_ids left are in
      let there = subst (λ (cs : List Listed). AreListed history cs) parts h.0 in
      let never : IsOpen history c.id = MatchOption-at_none (IsOpen history c.id) (λ (s : SeenReply). Contains history (End c.id (seen_reply s))) opens (there (length first) c (place_here first rest c)).reply in (
        subst (λ (cs : List Listed). AreListed history cs) (sym is) (listed_less history first rest c there),
        one (ids_of first) (ids_of rest) c.id h.1 (ap ids_of parts ∙ ids_joined first (c ∷ rest)) never (ap ids_of is ∙ ids_joined first rest),
      )

  -- a call that does not end has no reply
  no_reply : (id : CallId) (o : Option SeenReply) → MatchOption o (IsOpen history id) (λ (s : SeenReply). Contains history (End id (seen_reply s))) → IsOpen history id → o ≡ None
  no_reply id None known opens = refl
  no_reply id (Some s) known opens = absurd (opens (seen_reply s) known)

  known_so : (id : CallId) (o : Option SeenReply) (Q : SeenReply → Type 0) → MatchOption o (IsOpen history id) (λ (s : SeenReply). Contains history (End id (seen_reply s))) →
      ((s : SeenReply) → Contains history (End id (seen_reply s)) → Q s) → IfSome o Q
  known_so id None Q known is = tt
  known_so id (Some s) Q known is = is s known

  module _ (whole : IsHistory history) {State : Type 0} (Effect : ObjectCall → State → State → Reply → Type 0) where
    agree_of : (id : CallId) (o : Option SeenReply) (reply : Reply) → MatchOption o (IsOpen history id) (λ (s : SeenReply). Contains history (End id (seen_reply s))) → IfSome o (λ (s : SeenReply). seen_reply s ≡ reply) →
        (other : Reply) → Contains history (End id other) → other ≡ reply
    agree_of id None reply known is other end = absurd (known other end)
    agree_of id (Some s) reply known is other end = one_reply history whole id other (seen_reply s) end known ∙ is

    -- what is made has begun
    pub begun_of : {before after : State} {ids : List CallId} {replies : List Reply} → OneAtATime (HasBegun history) Effect before ids replies after →
        (k : ℕ) (id : CallId) → slice_get ids k ≡ Some id → (call : ObjectCall) × HasBegun history id call
    begun_of none k id at = absurd (cc)
    begun_of (more {id = first} {call = call} begun does rest) zero id at = (call, subst (λ (x : CallId). HasBegun history x call) (same_Some first id at) begun)
    begun_of (more begun does rest) (suc k) id at = begun_of rest k id at

    -- calls that are made with their replies are made as the history has them
    pub made_of : (all : List Listed) (before after : State) → AreListed history all → Replays Effect before all after →
        (replies : List Reply) × OneAtATime (HasBegun history) Effect before (ids_of all) replies after × RepliesAgree history (ids_of all) replies
    made_of [] before after are (over) = ([], none, none)
    made_of (c ∷ all) before after are (next {between = between} e r) =
        let i = are 0 c refl in
        let m = made_of all between after (λ k d at. are (suc k) d at) r in
        (e.0 ∷ m.0, more i.begun e.1 m.1, more (agree_of c.id c.reply e.0 i.reply e.2) m.2)

    -- and the other way round
    pub replays_of : (all : List Listed) (replies : List Reply) (before after : State) → AreListed history all →
        OneAtATime (HasBegun history) Effect before (ids_of all) replies after → RepliesAgree history (ids_of all) replies → Replays Effect before all after
    replays_of [] [] before after are (none) (none) = over
    replays_of [] (r ∷ replies) before after are h g = elim h [ ]
    replays_of (c ∷ all) [] before after are h g = elim h [ ]
    replays_of (c ∷ all) (r ∷ replies) before after are (more {between = between} {call = call} begun does rest) (more same agree) =
        let i = are 0 c refl in
        let is = one_call history whole c.id call (seen_call c.call) begun i.begun in
        next
        (r, subst (λ (x : ObjectCall). Effect x before between r) is does, known_so c.id c.reply (λ (s : SeenReply). seen_reply s ≡ r) i.reply (λ s end. same (seen_reply s) end))
        (replays_of all replies between after (λ k d at. are (suc k) d at) rest agree)

    module _ (opening : State) (order : List CallId) (all : List Listed) (ids : ids_of all ≡ order) (are : AreListed history all) where
      -- a legal order is made so
      pub order_replays : (last : State) → IsLegal Effect opening history order last → Replays Effect opening all last
      order_replays last l =
          let l = subst (λ (o : List CallId). IsLegal Effect opening history o last) (sym ids) l in
          replays_of all l.replies opening last are l.made l.agree

      module _ (kept : List Listed) (left : LeavesOut IsOpenCall all kept) (needed : List CallId) (names : needed ≡ ids_of kept) where
        kept_listed : AreListed history kept
        kept_listed = (left_ids left are).0

        -- what is kept is legal
        pub kept_legal : (last end : State) → IsLegal Effect opening history order last → Replays Effect opening kept end → IsLegal Effect opening history needed end
        kept_legal last end legal replays =
            let l = subst (λ (o : List CallId). IsLegal Effect opening history o last) (sym ids) legal in
            let a = (left_arranged left are (record { once = l.once; ended = l.ended; in_time = l.in_time })).1 in
            let m = made_of kept opening end kept_listed replays in
            subst (λ (o : List CallId). IsLegal Effect opening history o end) (sym names) (record {
              once = a.once;
              ended = a.ended;
              in_time = a.in_time;
              replies = m.0;
              made = m.1;
              agree = m.2;
            })

        pub kept_left : LeavesOut (IsOpen history) order needed
        kept_left =
            subst (λ (o : List CallId). LeavesOut (IsOpen history) order o) (sym names)
            (subst (λ (o : List CallId). LeavesOut (IsOpen history) o (ids_of kept)) ids (left_ids left are).1)

        -- and no open call of it can be left out
        pub kept_needed : EachIsNeeded Effect opening kept → NoneIsNeedless Effect opening history needed
        kept_needed each first rest id last parts opens legal =
            let s = split_ids kept first id rest (sym names ∙ parts) in
            let c = s.1 in
            let there = subst (λ (cs : List Listed). AreListed history cs) s.3 kept_listed in
            let known = (there (length s.0) c (place_here s.0 s.2 c)).reply in
            let open_call = no_reply c.id c.reply known (subst (λ (x : CallId). IsOpen history x) (sym s.5) opens) in
            let joined : first ++ rest ≡ ids_of (s.0 ++ s.2) =
            ap (λ (xs : List CallId). xs ++ rest) (sym s.4) ∙ ap (λ (xs : List CallId). ids_of s.0 ++ xs) (sym s.6) ∙ sym (ids_joined s.0 s.2) in
            let l = subst (λ (o : List CallId). IsLegal Effect opening history o last) joined legal in
            let replays = replays_of (s.0 ++ s.2) l.replies opening last (listed_less history s.0 s.2 c there) l.made l.agree in
            let size = ap length s.3 ∙ length-append s.0 (c ∷ s.2) in
            each s.0 s.2 c last s.3 (omega (arith, size)) open_call replays

-- of calls that have all ended none can be left out
pub ended_needed : {State : Type 0} (Effect : ObjectCall → State → State → Reply → Type 0) (opening : State) (history : List (Event ObjectCall Reply)) (order : List CallId) → NoneIsOpen history order →
    NoneIsNeedless Effect opening history order
ended_needed Effect opening history order ended first rest id last parts opens legal =
    let there = contains_at order (length first) id (subst (λ (ids : List CallId). slice_get ids (length first) ≡ Some id) (sym parts) (place_here first rest id)) in
    All-contains (λ (x : CallId). ¬ IsOpen history x) order id ended there opens

-- the calls that are listed are those of the order
pub listed_ids : (order : List CallId) (o : Option (Vec (Listed) Global)) (all : Vec (Listed) Global) → o ≡ Some all → IfSome o (λ v. ids_of v.items ≡ order) → ids_of all.items ≡ order
listed_ids order None all e h = absurd (cc)
listed_ids order (Some v) all e h = ap (λ (x : Vec (Listed) Global). ids_of x.items) (sym (same_Some v all e)) ∙ h
