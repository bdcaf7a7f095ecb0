-- Where the processes of a history go by other numbers, no two by the same, its legal orders are the same orders by those numbers.
use Rattle.std.proofs.Common.{◌≡◌, ◌∙◌, ℕ, zero, suc, ◌+◌, ◌<◌, List, [], ◌∷◌, ◌++◌, length, map, Some, None, sym, ap, subst, refl, arith, option_map, get_or, take, Bool, cond, inl, inr, eq-eqb}
use Rattle.std.proofs.lemmas.Bool.{cases_eq, ne_eqb}
use Rattle.std.proofs.lemmas.List.{map-append, take-map}
use Rattle.std.proofs.lemmas.List.Elements.{Contains-append_right}
use Rattle.std.proofs.lemmas.Option.{same_Some, slice_get-get_or, slice_get-map}
use Rattle.std.specs.List.{slice_get, Contains}
use Rattle.std.specs.Prelude.{Option, nat_eq}
use Rattle.ob_interface.specs.Call.{ObjectCall, Reply}
use Rattle.ob_text_reading.specs.Names.{AreApart, AreBelow, named, named_all, named_id}
use Rattle.wf_history.proofs.Positions.{contains_at, place_behind, place_here, place_left, place_of, place_take, same_call}
use Rattle.wf_history.specs.declared.event.CallId.{CallId}
use Rattle.wf_history.specs.History.{Event, Begin, Applied, End, Before}
use Rattle.wf_history.specs.Legal.{HasBegun, IsLegal, NoRepeats, OneAtATime, RepliesAgree, more, none}
use Rattle.wf_needed.specs.Needed.{NoneIsNeedless}
use Rattle.wf_order.proofs.Places.{before_at, places_before}
use Rattle.wf_order.specs.Verdict.{HasLegal, IsLastLegal}

-- items of a list that is mapped

module _ {A B : Type 0} (g : A → B) where
  abbrev maps : List A → List B
  maps xs = map g xs

  mapped_is : (o : Option A) (y : B) → option_map g o ≡ Some y → (x : A) × (o ≡ Some x) × (g x ≡ y)
  mapped_is None y h = absurd (cc)
  mapped_is (Some x) y h = (x, refl, same_Some (g x) y h)

  pub at_map : (xs : List A) (k : ℕ) (x : A) → slice_get xs k ≡ Some x → slice_get (map g xs) k ≡ Some (g x)
  at_map xs k x h = slice_get-map g xs k ∙ ap (option_map g) h

  pub at_mapped : (xs : List A) (k : ℕ) (y : B) → slice_get (map g xs) k ≡ Some y → (x : A) × (slice_get xs k ≡ Some x) × (g x ≡ y)
  at_mapped xs k y h = mapped_is (slice_get xs k) y (sym (slice_get-map g xs k) ∙ h)

  pub contains_map : (xs : List A) (x : A) → Contains xs x → Contains (map g xs) (g x)
  contains_map xs x h = let p = place_of xs x h in contains_at (map g xs) p.0 (g x) (at_map xs p.0 x p.1)

  pub contains_mapped : (xs : List A) (y : B) → Contains (map g xs) y → (x : A) × Contains xs x × (g x ≡ y)
  contains_mapped xs y h =
      let p = place_of (map g xs) y h in
      let q = at_mapped xs p.0 y p.1 in
      (q.0, contains_at xs p.0 q.0 q.1, q.2)

  first_is : (x y : B) (xs ys : List B) → x ∷ xs ≡ y ∷ ys → (x ≡ y) × (xs ≡ ys)
  first_is x y xs ys h = (cc, cc)

  -- what stands before an item and behind it
  split_map : (xs : List A) (first : List B) (y : B) (rest : List B) → map g xs ≡ first ++ y ∷ rest →
      (front : List A) × (x : A) × (back : List A) × (xs ≡ front ++ x ∷ back) × (g x ≡ y) × (map g back ≡ rest)
  split_map [] [] y rest h = absurd (cc)
  split_map [] (f ∷ first) y rest h = absurd (cc)
  split_map (x ∷ xs) [] y rest h = let s = first_is (g x) y (map g xs) rest h in ([], x, xs, refl, s.0, s.1)
  split_map (x ∷ xs) (f ∷ first) y rest h =
      let r = split_map xs first y rest (first_is (g x) f (map g xs) (first ++ y ∷ rest) h).1 in
      (x ∷ r.0, r.1, r.2, ap (λ (l : List A). x ∷ l) r.3, r.4, r.5)

  -- the same with what stands before it
  pub split_whole : (xs : List A) (first : List B) (y : B) (rest : List B) → map g xs ≡ first ++ y ∷ rest →
      (front : List A) × (x : A) × (back : List A) × (xs ≡ front ++ x ∷ back) × (map g front ≡ first) × (g x ≡ y) × (map g back ≡ rest)
  split_whole [] [] y rest h = absurd (cc)
  split_whole [] (f ∷ first) y rest h = absurd (cc)
  split_whole (x ∷ xs) [] y rest h = let s = first_is (g x) y (map g xs) rest h in ([], x, xs, refl, refl, s.0, s.1)
  split_whole (x ∷ xs) (f ∷ first) y rest h =
      let s = first_is (g x) f (map g xs) (first ++ y ∷ rest) h in
      let r = split_whole xs first y rest s.1 in
      (x ∷ r.0, r.1, r.2, ap (λ (l : List A). x ∷ l) r.3, ap (λ (z : B). z ∷ map g r.0) s.0 ∙ ap (λ (l : List B). f ∷ l) r.4, r.5, r.6)

  -- what comes back, item by item
  back_again : (h : B → A) (xs : List A) → ((k : ℕ) (x : A) → slice_get xs k ≡ Some x → h (g x) ≡ x) → map h (map g xs) ≡ xs
  back_again h [] known = refl
  back_again h (x ∷ xs) known =
      ap (λ (y : A). y ∷ map h (map g xs)) (known 0 x refl) ∙ ap (λ (l : List A). x ∷ l) (back_again h xs (λ k y at. known (suc k) y at))

pub behind : {A : Type 0} (x : A) (xs : List A) (y : A) → Contains xs y → Contains (x ∷ xs) y
behind x xs y h = let p = place_of xs y h in contains_at (x ∷ xs) (suc p.0) y p.1

module _ {Call Reply : Type 0} where
  -- the same events at the same places, with other ids
  pub record Renames (g : CallId → CallId) (from to : List (Event Call Reply)) : Type 0 where
    pub begins : (place : ℕ) (id : CallId) (call : Call) → slice_get from place ≡ Some (Begin id call) → slice_get to place ≡ Some (Begin (g id) call)
    pub ends : (place : ℕ) (id : CallId) (reply : Reply) → slice_get from place ≡ Some (End id reply) → slice_get to place ≡ Some (End (g id) reply)
    pub begun : (place : ℕ) (id : CallId) (call : Call) → slice_get to place ≡ Some (Begin id call) → (old : CallId) × (slice_get from place ≡ Some (Begin old call)) × (g old ≡ id)
    pub ended : (place : ℕ) (id : CallId) (reply : Reply) → slice_get to place ≡ Some (End id reply) → (old : CallId) × (slice_get from place ≡ Some (End old reply)) × (g old ≡ id)

  -- the ids of its events come back
  pub record ComesBack (g h : CallId → CallId) (history : List (Event Call Reply)) : Type 0 where
    pub begin : (place : ℕ) (id : CallId) (call : Call) → slice_get history place ≡ Some (Begin id call) → h (g id) ≡ id
    pub end : (place : ℕ) (id : CallId) (reply : Reply) → slice_get history place ≡ Some (End id reply) → h (g id) ≡ id

  module _ (g h : CallId → CallId) (from to : List (Event Call Reply)) (renames : Renames g from to) (back : ComesBack g h from) where
    pub turned : Renames h to from
    turned = record {
      begins = λ place id call at.
          let b = renames.begun place id call at in
          b.1 ∙ ap (λ (x : CallId). Some (Begin x call)) (sym (back.begin place b.0 call b.1) ∙ ap h b.2);
      ends = λ place id reply at.
          let e = renames.ended place id reply at in
          e.1 ∙ ap (λ (x : CallId). Some (End x reply)) (sym (back.end place e.0 reply e.1) ∙ ap h e.2);
      begun = λ place id call at. (g id, renames.begins place id call at, back.begin place id call at);
      ended = λ place id reply at. (g id, renames.ends place id reply at, back.end place id reply at);
    }

    pub turned_back : ComesBack h g to
    turned_back = record {
      begin = λ place id call at.
          let b = renames.begun place id call at in
          ap (λ (x : CallId). g (h x)) (sym b.2) ∙ ap g (back.begin place b.0 call b.1) ∙ b.2;
      end = λ place id reply at.
          let e = renames.ended place id reply at in
          ap (λ (x : CallId). g (h x)) (sym e.2) ∙ ap g (back.end place e.0 reply e.1) ∙ e.2;
    }

  module _ {State : Type 0} (Effect : Call → State → State → Reply → Type 0) (g h : CallId → CallId) (from to : List (Event Call Reply)) (renames : Renames g from to) (back : ComesBack g h from) where
    begun_there : (id : CallId) (call : Call) → HasBegun from id call → HasBegun to (g id) call
    begun_there id call begun =
        let p = place_of from (Begin id call) begun in
        contains_at to p.0 (Begin (g id) call) (renames.begins p.0 id call p.1)

    begun_back : (id : CallId) (call : Call) → HasBegun from id call → h (g id) ≡ id
    begun_back id call begun = let p = place_of from (Begin id call) begun in back.begin p.0 id call p.1

    ended_here : (id : CallId) (reply : Reply) → Contains to (End id reply) → (old : CallId) × Contains from (End old reply) × (g old ≡ id) × (h id ≡ old)
    ended_here id reply ended =
        let p = place_of to (End id reply) ended in
        let e = renames.ended p.0 id reply p.1 in
        (e.0, contains_at from p.0 (End e.0 reply) e.1, e.2, ap h (sym e.2) ∙ back.end p.0 e.0 reply e.1)

    -- the ids of an order have begun
    made_back : {before after : State} {ids : List CallId} {replies : List Reply} → OneAtATime (HasBegun from) Effect before ids replies after →
        (k : ℕ) (id : CallId) → slice_get ids k ≡ Some id → h (g id) ≡ id
    made_back none k id at = absurd (cc)
    made_back (more {id = first} {call = call} begun does rest) zero id at =
        let same = same_Some first id at in
        subst (λ (x : CallId). h (g x) ≡ x) same (begun_back first call begun)
    made_back (more begun does rest) (suc k) id at = made_back rest k id at

    made_there : {before after : State} {ids : List CallId} {replies : List Reply} → OneAtATime (HasBegun from) Effect before ids replies after →
        OneAtATime (HasBegun to) Effect before (map g ids) replies after
    made_there none = none
    made_there (more {id = id} {call = call} begun does rest) = more (begun_there id call begun) does (made_there rest)

    once_there : (ids : List CallId) → ((k : ℕ) (id : CallId) → slice_get ids k ≡ Some id → h (g id) ≡ id) → NoRepeats ids → NoRepeats (map g ids)
    once_there [] known once = tt
    once_there (id ∷ ids) known once = (
      λ again.
          let c = contains_mapped g ids (g id) again in
          let p = place_of ids c.0 c.1 in
          let same : c.0 ≡ id = sym (known (suc p.0) c.0 p.1) ∙ ap h c.2 ∙ known 0 id refl in
          once.0 (subst (λ (x : CallId). Contains ids x) same c.1),
      once_there ids (λ k x at. known (suc k) x at) once.1,
    )

    agree_there : {ids : List CallId} {replies : List Reply} → ((k : ℕ) (id : CallId) → slice_get ids k ≡ Some id → h (g id) ≡ id) → RepliesAgree from ids replies → RepliesAgree to (map g ids) replies
    agree_there known none = none
    agree_there known (more {id = id} same rest) =
        more
        (λ other ends.
        let e = ended_here (g id) other ends in
        let is : e.0 ≡ id = sym e.3 ∙ known 0 id refl in
        same other (subst (λ (x : CallId). Contains from (End x other)) is e.1))
        (agree_there (λ k x at. known (suc k) x at) rest)

    before_here : (a b : CallId) → Before to a b → (c : CallId) × (d : CallId) × Before from c d × (h a ≡ c) × (h b ≡ d)
    before_here a b bef =
        let p = places_before to bef in
        let e = renames.ended p.2 a p.0 p.5 in
        let s = renames.begun p.3 b p.1 p.6 in
        (e.0, s.0, before_at from e.0 s.0 p.0 p.1 p.2 p.3 p.4 e.1 s.1, ap h (sym e.2) ∙ back.end p.2 e.0 p.0 e.1, ap h (sym s.2) ∙ back.begin p.3 s.0 p.1 s.1)

    pub legal_there : (opening last : State) (order : List CallId) → IsLegal Effect opening from order last → IsLegal Effect opening to (map g order) last
    legal_there opening last order l =
        let known = made_back l.made in
        record {
          once = once_there order known l.once;
          ended = λ id reply ends.
              let e = ended_here id reply ends in
              subst (λ (x : CallId). Contains (map g order) x) e.2 (contains_map g order e.0 (l.ended e.0 reply e.1));
          in_time = λ first second third a b split early.
              let s = split_map g order first a (second ++ b ∷ third) split in
              let t = split_map g s.2 second b third s.5 in
              let parts : order ≡ s.0 ++ s.1 ∷ (t.0 ++ t.1 ∷ t.2) = s.3 ∙ ap (λ (l : List CallId). s.0 ++ s.1 ∷ l) t.3 in
              let in_order : Contains order s.1 = subst (λ (l : List CallId). Contains l s.1) (sym parts) (contains_at (s.0 ++ s.1 ∷ (t.0 ++ t.1 ∷ t.2)) (length s.0) s.1 (place_here s.0 (t.0 ++ t.1 ∷ t.2) s.1)) in
              let in_back : Contains s.2 t.1 = subst (λ (l : List CallId). Contains l t.1) (sym t.3) (contains_at (t.0 ++ t.1 ∷ t.2) (length t.0) t.1 (place_here t.0 t.2 t.1)) in
              let later : Contains order t.1 = subst (λ (l : List CallId). Contains l t.1) (sym s.3) (Contains-append_right s.0 (s.1 ∷ s.2) t.1 (behind s.1 s.2 t.1 in_back)) in
              let p = place_of order s.1 in_order in
              let q = place_of order t.1 later in
              let f = before_here b a early in
              let is_a : s.1 ≡ f.1 = sym (known p.0 s.1 p.1) ∙ ap h s.4 ∙ f.4 in
              let is_b : t.1 ≡ f.0 = sym (known q.0 t.1 q.1) ∙ ap h t.4 ∙ f.3 in
              l.in_time s.0 t.0 t.2 s.1 t.1 parts (subst (λ (x : CallId). Before from t.1 x) (sym is_a) (subst (λ (x : CallId). Before from x f.1) (sym is_b) f.2));
          replies = l.replies;
          made = made_there l.made;
          agree = agree_there known l.agree;
        }

-- where no open call of a legal order can be left out, none can be by other ids
module _ {Call Reply State : Type 0} (Effect : Call → State → State → Reply → Type 0) (g h : CallId → CallId) (from to : List (Event Call Reply)) (renames : Renames g from to) (back : ComesBack g h from) (opening : State) where
  pub needless_there : (last : State) (order : List CallId) → IsLegal Effect opening from order last → NoneIsNeedless Effect opening from order → NoneIsNeedless Effect opening to (map g order)
  needless_there last order l needed first rest id end parts never legal =
      let s = split_whole g order first id rest parts in
      let front = s.0 in
      let x = s.1 in
      let behind_it = s.2 in
      let known = made_back Effect g h from to renames back l.made in
      let before = back_again g h front (λ k y at. known k y (ap (λ (ids : List CallId). slice_get ids k) s.3 ∙ place_left front (x ∷ behind_it) k y at)) in
      let after = back_again g h behind_it
      (λ k y at. known (length front + suc k) y (ap (λ (ids : List CallId). slice_get ids (length front + suc k)) s.3 ∙ place_behind front (x ∷ behind_it) (suc k) ∙ at)) in
      let joined : first ++ rest ≡ map g (front ++ behind_it) =
      ap (λ (ids : List CallId). ids ++ rest) (sym s.4) ∙ ap (λ (ids : List CallId). map g front ++ ids) (sym s.6) ∙ sym (map-append g front behind_it) in
      let same : map h (first ++ rest) ≡ front ++ behind_it =
      ap (map h) joined ∙ ap (map h) (map-append g front behind_it) ∙ map-append h (map g front) (map g behind_it)
      ∙ ap (λ (ids : List CallId). ids ++ map h (map g behind_it)) before ∙ ap (λ (ids : List CallId). front ++ ids) after in
      let never_here = λ (reply : Reply) (ended : Contains from (End x reply)).
      let p = place_of from (End x reply) ended in
      never reply (subst (λ (i : CallId). Contains to (End i reply)) s.5 (contains_at to p.0 (End (g x) reply) (renames.ends p.0 x reply p.1))) in
      needed front behind_it x end s.3 never_here
      (subst (λ (ids : List CallId). IsLegal Effect opening from ids end) same
      (legal_there Effect h g to from (turned g h from to renames back) (turned_back g h from to renames back) opening end (first ++ rest) legal))

-- a history with names is one with other ids

pub named_begin : (names : List ℕ) (e : Event ObjectCall Reply) (id : CallId) (call : ObjectCall) → named names e ≡ Begin id call → (old : CallId) × (e ≡ Begin old call) × (named_id names old ≡ id)
named_begin names (Begin old own) id call h =
    let same : own ≡ call = cc in
    let is : named_id names old ≡ id = cc in
    (old, ap (λ (c : ObjectCall). Begin old c) same, is)
named_begin names (Applied ids) id call h = absurd (cc)
named_begin names (End old own) id call h = absurd (cc)

pub named_end : (names : List ℕ) (e : Event ObjectCall Reply) (id : CallId) (reply : Reply) → named names e ≡ End id reply → (old : CallId) × (e ≡ End old reply) × (named_id names old ≡ id)
named_end names (Begin old own) id reply h = absurd (cc)
named_end names (Applied ids) id reply h = absurd (cc)
named_end names (End old own) id reply h =
    let same : own ≡ reply = cc in
    let is : named_id names old ≡ id = cc in
    (old, ap (λ (r : Reply). End old r) same, is)

names_rename : (names : List ℕ) (history : List (Event ObjectCall Reply)) → Renames (named_id names) history (named_all names history)
names_rename names history = record {
  begins = λ place id call at. at_map (named names) history place (Begin id call) at;
  ends = λ place id reply at. at_map (named names) history place (End id reply) at;
  begun = λ place id call at.
      let m = at_mapped (named names) history place (Begin id call) at in
      let b = named_begin names m.0 id call m.2 in
      (b.0, m.1 ∙ ap (λ (e : Event ObjectCall Reply). Some e) b.1, b.2);
  ended = λ place id reply at.
      let m = at_mapped (named names) history place (End id reply) at in
      let e = named_end names m.0 id reply m.2 in
      (e.0, m.1 ∙ ap (λ (x : Event ObjectCall Reply). Some x) e.1, e.2);
}

-- the place of a name
abbrev pub place_in : List ℕ → ℕ → ℕ
place_in [] name = 0
place_in (first ∷ names) name = cond (nat_eq first name) 0 (suc (place_in names name))

-- behind the first name
later : (first name : ℕ) (names : List ℕ) (i : ℕ) → i < length (first ∷ names) → get_or (first ∷ names) i 0 ≡ name → (first ≡ name → ⊥) →
    (k : ℕ) × (k < length names) × (get_or names k 0 ≡ name)
later first name names zero lt is other = absurd (other is)
later first name names (suc i) lt is other = (i, omega (arith, lt), is)

pub place_found : (names : List ℕ) (i name : ℕ) → i < length names → get_or names i 0 ≡ name →
    (place_in names name < length names) × (get_or names (place_in names name) 0 ≡ name)
place_found [] i name lt is = absurd (omega (arith, lt))
place_found (first ∷ names) i name lt is =
    elim (cases_eq first name) [
      | inl same ↦
          let here : place_in (first ∷ names) name ≡ 0 = ap (λ (b : Bool). cond b 0 (suc (place_in names name))) (eq-eqb first name same) in
          (omega (arith, here), ap (λ (k : ℕ). get_or (first ∷ names) k 0) here ∙ same)
      | inr other ↦
          let there : place_in (first ∷ names) name ≡ suc (place_in names name) = ap (λ (b : Bool). cond b 0 (suc (place_in names name))) (ne_eqb first name other) in
          let k = later first name names i lt is other in
          let r = place_found names k.0 name k.1 k.2 in
          let less = r.0 in
          (omega (arith, there, less), ap (λ (k : ℕ). get_or (first ∷ names) k 0) there ∙ r.1)
    ]

-- the call of the process whose name it has
abbrev pub placed_id : List ℕ → CallId → CallId
placed_id names id = record { process = place_in names id.process; number = id.number }

module _ (names : List ℕ) (apart : AreApart names) where
  pub comes_back : (id : CallId) → id.process < length names → placed_id names (named_id names id) ≡ id
  comes_back id lt =
      let name = get_or names id.process 0 in
      let p = place_found names id.process name lt refl in
      same_call (placed_id names (named_id names id)) id
      (apart (place_in names name) id.process name (slice_get-get_or names (place_in names name) 0 p.0 ∙ ap (λ (n : ℕ). Some n) p.1) (slice_get-get_or names id.process 0 lt))
      refl

  module _ (history : List (Event ObjectCall Reply)) (few : AreBelow (length names) history) where
    all_back : ComesBack (named_id names) (placed_id names) history
    all_back = record {
      begin = λ place id call at. comes_back id (few (Begin id call) (contains_at history place (Begin id call) at));
      end = λ place id reply at. comes_back id (few (End id reply) (contains_at history place (End id reply) at));
    }

    few_taken : (n : ℕ) → AreBelow (length names) (take n history)
    few_taken n event h =
        let k = place_of (take n history) event h in
        let at = place_take n history k.0 event k.1 in
        few event (contains_at history k.0 event at.0)

    module _ {State : Type 0} (Effect : ObjectCall → State → State → Reply → Type 0) (opening : State) where
      pub legal_named : (last : State) (order : List CallId) → IsLegal Effect opening history order last → IsLegal Effect opening (named_all names history) (map (named_id names) order) last
      legal_named = legal_there Effect (named_id names) (placed_id names) history (named_all names history) (names_rename names history) all_back opening

      pub legal_unnamed : (last : State) (order : List CallId) → IsLegal Effect opening (named_all names history) order last → IsLegal Effect opening history (map (placed_id names) order) last
      legal_unnamed =
          legal_there Effect (placed_id names) (named_id names) (named_all names history) history
          (turned (named_id names) (placed_id names) history (named_all names history) (names_rename names history) all_back)
          (turned_back (named_id names) (placed_id names) history (named_all names history) (names_rename names history) all_back) opening

      pub needless_named : (last : State) (order : List CallId) → IsLegal Effect opening history order last → NoneIsNeedless Effect opening history order →
          NoneIsNeedless Effect opening (named_all names history) (map (named_id names) order)
      needless_named = needless_there Effect (named_id names) (placed_id names) history (named_all names history) (names_rename names history) all_back opening

      pub has_named : HasLegal Effect opening history → HasLegal Effect opening (named_all names history)
      has_named h = (map (named_id names) h.0, h.1, legal_named h.1 h.0 h.2)

      pub has_unnamed : HasLegal Effect opening (named_all names history) → HasLegal Effect opening history
      has_unnamed h = (map (placed_id names) h.0, h.1, legal_unnamed h.1 h.0 h.2)

  module _ (history : List (Event ObjectCall Reply)) (few : AreBelow (length names) history) {State : Type 0} (Effect : ObjectCall → State → State → Reply → Type 0) (opening : State) where
    taken_named : (n : ℕ) → take n (named_all names history) ≡ named_all names (take n history)
    taken_named n = take-map (named names) n history

    -- the same of the first events
    pub has_named_front : (n : ℕ) → HasLegal Effect opening (take n history) → HasLegal Effect opening (take n (named_all names history))
    has_named_front n h =
        subst (λ (l : List (Event ObjectCall Reply)). HasLegal Effect opening l) (sym (taken_named n))
        (has_named (take n history) (few_taken history few n) Effect opening h)

    pub has_unnamed_front : (n : ℕ) → HasLegal Effect opening (take n (named_all names history)) → HasLegal Effect opening (take n history)
    has_unnamed_front n h =
        has_unnamed (take n history) (few_taken history few n) Effect opening
        (subst (λ (l : List (Event ObjectCall Reply)). HasLegal Effect opening l) (taken_named n) h)

    -- and where there ceases to be a legal order
    pub last_named : (place : ℕ) (l : IsLastLegal Effect opening history place) → (m : IsLastLegal Effect opening (named_all names history) place) × (m.id ≡ named_id names l.id)
    last_named place l = (
      record {
        id = named_id names l.id;
        reply = l.reply;
        end = at_map (named names) history place (End l.id l.reply) l.end;
        legal = has_named_front place l.legal;
        none = λ h. l.none (has_unnamed_front (place + 1) h);
      },
      refl,
    )
