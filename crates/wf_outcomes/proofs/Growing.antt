-- What an exploration has found, one step on.
use Rattle.std.proofs.Common.{◌≡◌, refl, sym, ap, ◌∙◌, subst, ℕ, ◌+◌, ◌<◌, ◌≤◌, zero, suc, List, [], ◌∷◌, ◌++◌, length, get_or, set, map, Some, arith, inl, inr, length-set}
use Rattle.std.proofs.lemmas.Bool.{cases_eq}
use Rattle.std.proofs.lemmas.List.{length-map, length-replicate}
use Rattle.std.proofs.lemmas.Option.{same_Some, slice_get_within, slice_get-get_or}
use Rattle.std.specs.List.{slice_get}
use Rattle.wf_history.specs.declared.event.CallId.{CallId}
use Rattle.wf_history.proofs.Positions.{place_push, place_left, place_here, one_item}
use Rattle.wf_outcomes.specs.Merges.{Configuration, total, IsStep, Leads, none, more, start, IsReached}
use Rattle.wf_outcomes.specs.Explored.{Kept, IsFound, HasNoStep, IsOnlyStep, IsOrigin, IsExploring, IsExplored, IsArrival, HasMore}
use Rattle.wf_outcomes.proofs.OutcomesLists.{map_place, sum_set}

module _ {State Call Reply : Type 0} (Effect : Call → State → State → Reply → Type 0) (scripts : List (List Call)) where
  pub leads_push : {c d e : Configuration State} {id : CallId} {ids : List CallId} (reply : Reply) → Leads Effect scripts c ids d → IsStep Effect scripts d id reply e → Leads Effect scripts c (ids ++ id ∷ []) e
  leads_push r none s = more r s none
  leads_push r (more q t l) s = more q t (leads_push r l s)

  pub sum_step : (c d : Configuration State) (id : CallId) (reply : Reply) → IsStep Effect scripts c id reply d → total d.counts ≡ total c.counts + 1
  sum_step c d id reply s = ap total s.counts ∙ ap (λ (n : ℕ). total (set c.counts id.process n)) s.number ∙ sum_set c.counts id.process (get_or c.counts id.process 0) refl s.process

  pub size_step : (c d : Configuration State) (id : CallId) (reply : Reply) → IsStep Effect scripts c id reply d → length d.counts ≡ length c.counts
  size_step c d id reply s = ap length s.counts ∙ length-set c.counts id.process id.number

  -- a path is as long as there are calls made
  pub sum_leads : {c e : Configuration State} {ids : List CallId} → Leads Effect scripts c ids e → total e.counts ≡ total c.counts + length ids
  sum_leads none = omega arith
  sum_leads (more {c} {d} {e} {id} {ids} r s l) =
      let one = sum_step c d id r s in let rest = sum_leads l in omega (arith, one, rest)

  -- where all steps from what was found lead to what was found, all that can be reached was found
  pub reached_found : (found : List (Kept State)) → ((c d : Configuration State) (id : CallId) (reply : Reply) → IsFound found c → IsStep Effect scripts c id reply d → IsFound found d) →
      {c e : Configuration State} {ids : List CallId} → Leads Effect scripts c ids e → IsFound found c → IsFound found e
  reached_found found closed none h = h
  reached_found found closed (more {c} {d} {e} {id} {ids} r s l) h = reached_found found closed l (closed c d id r h s)

found_left : {State : Type 0} (found : List (Kept State)) (new : Kept State) (c : Configuration State) → IsFound found c → IsFound (found ++ new ∷ []) c
found_left found new c h = (h.0, h.1, place_left found (new ∷ []) h.0 h.1 h.2, h.3)

found_new : {State : Type 0} (found : List (Kept State)) (new : Kept State) (c : Configuration State) → new.here ≡ c → IsFound (found ++ new ∷ []) c
found_new found new c e = (length found, new, place_here found [] new, e)

module _ {State Call Reply : Type 0} (Effect : Call → State → State → Reply → Type 0) (scripts : List (List Call)) (opening : State) where
  pub begun_exploring : (e : Kept State) → e.here ≡ start Effect scripts opening → IsExploring Effect scripts opening (e ∷ []) 0 0
  begun_exploring e is = record {
    first = e;
    begun = refl;
    opens = is;
    reached = λ k f at. let same = only k f at in subst (λ (x : Kept State). IsReached Effect scripts opening x.here) same.1
        (subst (λ (x : Configuration State). IsReached Effect scripts opening x) (sym is) ([], none));
    came = λ k f positive at. let same = only k f at in absurd (omega (arith, same.0));
    once = λ j k f g at also is. let one = only j f at in let two = only k g also in one.0 ∙ sym two.0;
    sorted = λ j k f g le at also.
        let one = ap (λ (x : Kept State). total x.here.counts) (only j f at).1 in
        let two = ap (λ (x : Kept State). total x.here.counts) (only k g also).1 in
        omega (arith, one, two);
    near = λ k f g at also.
        let one = ap (λ (x : Kept State). total x.here.counts) (only 0 f at).1 in
        let two = ap (λ (x : Kept State). total x.here.counts) (only k g also).1 in
        omega (arith, one, two);
    sizes = λ k f at. ap (λ (x : Kept State). length x.here.counts) (sym (only k f at).1) ∙ ap (λ (x : Configuration State). length x.counts) is ∙ length-replicate (length scripts) 0;
    closed = λ j f id reply d at s w. elim w [ inl lt ↦ absurd (omega (arith, lt)) | inr both ↦ let lt = both.1 in absurd (omega (arith, lt)) ];
  }
    where
      only : (k : ℕ) (f : Kept State) → slice_get (e ∷ []) k ≡ Some f → (k ≡ 0) × (e ≡ f)
      only zero f at = (refl, same_Some e f at)
      only (suc k) f at = absurd (cc)

  -- the start is found where nothing was
  pub begun_by : (e : Kept State) → e.here ≡ start Effect scripts opening → (found : List (Kept State)) → found ≡ [] → (after : List (Kept State)) → IsArrival found after e → IsExploring Effect scripts opening after 0 0
  begun_by e is found empty after a =
      elim a [
        | inl old ↦ let f = old.0 in let at : slice_get [] f.0 ≡ Some f.1 = ap (λ (l : List (Kept State)). slice_get l f.0) (sym empty) ∙ f.2 in absurd (cc)
        | inr new ↦ subst (λ (l : List (Kept State)). IsExploring Effect scripts opening l 0 0) (sym (new.1 ∙ ap (λ (l : List (Kept State)). l ++ e ∷ []) empty)) (begun_exploring e is)
      ]

  module _ (found : List (Kept State)) (place next : ℕ) (h : IsExploring Effect scripts opening found place next) where
    -- all processes were tried at the place
    pub next_place : length scripts ≤ next → IsExploring Effect scripts opening found (place + 1) 0
    next_place all = record {
      first = h.first;
      begun = h.begun;
      opens = h.opens;
      reached = h.reached;
      came = h.came;
      once = h.once;
      sorted = h.sorted;
      near = λ k e f at also.
          let within = slice_get_within found (place + 1) e at in
          let here = slice_get-get_or found place e (omega (arith, within)) in
          let one = h.sorted place (place + 1) (get_or found place e) e (omega arith) here at in
          let two = h.near k (get_or found place e) f here also in
          omega (arith, one, two);
      sizes = h.sizes;
      closed = λ j e id reply d at s w.
          elim w [
            | inl lt ↦
                elim (cases_eq j place) [
                  | inl same ↦
                      let size = h.sizes j e at in let inside = s.process in
                      h.closed j e id reply d at s (inr (same, omega (arith, size, inside, all)))
                  | inr other ↦ h.closed j e id reply d at s (inl (omega (arith, lt, other)))
                ]
            | inr both ↦ let lt = both.1 in absurd (omega (arith, lt))
          ];
    }

    -- there is no place left
    pub explored : length found ≤ place → IsExplored Effect scripts opening found
    explored all = record {
      first = h.first;
      begun = h.begun;
      opens = h.opens;
      reached = h.reached;
      complete = λ c r.
          reached_found Effect scripts found
          (λ x d id reply in_found s.
          let within = slice_get_within found in_found.0 in_found.1 in_found.2 in
          h.closed in_found.0 in_found.1 id reply d in_found.2 (subst (λ (y : Configuration State). IsStep Effect scripts y id reply d) (sym in_found.3) s) (inl (omega (arith, within, all))))
          r.1 (0, h.first, h.begun, h.opens);
      once = h.once;
      came = h.came;
      breadth = h.sorted;
    }

    abbrev here_of : Kept State → Configuration State
    here_of e = e.here

    -- what was found is more than there is room for
    pub has_more : (most : ℕ) → most < length found → HasMore Effect scripts opening most
    has_more most many = record {
      some = map here_of found;
      many = let two = length-map found here_of in omega (arith, two, many);
      reached = λ k c at. let p = map_place here_of found k c at in subst (λ (x : Configuration State). IsReached Effect scripts opening x) p.2 (h.reached k p.0 p.1);
      once = λ j k c at also. let p = map_place here_of found j c at in let q = map_place here_of found k c also in h.once j k p.0 q.0 p.1 q.1 (p.2 ∙ sym q.2);
    }

    module _ (e : Kept State) (at : slice_get found place ≡ Some e) where
      -- the next process was tried, and leads to nothing new
      pub tried : ((id : CallId) (reply : Reply) (d : Configuration State) → id.process ≡ next → IsStep Effect scripts e.here id reply d → IsFound found d) → IsExploring Effect scripts opening found place (next + 1)
      tried old_ones = record {
        first = h.first;
        begun = h.begun;
        opens = h.opens;
        reached = h.reached;
        came = h.came;
        once = h.once;
        sorted = h.sorted;
        near = h.near;
        sizes = h.sizes;
        closed = λ j f id reply d there s w.
            elim w [
              | inl lt ↦ h.closed j f id reply d there s (inl lt)
              | inr both ↦
                  elim (cases_eq id.process next) [
                    | inl own ↦
                        let same : f ≡ e = one_item found place f e (ap (slice_get found) (sym both.0) ∙ there) at in
                        old_ones id reply d own (subst (λ (x : Kept State). IsStep Effect scripts x.here id reply d) same s)
                    | inr other ↦ let lt = both.1 in h.closed j f id reply d there s (inr (both.0, omega (arith, lt, other)))
                  ]
            ];
      }

      pub tried_none : HasNoStep Effect scripts e.here next → IsExploring Effect scripts opening found place (next + 1)
      tried_none never = tried (λ id reply d own s. absurd (never id reply d own s))

      module _ (new : Kept State) (only : IsOnlyStep Effect scripts e.here next new.here) where
        pub tried_old : IsFound found new.here → IsExploring Effect scripts opening found place (next + 1)
        tried_old old = tried (λ id reply d own s. subst (λ (x : Configuration State). IsFound found x) (sym (only.only id reply d own s)) old)

        pub new_reached : IsReached Effect scripts opening new.here
        new_reached = let r = h.reached place e at in (r.0 ++ only.id ∷ [], leads_push Effect scripts only.reply r.1 only.step)

        -- the next process was tried, and leads to one that is new
        pub tried_new : (IsFound found new.here → ⊥) → new.from ≡ place → new.by ≡ next → IsExploring Effect scripts opening (found ++ new ∷ []) place (next + 1)
        tried_new fresh from by = record {
          first = h.first;
          begun = place_left found (new ∷ []) 0 h.first h.begun;
          opens = h.opens;
          reached = λ k f there. elim (place_push found new k f there) [
            | inl old ↦ h.reached k f old
            | inr now ↦ subst (λ (x : Kept State). IsReached Effect scripts opening x.here) now.1 new_reached
          ];
          came = λ k f positive there. elim (place_push found new k f there) [
            | inl old ↦
                let o = h.came k f positive old in
                record { before = o.before; earlier = o.earlier; there = place_left found (new ∷ []) f.from o.before o.there; id = o.id; reply = o.reply; own = o.own; step = o.step }
            | inr now ↦ subst (λ (x : Kept State). IsOrigin Effect scripts (found ++ new ∷ []) k x) now.1 (record {
              before = e;
              earlier = let within = slice_get_within found place e at in let is = now.0 in omega (arith, within, from, is);
              there = ap (slice_get (found ++ new ∷ [])) from ∙ place_left found (new ∷ []) place e at;
              id = only.id;
              reply = only.reply;
              own = only.own ∙ sym by;
              step = only.step;
            })
          ];
          once = λ j k f g there also is. elim (place_push found new j f there) [
            | inl one ↦ elim (place_push found new k g also) [
              | inl two ↦ h.once j k f g one two is
              | inr two ↦ absurd (fresh (j, f, one, is ∙ ap (λ (x : Kept State). x.here) (sym two.1)))
            ]
            | inr one ↦ elim (place_push found new k g also) [
              | inl two ↦ absurd (fresh (k, g, two, sym is ∙ ap (λ (x : Kept State). x.here) (sym one.1)))
              | inr two ↦ one.0 ∙ sym two.0
            ]
          ];
          sorted = λ j k f g le there also. elim (place_push found new j f there) [
            | inl one ↦ elim (place_push found new k g also) [
              | inl two ↦ h.sorted j k f g le one two
              | inr two ↦
                  let b = h.near j e f at one in
                  let s : total new.here.counts ≡ total g.here.counts = ap (λ (x : Kept State). total x.here.counts) two.1 in
                  let m = sum_new in omega (arith, b, s, m)
            ]
            | inr one ↦ elim (place_push found new k g also) [
              | inl two ↦ let within = slice_get_within found k g two in let is = one.0 in absurd (omega (arith, within, is, le))
              | inr two ↦
                  let s : total new.here.counts ≡ total g.here.counts = ap (λ (x : Kept State). total x.here.counts) two.1 in
                  let t : total new.here.counts ≡ total f.here.counts = ap (λ (x : Kept State). total x.here.counts) one.1 in omega (arith, s, t)
            ]
          ];
          near = λ k f g there also.
              let same : e ≡ f = one_item (found ++ new ∷ []) place e f (place_left found (new ∷ []) place e at) there in
              let t : total e.here.counts ≡ total f.here.counts = ap (λ (x : Kept State). total x.here.counts) same in
              elim (place_push found new k g also) [
                | inl two ↦ let b = h.near k e g at two in omega (arith, b, t)
                | inr two ↦
                    let s : total new.here.counts ≡ total g.here.counts = ap (λ (x : Kept State). total x.here.counts) two.1 in
                    let m = sum_new in omega (arith, s, m, t)
              ];
          sizes = λ k f there. elim (place_push found new k f there) [
            | inl old ↦ h.sizes k f old
            | inr now ↦ ap (λ (x : Kept State). length x.here.counts) (sym now.1) ∙ size_step Effect scripts e.here new.here only.id only.reply only.step ∙ h.sizes place e at
          ];
          closed = λ j f id reply d there s w. elim (place_push found new j f there) [
            | inl old ↦ elim w [
              | inl lt ↦ found_left found new d (h.closed j f id reply d old s (inl lt))
              | inr both ↦
                  elim (cases_eq id.process next) [
                    | inl own ↦
                        let same : f ≡ e = one_item found place f e (ap (slice_get found) (sym both.0) ∙ old) at in
                        found_new found new d (sym (only.only id reply d own (subst (λ (x : Kept State). IsStep Effect scripts x.here id reply d) same s)))
                    | inr other ↦ let lt = both.1 in found_left found new d (h.closed j f id reply d old s (inr (both.0, omega (arith, lt, other))))
                  ]
            ]
            | inr now ↦
                let within = slice_get_within found place e at in
                let is = now.0 in
                elim w [ inl lt ↦ absurd (omega (arith, within, is, lt)) | inr both ↦ let same = both.0 in absurd (omega (arith, within, is, same)) ]
          ];
        }
          where
            sum_new : total new.here.counts ≡ total e.here.counts + 1
            sum_new = sum_step Effect scripts e.here new.here only.id only.reply only.step

        pub concluded : new.from ≡ place → new.by ≡ next → (after : List (Kept State)) → IsArrival found after new → IsExploring Effect scripts opening after place (next + 1)
        concluded from by after a =
            elim a [
              | inl old ↦ subst (λ (l : List (Kept State)). IsExploring Effect scripts opening l place (next + 1)) (sym old.1) (tried_old old.0)
              | inr now ↦ subst (λ (l : List (Kept State)). IsExploring Effect scripts opening l place (next + 1)) (sym now.1) (tried_new now.0 from by)
            ]
