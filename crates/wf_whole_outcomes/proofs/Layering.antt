-- One layer more.
use Rattle.std.proofs.Common.{◌≡◌, refl, sym, ap, ◌∙◌, subst, ℕ, ◌+◌, ◌<◌, ◌≤◌, zero, suc, List, [], ◌∷◌, ◌++◌, length, get_or, Option, Some, None, ◌⊎◌, inl, inr, arith}
use Rattle.std.proofs.lemmas.Bool.{cases_eq, cases_lt}
use Rattle.std.proofs.lemmas.List.{length-map, length-append}
use Rattle.std.proofs.lemmas.Option.{same_Some, slice_get_within, get_or_from_slice_get}
use Rattle.std.specs.List.{slice_get}
use Rattle.wf_history.proofs.Positions.{one_item, place_here, place_left, place_push}
use Rattle.wf_whole_outcomes.specs.Layers.{HasSome, IsEarlier, IsGrowing, IsLayer, Precedes, then_by, walk, way_on, ways_on, ways_of}
use Rattle.wf_whole_outcomes.specs.declared.growing.Came.{Came}
use Rattle.wf_whole_outcomes.proofs.Listing.{beside, either_part, in_map, last_of, of_map, push_both}
use Rattle.wf_whole_outcomes.proofs.Order.{precedes_last, precedes_on, precedes_pop, precedes_push}

not_both : (from by place step : ℕ) → IsEarlier from by place step → IsEarlier place step from by → ⊥
not_both from by place step h k =
    elim h [
      | inl one ↦ elim k [ inl two ↦ omega (arith, one, two) | inr two ↦ let e = two.0 in omega (arith, one, e) ]
      | inr one ↦ elim k [
        | inl two ↦ let e = one.0 in omega (arith, two, e)
        | inr two ↦ let l = one.1 in let m = two.1 in omega (arith, l, m)
      ]
    ]

not_itself : (place step : ℕ) → IsEarlier place step place step → ⊥
not_itself place step h = elim h [ inl less ↦ omega (arith, less) | inr e ↦ let less = e.1 in omega (arith, less) ]

one_later : (from by place step : ℕ) → IsEarlier from by place step → IsEarlier from by place (step + 1)
one_later from by place step h = elim h [ inl less ↦ inl less | inr e ↦ let less = e.1 in inr (e.0, omega (arith, less)) ]

-- what is earlier than the next step is earlier than this step, or this step
one_before : (from by place step : ℕ) → IsEarlier from by place (step + 1) → IsEarlier from by place step ⊎ ((from ≡ place) × (by ≡ step))
one_before from by place step h =
    elim h [
      | inl less ↦ inl (inl less)
      | inr e ↦ elim (cases_eq by step) [
        | inl same ↦ inr (e.0, same)
        | inr other ↦ let less = e.1 in inl (inr (e.0, omega (arith, less, other)))
      ]
    ]

module _ {N : Type 0} (next : N → ℕ → Option N) where
  pub walk_push : (o : Option N) (way : List ℕ) (step : ℕ) → walk next o (way ++ step ∷ []) ≡ then_by next (walk next o way) step
  walk_push o [] step = refl
  walk_push o (s ∷ way) step = walk_push (then_by next o s) way step

  -- where the step was taken
  pub taken_at : (o : Option N) (step : ℕ) (b : N) → then_by next o step ≡ Some b → (a : N) × (o ≡ Some a) × (next a step ≡ Some b)
  taken_at None step b h = absurd (cc)
  taken_at (Some a) step b h = (a, refl, h)

  pub grows_first : (layer : List N) (came : List Came) (more : List N) → came ≡ [] → more ≡ [] → IsGrowing next layer 0 0 came more
  grows_first layer came more none_came none = record {
    same = ap length none_came ∙ sym (ap length none);
    each = λ k c b at also. let e : slice_get [] k ≡ Some b = ap (λ (l : List N). slice_get l k) (sym none) ∙ also in absurd (cc);
    every = λ from by a b at leads early. elim early [ inl less ↦ absurd (omega (arith, less)) | inr e ↦ let less = e.1 in absurd (omega (arith, less)) ];
    once = λ j k a at also. let e : slice_get [] k ≡ Some a = ap (λ (l : List N). slice_get l k) (sym none) ∙ also in absurd (cc);
    sorted = λ j k c d less at also. let e : slice_get [] k ≡ Some d = ap (λ (l : List Came). slice_get l k) (sym none_came) ∙ also in absurd (cc);
  }

  module _ (layer : List N) (place step : ℕ) (came : List Came) (more : List N) (h : IsGrowing next layer place step came more) where
    module _ (a : N) (at : slice_get layer place ≡ Some a) where
      -- the step was tried, and leads to nothing new
      tried : ((b : N) → next a step ≡ Some b → (k : ℕ) × (slice_get more k ≡ Some b)) → IsGrowing next layer place (step + 1) came more
      tried old = record {
        same = h.same;
        each = λ k c b there also. let r = h.each k c b there also in (r.0, r.1, r.2, one_later c.from c.by place step r.3);
        every = λ from by x b there leads early. elim (one_before from by place step early) [
          | inl before ↦ h.every from by x b there leads before
          | inr now ↦
              let is : x ≡ a = one_item layer place x a (ap (slice_get layer) (sym now.0) ∙ there) at in
              let leads_here : next a step ≡ Some b = ap (λ (s : ℕ). next a s) (sym now.1) ∙ ap (λ (y : N). next y by) (sym is) ∙ leads in
              let o = old b leads_here in
              let c = beside came more h.same o.0 b o.1 in
              let r = h.each o.0 c.0 b c.1 o.1 in (
                o.0,
                c.0,
                o.1,
                c.1,
                (λ e. not_both c.0.from c.0.by place step r.3 (subst (λ (s : ℕ). IsEarlier place s c.0.from c.0.by) now.1 (subst (λ (f : ℕ). IsEarlier f by c.0.from c.0.by) now.0 e))),
              )
        ];
        once = h.once;
        sorted = h.sorted;
      }

      pub tried_none : next a step ≡ None → IsGrowing next layer place (step + 1) came more
      tried_none none = tried (λ b leads. let e = sym none ∙ leads in absurd (cc))

      module _ (new : N) (leads : next a step ≡ Some new) where
        pub tried_old : (k : ℕ) → slice_get more k ≡ Some new → IsGrowing next layer place (step + 1) came more
        tried_old k there = tried (λ b to. (k, there ∙ (sym leads ∙ to)))

        abbrev from_here : Came
        from_here = record { from = place; by = step }

        pub tried_new : ((k : ℕ) → slice_get more k ≡ Some new → ⊥) → IsGrowing next layer place (step + 1) (came ++ from_here ∷ []) (more ++ new ∷ [])
        tried_new fresh = record {
          same = length-append came (from_here ∷ []) ∙ ap (λ (n : ℕ). n + 1) h.same ∙ sym (length-append more (new ∷ []));
          each = λ k c b there also. elim (push_both came more h.same from_here new k c b there also) [
            | inl both ↦ let r = h.each k c b both.0 both.1 in (r.0, r.1, r.2, one_later c.from c.by place step r.3)
            | inr now ↦
                let from : place ≡ c.from = ap (λ (x : Came). x.from) now.1 in
                let by : step ≡ c.by = ap (λ (x : Came). x.by) now.1 in (
                  a,
                  ap (slice_get layer) (sym from) ∙ at,
                  ap (λ (s : ℕ). next a s) (sym by) ∙ leads ∙ ap Some now.2,
                  inr (sym from, omega (arith, by)),
                )
          ];
          every = λ from by x b there to early. elim (one_before from by place step early) [
            | inl before ↦ let r = h.every from by x b there to before in (r.0, r.1, place_left more (new ∷ []) r.0 b r.2, place_left came (from_here ∷ []) r.0 r.1 r.3, r.4)
            | inr now ↦
                let is : x ≡ a = one_item layer place x a (ap (slice_get layer) (sym now.0) ∙ there) at in
                let to_here : next a step ≡ Some b = ap (λ (s : ℕ). next a s) (sym now.1) ∙ ap (λ (y : N). next y by) (sym is) ∙ to in (
                  length more,
                  from_here,
                  place_here more [] new ∙ (sym leads ∙ to_here),
                  ap (slice_get (came ++ from_here ∷ [])) (sym h.same) ∙ place_here came [] from_here,
                  (λ e. not_itself place step (subst (λ (s : ℕ). IsEarlier place s place step) now.1 (subst (λ (f : ℕ). IsEarlier f by place step) now.0 e))),
                )
          ];
          once = λ j k b there also. elim (place_push more new j b there) [
            | inl one ↦ elim (place_push more new k b also) [
              | inl two ↦ h.once j k b one two
              | inr two ↦ absurd (fresh j (one ∙ ap Some (sym two.1)))
            ]
            | inr one ↦ elim (place_push more new k b also) [
              | inl two ↦ absurd (fresh k (two ∙ ap Some (sym one.1)))
              | inr two ↦ one.0 ∙ sym two.0
            ]
          ];
          sorted = λ j k c d less there also. elim (place_push came from_here j c there) [
            | inl one ↦ elim (place_push came from_here k d also) [
              | inl two ↦ h.sorted j k c d less one two
              | inr two ↦
                  let b = beside more came (sym h.same) j c one in
                  let r = h.each j c b.0 one b.1 in
                  subst (λ (x : Came). IsEarlier c.from c.by x.from x.by) two.1 r.3
            ]
            | inr one ↦ elim (place_push came from_here k d also) [
              | inl two ↦ let within = slice_get_within came k d two in let e = one.0 in absurd (omega (arith, within, e, less))
              | inr two ↦ let e = one.0 in let f = two.0 in absurd (omega (arith, e, f, less))
            ]
          ];
        }

    -- all steps were tried at the place
    pub next_place : ((a b : N) (by : ℕ) → next a by ≡ Some b → by < step) → IsGrowing next layer (place + 1) 0 came more
    next_place bound = record {
      same = h.same;
      each = λ k c b there also.
          let r = h.each k c b there also in
          (r.0, r.1, r.2, elim r.3 [ inl less ↦ inl (omega (arith, less)) | inr e ↦ let same = e.0 in inl (omega (arith, same)) ]);
      every = λ from by a b there leads early. elim early [
        | inl less ↦ elim (cases_eq from place) [
          | inl same ↦ h.every from by a b there leads (inr (same, bound a b by leads))
          | inr other ↦ h.every from by a b there leads (inl (omega (arith, less, other)))
        ]
        | inr e ↦ let less = e.1 in absurd (omega (arith, less))
      ];
      once = h.once;
      sorted = h.sorted;
    }

    module _ (start : N) (size : ℕ) (ways : List (List ℕ)) (was : IsLayer next start size ways layer) where
      -- the way to where a node came from
      way_before : (k : ℕ) (c : Came) (b : N) → slice_get came k ≡ Some c → slice_get more k ≡ Some b →
          (a : N) × (slice_get layer c.from ≡ Some a) × (next a c.by ≡ Some b) × (slice_get ways c.from ≡ Some (get_or ways c.from []))
      way_before k c b there also =
          let r = h.each k c b there also in
          let w = beside ways layer was.same c.from r.0 r.1 in
          (r.0, r.1, r.2, w.1 ∙ ap Some (sym (get_or_from_slice_get ways c.from w.0 [] w.1)))

      pub way_reaches : (k : ℕ) (c : Came) (b : N) → slice_get came k ≡ Some c → slice_get more k ≡ Some b → (length (way_on ways c) ≡ size + 1) × (walk next (Some start) (way_on ways c) ≡ Some b)
      way_reaches k c b there also =
          let r = way_before k c b there also in
          let w = was.each c.from (get_or ways c.from []) r.0 r.3 r.1 in (
            length-append (get_or ways c.from []) (c.by ∷ []) ∙ ap (λ (n : ℕ). n + 1) w.0,
            walk_push (Some start) (get_or ways c.from []) c.by ∙ ap (λ (o : Option N). then_by next o c.by) w.1 ∙ r.2,
          )

      -- the ways of two nodes are in their order
      ways_sorted : (c d : Came) (one other : List ℕ) → slice_get ways c.from ≡ Some one → slice_get ways d.from ≡ Some other → length one ≡ length other → IsEarlier c.from c.by d.from d.by → Precedes (one ++ c.by ∷ []) (other ++ d.by ∷ [])
      ways_sorted c d one other there also same early =
          elim early [
            | inl less ↦ precedes_push one other c.by d.by same (was.sorted c.from d.from one other less there also)
            | inr e ↦
                let is : one ≡ other = one_item ways d.from one other (ap (slice_get ways) (sym e.0) ∙ there) also in
                subst (λ (l : List ℕ). Precedes (one ++ c.by ∷ []) (l ++ d.by ∷ [])) is (precedes_last one c.by d.by e.1)
          ]

      pub layer_behind : length layer ≤ place → step ≡ 0 → IsLayer next start (size + 1) (ways_on ways came) more
      layer_behind end zero_is = record {
        same = length-map came (way_on ways) ∙ h.same;
        each = λ k way b there also.
            let c = of_map (way_on ways) came k way there in
            let r = way_reaches k c.0 b c.1 also in
            (ap length (sym c.2) ∙ r.0, ap (walk next (Some start)) (sym c.2) ∙ r.1);
        every = λ way b long leads.
            let l = last_of size way long in
            let t = taken_at (walk next (Some start) l.0) l.1 b (sym (walk_push (Some start) l.0 l.1) ∙ ap (walk next (Some start)) (sym l.2) ∙ leads) in
            let w = was.every l.0 t.0 l.3 t.1 in
            let within = slice_get_within layer w.0 t.0 w.2 in
            let r = h.every w.0 l.1 t.0 b w.2 t.2 (inl (omega (arith, within, end))) in (
              r.0,
              way_on ways r.1,
              r.2,
              in_map (way_on ways) came r.0 r.1 r.3,
              (λ p. not_first l.0 l.3 w.0 w.1 w.3 w.4 l.1 r.0 r.1 b r.3 r.2 r.4 (subst (λ (x : List ℕ). Precedes x (way_on ways r.1)) l.2 p)),
            );
        once = h.once;
        sorted = λ j k one other less there also.
            let c = of_map (way_on ways) came j one there in
            let d = of_map (way_on ways) came k other also in
            let b = beside more came (sym h.same) j c.0 c.1 in
            let e = beside more came (sym h.same) k d.0 d.1 in
            let p = way_before j c.0 b.0 c.1 b.1 in
            let q = way_before k d.0 e.0 d.1 e.1 in
            let x = was.each c.0.from (get_or ways c.0.from []) p.0 p.3 p.1 in
            let y = was.each d.0.from (get_or ways d.0.from []) q.0 q.3 q.1 in
            subst (λ (l : List ℕ). Precedes l other) c.2 (subst (λ (l : List ℕ). Precedes (way_on ways c.0) l) d.2
            (ways_sorted c.0 d.0 (get_or ways c.0.from []) (get_or ways d.0.from []) p.3 q.3 (x.0 ∙ sym y.0) (h.sorted j k c.0 d.0 less c.1 d.1)));
      }
        where
          not_first : (front : List ℕ) → length front ≡ size → (j : ℕ) (first : List ℕ) → slice_get ways j ≡ Some first → ¬ Precedes front first → (s k : ℕ) (c : Came) (b : N) → slice_get came k ≡ Some c → slice_get more k ≡ Some b →
              ¬ IsEarlier j s c.from c.by → Precedes (front ++ s ∷ []) (way_on ways c) → ⊥
          not_first front long j first there least s k c b at also late p =
              let r = way_before k c b at also in
              let w = get_or ways c.from [] in
              let x = was.each c.from w r.0 r.3 r.1 in
              elim (cases_lt c.from j) [
                | inl less ↦
                    let q = was.sorted c.from j w first less r.3 there in
                    elim (precedes_pop front w s c.by (long ∙ sym x.0) p) [
                      | inl before ↦ least (precedes_on front w first before q)
                      | inr e ↦ least (subst (λ (l : List ℕ). Precedes l first) (sym e.0) q)
                    ]
                | inr other ↦ elim (cases_eq j c.from) [
                  | inl same ↦
                      let is : first ≡ w = one_item ways c.from first w (ap (slice_get ways) (sym same) ∙ there) r.3 in
                      elim (precedes_pop front w s c.by (long ∙ sym x.0) p) [
                        | inl before ↦ least (subst (λ (l : List ℕ). Precedes front l) (sym is) before)
                        | inr e ↦ late (inr (same, e.1))
                      ]
                  | inr apart ↦ late (inl (omega (arith, other, apart)))
                ]
              ]

      module _ (Fine : N → Type 0) (fine : Fine start) (stays : (a b : N) (by : ℕ) → Fine a → next a by ≡ Some b → Fine b)
          (depth : N → ℕ) (deeper : (a b : N) (by : ℕ) → Fine a → next a by ≡ Some b → depth b ≡ depth a + 1) where
        deep : (way : List ℕ) (a b : N) → Fine a → walk next (Some a) way ≡ Some b → depth b ≡ depth a + length way
        deep [] a b good leads = let e : depth a ≡ depth b = ap depth (same_Some a b leads) in omega (arith, e)
        deep (s ∷ way) a b good leads = by (λ c one to. deep way c b (stays a c s good one) to) (next a s) refl leads
          where
            lost : (w : List ℕ) → walk next None w ≡ None
            lost [] = refl
            lost (x ∷ w) = lost w

            by : ((c : N) → next a s ≡ Some c → walk next (Some c) way ≡ Some b → depth b ≡ depth c + length way) → (o : Option N) → next a s ≡ o → walk next o way ≡ Some b → depth b ≡ depth a + length (s ∷ way)
            by rest None none to = let e = sym (lost way) ∙ to in absurd (cc)
            by rest (Some c) one to = let r = rest c one to in let d = deeper a c s good one in omega (arith, r, d)

        -- with those that were reached before
        pub with_these : (many : ℕ) → HasSome next start many (size + 1) → HasSome next start (many + length more) (size + 1 + 1)
        with_these many some = record {
          some = some.some ++ more;
          count = length-append some.some more ∙ ap (λ (n : ℕ). n + length more) some.count;
          each = λ k a at. elim (either_part some.some more k a at) [
            | inl old ↦ let r = some.each k a old in let less = r.1 in (r.0, omega (arith, less), r.2)
            | inr new ↦
                let c = beside came more h.same new.0 a new.2 in
                let r = way_reaches new.0 c.0 a c.1 new.2 in
                let long = r.0 in
                (way_on ways c.0, omega (arith, long), r.1)
          ];
          once = λ j k a at also. elim (either_part some.some more j a at) [
            | inl one ↦ elim (either_part some.some more k a also) [
              | inl two ↦ some.once j k a one two
              | inr two ↦ absurd (apart j two.0 a one two.2)
            ]
            | inr one ↦ elim (either_part some.some more k a also) [
              | inl two ↦ absurd (apart k one.0 a two one.2)
              | inr two ↦ let same = h.once one.0 two.0 a one.2 two.2 in let e = one.1 in let f = two.1 in omega (arith, same, e, f)
            ]
          ];
        }
          where
            apart : (j k : ℕ) (a : N) → slice_get some.some j ≡ Some a → slice_get more k ≡ Some a → ⊥
            apart j k a at also =
                let r = some.each j a at in
                let c = beside came more h.same k a also in
                let s = way_reaches k c.0 a c.1 also in
                let one = deep r.0 start a fine r.2 in
                let two = deep (way_on ways c.0) start a fine s.1 in
                let less = r.1 in
                let long = s.0 in
                omega (arith, one, two, less, long)

-- the ways of one layer more
pub ways_push : (ways : List (List ℕ)) (trail : List (List Came)) (came : List Came) → ways_of ways (trail ++ came ∷ []) ≡ ways_on (ways_of ways trail) came
ways_push ways [] came = refl
ways_push ways (first ∷ trail) came = ways_push (ways_on ways first) trail came

module _ {N : Type 0} (next : N → ℕ → Option N) (start : N) where
  -- the start alone
  pub layer_first : IsLayer next start 0 ([] ∷ []) (start ∷ [])
  layer_first = record {
    same = refl;
    each = λ k way a at also. let w = only_one [] k way at in let b = only_one start k a also in (ap length (sym w.1), ap (walk next (Some start)) (sym w.1) ∙ ap Some b.1);
    every = λ way a long leads. first_way way a long leads;
    once = λ j k a at also. (only_one start j a at).0 ∙ sym (only_one start k a also).0;
    sorted = λ j k one other less at also. let q = (only_one [] k other also).0 in absurd (omega (arith, q, less));
  }
    where
      only_one : {A : Type 0} (x : A) (k : ℕ) (y : A) → slice_get (x ∷ []) k ≡ Some y → (k ≡ 0) × (x ≡ y)
      only_one x zero y at = (refl, same_Some x y at)
      only_one x (suc k) y at = absurd (cc)

      first_way : (way : List ℕ) (a : N) → length way ≡ 0 → walk next (Some start) way ≡ Some a →
          (k : ℕ) × (first : List ℕ) × (slice_get (start ∷ []) k ≡ Some a) × (slice_get ([] ∷ []) k ≡ Some first) × (¬ Precedes way first)
      first_way [] a long leads = (0, [], leads, refl, (λ p. p))
      first_way (s ∷ way) a long leads = absurd (omega (arith, long))

  pub some_first : HasSome next start 1 1
  some_first = record {
    some = start ∷ [];
    count = refl;
    each = λ k a at. let b = only_one k a at in ([], omega arith, ap Some b.1);
    once = λ j k a at also. (only_one j a at).0 ∙ sym (only_one k a also).0;
  }
    where
      only_one : (k : ℕ) (y : N) → slice_get (start ∷ []) k ≡ Some y → (k ≡ 0) × (start ≡ y)
      only_one zero y at = (refl, same_Some start y at)
      only_one (suc k) y at = absurd (cc)
