-- The front, one layer on.
use Rattle.std.proofs.Common.{◌≡◌, refl, sym, ap, ◌∙◌, subst, ℕ, ◌+◌, ◌-◌, ◌<◌, ◌≤◌, zero, suc, List, [], ◌∷◌, ◌++◌, length, get_or, map, replicate, take, All, Some, None, Vec, Option, inl, inr, arith}
use Rattle.std.proofs.lemmas.List.{length-map, length-append, length-replicate, take_all, length-set}
use Rattle.std.proofs.lemmas.List.Elements.{All-replicate, All-nil, All-cons}
use Rattle.std.proofs.lemmas.Option.{same_Some, slice_get_within}
use Rattle.std.specs.List.{slice_get}
use Rattle.wf_history.proofs.Positions.{place_push}
use Rattle.wf_whole_outcomes.specs.Graph.{Spot, AreApart, GoesOn, next_from, edge_from, spot_on, said_on}
use Rattle.wf_whole_outcomes.specs.Layers.{GrowsOver, HasOver, HasSome, IsGrowing, IsLayer, IsLinked, ways_of}
use Rattle.wf_whole_outcomes.specs.Nodes.{AreLinked, AreLists, AreNodes, IsFirst, IsFront, IsGrown, IsNode, first_spot, lists_in, spot_in, spots_in, trail_in}
use Rattle.wf_whole_outcomes.specs.declared.edges.Edge.{Edge}
use Rattle.wf_whole_outcomes.specs.declared.growing.Came.{Came}
use Rattle.wf_whole_outcomes.specs.declared.growing.Growing.{Growing}
use Rattle.wf_whole_outcomes.specs.declared.nodes.Link.{Link}
use Rattle.wf_whole_outcomes.specs.declared.nodes.Lists.{Lists}
use Rattle.wf_whole_outcomes.specs.declared.nodes.Node.{Node}
use Rattle.wf_whole_outcomes.specs.declared.layers.Front.{Front}
use Rattle.wf_whole_outcomes.proofs.Layering.{layer_behind, layer_first, some_first, ways_push, with_these}
use Rattle.wf_whole_outcomes.proofs.Listing.{beside}
use Rattle.wf_whole_outcomes.proofs.Noding.{same_spot, spots_kept}

-- how much was said
abbrev pub sum : List ℕ → ℕ
sum [] = 0
sum (n ∷ ns) = n + sum ns

abbrev pub depth_of : Spot → ℕ
depth_of s = sum (map length s.said)

sum_longer : (said : List (List ℕ)) (process reply : ℕ) → process < length said → sum (map length (said_on said process reply)) ≡ sum (map length said) + 1
sum_longer [] process reply own = absurd (omega (arith, own))
sum_longer (l ∷ said) zero reply own = let e = length-append l (reply ∷ []) in omega (arith, e)
sum_longer (l ∷ said) (suc process) reply own = let r = sum_longer said process reply (omega (arith, own)) in omega (arith, r)

module _ (rows : List (List (Option Edge))) (processes : ℕ) where
  -- each process has a list
  abbrev IsFine : Spot → Type 0
  IsFine s = length s.said ≡ processes

  first_fine : IsFine (first_spot processes)
  first_fine = length-replicate processes []

  module _ (only : (place by : ℕ) (e : Edge) → edge_from rows place by ≡ Some e → by < processes) where
    -- the edge by which a step leads on
    edge_of : (a b : Spot) (by : ℕ) → next_from rows a by ≡ Some b → (e : Edge) × (edge_from rows a.place by ≡ Some e) × (spot_on a by e ≡ b)
    edge_of a b by leads = by_edge (edge_from rows a.place by) refl leads
      where
        by_edge : (o : Option Edge) → edge_from rows a.place by ≡ o → Rattle.std.specs.Prelude.option_map (spot_on a by) o ≡ Some b → (e : Edge) × (edge_from rows a.place by ≡ Some e) × (spot_on a by e ≡ b)
        by_edge None is to = absurd (cc)
        by_edge (Some e) is to = (e, is, same_Some (spot_on a by e) b to)

    stays_fine : (a b : Spot) (by : ℕ) → IsFine a → next_from rows a by ≡ Some b → IsFine b
    stays_fine a b by fine leads =
        let e = edge_of a b by leads in
        ap (λ (s : Spot). length s.said) (sym e.2) ∙ length-set a.said by (get_or a.said by [] ++ e.0.reply ∷ []) ∙ fine

    deeper_by_one : (a b : Spot) (by : ℕ) → IsFine a → next_from rows a by ≡ Some b → depth_of b ≡ depth_of a + 1
    deeper_by_one a b by fine leads =
        let e = edge_of a b by leads in
        let own = only a.place by e.0 e.1 in
        ap depth_of (sym e.2) ∙ sum_longer a.said by e.0.reply (omega (arith, own, fine))

    -- one layer more, over the lists that there are then
    module _ (f : Front) (h : IsFront rows processes f) (g : Growing) (grown : IsGrown rows processes f.layer.keys (length f.layer.keys) 0 g) (on : GoesOn (lists_in f.lists) (lists_in g.lists)) where
      abbrev trail : List (List Came)
      trail = trail_in f.trail.items

      abbrev spots : List Spot
      spots = spots_in (lists_in f.lists) f.layer.keys

      still_growing : IsGrowing (next_from rows) spots (length f.layer.keys) 0 g.came.items (spots_in (lists_in g.lists) g.layer.keys)
      still_growing = subst (λ (l : List Spot). IsGrowing (next_from rows) l (length f.layer.keys) 0 g.came.items (spots_in (lists_in g.lists) g.layer.keys))
          (spots_kept (lists_in f.lists) (lists_in g.lists) on processes f.layer.keys h.nodes) grown.growing

      pub linked_on : IsLinked (trail ++ g.came.items ∷ [])
      linked_on depth came k c at there =
          elim (place_push trail g.came.items depth came at) [
            | inl old ↦
                let within = slice_get_within trail depth came old in
                subst (λ (l : List (List Came)). c.from < length (ways_of ([] ∷ []) l)) (sym (take_front depth trail (g.came.items ∷ []) (omega (arith, within)))) (h.linked depth came k c old there)
            | inr new ↦
                let there_too : slice_get g.came.items k ≡ Some c = ap (λ (l : List Came). slice_get l k) new.1 ∙ there in
                let b = beside (spots_in (lists_in g.lists) g.layer.keys) g.came.items (sym still_growing.same) k c there_too in
                let r = still_growing.each k c b.0 there_too b.1 in
                let within = slice_get_within spots c.from r.0 r.1 in
                let size = h.layer.same in
                subst (λ (l : List (List Came)). c.from < length (ways_of ([] ∷ []) l)) (sym (ap (λ (n : ℕ). take n (trail ++ g.came.items ∷ [])) new.0 ∙ take_front (length trail) trail (g.came.items ∷ []) (omega arith) ∙ take_all (length trail) trail (omega arith)))
                (omega (arith, within, size))
          ]
        where
          take_front : (n : ℕ) (xs ys : List (List Came)) → n ≤ length xs → take n (xs ++ ys) ≡ take n xs
          take_front zero xs ys le = refl
          take_front (suc n) [] ys le = absurd (omega (arith, le))
          take_front (suc n) (x ∷ xs) ys le = ap (λ l. x ∷ l) (take_front n xs ys (omega (arith, le)))

      pub layer_on : IsLayer (next_from rows) (first_spot processes) (length f.trail.items + 1) (ways_of ([] ∷ []) (trail ++ g.came.items ∷ [])) (spots_in (lists_in g.lists) g.layer.keys)
      layer_on =
          let size = length-map f.layer.keys (spot_in (lists_in f.lists)) in
          subst (λ (w : List (List ℕ)). IsLayer (next_from rows) (first_spot processes) (length f.trail.items + 1) w (spots_in (lists_in g.lists) g.layer.keys)) (sym (ways_push ([] ∷ []) trail g.came.items))
          (layer_behind (next_from rows) spots (length f.layer.keys) 0 g.came.items (spots_in (lists_in g.lists) g.layer.keys) still_growing (first_spot processes) (length f.trail.items)
          (ways_of ([] ∷ []) trail) h.layer (omega (arith, size)) refl)

      pub some_on : HasSome (next_from rows) (first_spot processes) (f.many + length g.layer.keys) (length f.trail.items + 1 + 1)
      some_on =
          let size = length-map g.layer.keys (spot_in (lists_in g.lists)) in
          subst (λ (n : ℕ). HasSome (next_from rows) (first_spot processes) (f.many + n) (length f.trail.items + 1 + 1)) size
          (with_these (next_from rows) spots (length f.layer.keys) 0 g.came.items (spots_in (lists_in g.lists) g.layer.keys) still_growing (first_spot processes) (length f.trail.items)
          (ways_of ([] ∷ []) trail) h.layer IsFine first_fine stays_fine depth_of deeper_by_one f.many h.some)

      -- the front of which the parts are these
      module _ (next : Front) (trails : trail_in next.trail.items ≡ trail ++ g.came.items ∷ []) (lists : next.lists ≡ g.lists) (layers : next.layer ≡ g.layer) (many : next.many ≡ f.many + length g.layer.keys) where
        pub trail_longer : length next.trail.items ≡ length f.trail.items + 1
        trail_longer =
            let one = length-map next.trail.items (λ (v : Vec Came _). v.items) in
            let two = length-map f.trail.items (λ (v : Vec Came _). v.items) in
            let e = ap length trails ∙ length-append trail (g.came.items ∷ []) in
            omega (arith, one, two, e)

        keys_same : next.layer.keys ≡ g.layer.keys
        keys_same = ap (λ l. l.keys) layers

        all_same : lists_in next.lists ≡ lists_in g.lists
        all_same = ap lists_in lists

        spots_same : spots_in (lists_in next.lists) next.layer.keys ≡ spots_in (lists_in g.lists) g.layer.keys
        spots_same = ap (λ (l : List (List ℕ)). spots_in l next.layer.keys) all_same ∙ ap (spots_in (lists_in g.lists)) keys_same

        pub front_on : IsFront rows processes next
        front_on = record {
          lists = subst (λ (l : Lists). AreLists l) (sym lists) grown.lists;
          nodes = subst (λ (l : List (List ℕ)). AreNodes l processes next.layer.keys) (sym all_same) (subst (λ (n : List Node). AreNodes (lists_in g.lists) processes n) (sym keys_same) grown.nodes);
          layer = subst (λ (s : List Spot). IsLayer (next_from rows) (first_spot processes) (length next.trail.items) (ways_of ([] ∷ []) (trail_in next.trail.items)) s) (sym spots_same)
              (subst (λ (t : List (List Came)). IsLayer (next_from rows) (first_spot processes) (length next.trail.items) (ways_of ([] ∷ []) t) (spots_in (lists_in g.lists) g.layer.keys)) (sym trails)
              (subst (λ (n : ℕ). IsLayer (next_from rows) (first_spot processes) n (ways_of ([] ∷ []) (trail ++ g.came.items ∷ [])) (spots_in (lists_in g.lists) g.layer.keys)) (sym trail_longer) layer_on));
          linked = subst (λ (t : List (List Came)). IsLinked t) (sym trails) linked_on;
          some = subst (λ (n : ℕ). HasSome (next_from rows) (first_spot processes) n (length next.trail.items + 1)) (sym many)
              (subst (λ (n : ℕ). HasSome (next_from rows) (first_spot processes) (f.many + length g.layer.keys) (n + 1)) (sym trail_longer) some_on);
        }

    -- more than there is room for
    pub over_on : (f : Front) → IsFront rows processes f → (most : ℕ) → f.many ≤ most → GrowsOver (next_from rows) (spots_in (lists_in f.lists) f.layer.keys) (most - f.many) → HasOver (next_from rows) (first_spot processes) most
    over_on f h most few over = record {
      many = f.many + length over.more;
      bound = length f.trail.items + 1 + 1;
      some = with_these (next_from rows) (spots_in (lists_in f.lists) f.layer.keys) over.place over.step over.came over.more over.growing (first_spot processes) (length f.trail.items)
          (ways_of ([] ∷ []) (trail_in f.trail.items)) h.layer IsFine first_fine stays_fine depth_of deeper_by_one f.many h.some;
      over = let o = over.over in omega (arith, o, few);
    }

  -- the front of which the parts are these
  pub front_first : (f : Front) → lists_in f.lists ≡ [] ∷ [] → f.lists.links.keys ≡ [] → IsFirst processes f.layer.keys → f.trail.items ≡ [] → f.many ≡ 1 → IsFront rows processes f
  front_first f lists links first none one =
      let node = first.0 in
      let told = first.3 in
      let is : IsNode (lists_in f.lists) processes node = record {
        size = ap length told ∙ length-replicate processes 0;
        within = subst (λ (l : List ℕ). All (λ n. n < length (lists_in f.lists)) l) (sym told) (All-replicate (λ n. n < length (lists_in f.lists)) processes 0 (let e = ap length lists in omega (arith, e)));
      } in
      let spot : spot_in (lists_in f.lists) node ≡ first_spot processes =
      same_spot (spot_in (lists_in f.lists) node) (first_spot processes) first.2 (ap (λ (l : List (List ℕ)). map (λ (k : ℕ). get_or l k []) node.told.items) lists ∙ ap (map (λ (k : ℕ). get_or {A = List ℕ} ([] ∷ []) k [])) told ∙ all_empty processes) in
      let spots : spots_in (lists_in f.lists) f.layer.keys ≡ first_spot processes ∷ [] = ap (spots_in (lists_in f.lists)) first.1 ∙ ap (λ (s : Spot). s ∷ []) spot in
      record {
        lists = subst (λ (l : List (List ℕ)). AreLinked f.lists.links.keys l) (sym lists) (subst (λ (l : List Link). AreLinked l ([] ∷ [])) (sym links) only_linked);
        nodes = subst (λ (l : List Node). AreNodes (lists_in f.lists) processes l) (sym first.1) (All-cons (IsNode (lists_in f.lists) processes) node [] is (All-nil (IsNode (lists_in f.lists) processes)));
        layer = subst (λ (l : List Spot). IsLayer (next_from rows) (first_spot processes) (length f.trail.items) (ways_of ([] ∷ []) (trail_in f.trail.items)) l) (sym spots)
            (subst (λ (t : List (Vec Came _)). IsLayer (next_from rows) (first_spot processes) (length t) (ways_of ([] ∷ []) (trail_in t)) (first_spot processes ∷ [])) (sym none) (layer_first (next_from rows) (first_spot processes)));
        linked = subst (λ (t : List (Vec Came _)). IsLinked (trail_in t)) (sym none) (λ depth came k c at there. absurd (cc));
        some = subst (λ (n : ℕ). HasSome (next_from rows) (first_spot processes) n (length f.trail.items + 1)) (sym one)
            (subst (λ (t : List (Vec Came _)). HasSome (next_from rows) (first_spot processes) 1 (length t + 1)) (sym none) (some_first (next_from rows) (first_spot processes)));
      }
    where
      all_empty : (n : ℕ) → map (λ (k : ℕ). get_or {A = List ℕ} ([] ∷ []) k []) (replicate n 0) ≡ replicate {A = List ℕ} n []
      all_empty zero = refl
      all_empty (suc n) = ap (λ (l : List (List ℕ)). [] ∷ l) (all_empty n)

      only_one : AreApart {A = List ℕ} ([] ∷ [])
      only_one zero zero a at also = refl
      only_one zero (suc k) a at also = absurd (cc)
      only_one (suc j) k a at also = absurd (cc)

      only_linked : AreLinked [] ([] ∷ [])
      only_linked = record { size = refl; first = refl; each = λ k l at. absurd (cc); apart = only_one }
