-- One step of a node of a layer, over nodes and lists.
use Rattle.std.proofs.Common.{◌≡◌, refl, sym, ap, ◌∙◌, subst, ℕ, ◌+◌, ◌<◌, ◌≤◌, zero, suc, List, [], ◌∷◌, ◌++◌, length, get_or, Option, Some, None, inl, inr, option_map, arith, append-nil, append_assoc}
use Rattle.std.proofs.lemmas.Bool.{cases_lt}
use Rattle.std.proofs.lemmas.List.{length-map}
use Rattle.std.proofs.lemmas.Option.{slice_get-get_or}
use Rattle.std.specs.List.{slice_get}
use Rattle.wf_history.proofs.Positions.{contains_at, place_of}
use Rattle.wf_whole_outcomes.specs.Graph.{Spot, GoesOn, IsNarrow, edge_from, next_from, spot_on}
use Rattle.wf_whole_outcomes.specs.Layers.{IsGrowing, GrowsOver}
use Rattle.wf_whole_outcomes.specs.Nodes.{AreLists, AreNodes, IsArrived, IsGrown, IsNode, lists_in, spot_in, spots_in}
use Rattle.wf_whole_outcomes.specs.declared.edges.Edge.{Edge}
use Rattle.wf_whole_outcomes.specs.declared.growing.Came.{Came}
use Rattle.wf_whole_outcomes.specs.declared.growing.Growing.{Growing}
use Rattle.wf_whole_outcomes.specs.declared.nodes.Node.{Node}
use Rattle.wf_whole_outcomes.proofs.Layering.{grows_first, next_place, tried_none, tried_new, tried_old}
use Rattle.wf_whole_outcomes.proofs.Listing.{in_map}
use Rattle.wf_whole_outcomes.proofs.Noding.{nodes_kept, spot_kept, spots_kept}

pub goes_nowhere : {A : Type 0} (items : List A) → GoesOn items items
goes_nowhere items = ([], sym (append-nil items))

pub goes_both : {A : Type 0} (items more most : List A) → GoesOn items more → GoesOn more most → GoesOn items most
goes_both items more most one two = (one.0 ++ two.0, two.1 ∙ ap (λ l. l ++ two.0) one.1 ∙ append_assoc items one.0 two.0)

or_beyond : {A : Type 0} (xs : List A) (i : ℕ) (d : A) → length xs ≤ i → get_or xs i d ≡ d
or_beyond [] i d beyond = refl
or_beyond (x ∷ xs) zero d beyond = absurd (omega (arith, beyond))
or_beyond (x ∷ xs) (suc i) d beyond = or_beyond xs i d (omega (arith, beyond))

module _ (rows : List (List (Option Edge))) (processes : ℕ) where
  -- each edge is of one of the processes
  pub own_edge : IsNarrow rows processes → (place by : ℕ) (e : Edge) → edge_from rows place by ≡ Some e → by < processes
  own_edge narrow place by e leads =
      elim (cases_lt by (length row)) [
        | inl less ↦ elim (cases_lt place (length rows)) [
          | inl there ↦ let size = narrow place row (slice_get-get_or rows place [] there) in omega (arith, less, size)
          | inr beyond ↦ let none = ap length (or_beyond rows place [] (omega (arith, beyond))) in absurd (omega (arith, none, less))
        ]
        | inr beyond ↦
            let none : edge_from rows place by ≡ None = or_beyond row by None (omega (arith, beyond)) in
            let lost = sym none ∙ leads in
            absurd (cc)
      ]
    where
      row : List (Option Edge)
      row = get_or rows place []

  -- so is each step
  pub of_process : IsNarrow rows processes → (a b : Spot) (by : ℕ) → next_from rows a by ≡ Some b → by < processes
  of_process narrow a b by leads = by_edge (edge_from rows a.place by) refl leads
    where
      by_edge : (o : Option Edge) → edge_from rows a.place by ≡ o → option_map (spot_on a by) o ≡ Some b → by < processes
      by_edge None is to = absurd (cc)
      by_edge (Some e) is to = own_edge narrow a.place by e is

  module _ (layer : List Node) (place step : ℕ) (g : Growing) (h : IsGrown rows processes layer place step g) where
    abbrev lists : List (List ℕ)
    lists = lists_in g.lists

    pub all_tried : IsNarrow rows processes → step ≡ processes → IsGrown rows processes layer (place + 1) 0 g
    all_tried narrow end = record {
      lists = h.lists;
      before = h.before;
      nodes = h.nodes;
      growing = next_place (next_from rows) (spots_in lists layer) place step g.came.items (spots_in lists g.layer.keys) h.growing
          (λ a b by leads. let less = of_process narrow a b by leads in omega (arith, less, end));
    }

    module _ (node : Node) (at : slice_get layer place ≡ Some node) where
      pub none_tried : edge_from rows node.place step ≡ None → IsGrown rows processes layer place (step + 1) g
      none_tried none = record {
        lists = h.lists;
        before = h.before;
        nodes = h.nodes;
        growing = tried_none (next_from rows) (spots_in lists layer) place step g.came.items (spots_in lists g.layer.keys) h.growing
            (spot_in lists node) (in_map (spot_in lists) layer place node at) (ap (option_map (spot_on (spot_in lists node) step)) none);
      }

      module _ (edge : Edge) (leads : edge_from rows node.place step ≡ Some edge) (is_node : IsNode lists processes node) (more : List (List ℕ)) (on : GoesOn lists more) (there : Node)
          (spot : spot_in more there ≡ spot_on (spot_in lists node) step edge) where
        abbrev now : Came
        now = record { from = place; by = step }

        -- the same over the lists that there are now
        still : IsGrowing (next_from rows) (spots_in more layer) place step g.came.items (spots_in more g.layer.keys)
        still =
            subst (λ (l : List Spot). IsGrowing (next_from rows) l place step g.came.items (spots_in more g.layer.keys)) (sym (spots_kept lists more on processes layer h.before))
            (subst (λ (l : List Spot). IsGrowing (next_from rows) (spots_in lists layer) place step g.came.items l) (sym (spots_kept lists more on processes g.layer.keys h.nodes)) h.growing)

        there_at : slice_get (spots_in more layer) place ≡ Some (spot_in more node)
        there_at = in_map (spot_in more) layer place node at

        goes : next_from rows (spot_in more node) step ≡ Some (spot_in more there)
        goes =
            ap (option_map (spot_on (spot_in more node) step)) leads
            ∙ ap (λ (s : Spot). Some (spot_on s step edge)) (spot_kept lists more on processes node is_node) ∙ ap Some (sym spot)

        grown_now : (came : List Came) (spots : List Spot) → IsArrived (spots_in more g.layer.keys) g.came.items spots came (spot_in more there) now → IsGrowing (next_from rows) (spots_in more layer) place (step + 1) came spots
        grown_now came spots a =
            elim a [
              | inl old ↦
                  let p = place_of (spots_in more g.layer.keys) (spot_in more there) old.0 in
                  subst (λ (l : List Came). IsGrowing (next_from rows) (spots_in more layer) place (step + 1) l spots) (sym old.2)
                  (subst (λ (l : List Spot). IsGrowing (next_from rows) (spots_in more layer) place (step + 1) g.came.items l) (sym old.1)
                  (tried_old (next_from rows) (spots_in more layer) place step g.came.items (spots_in more g.layer.keys) still (spot_in more node) there_at (spot_in more there) goes p.0 p.1))
              | inr new ↦
                  subst (λ (l : List Came). IsGrowing (next_from rows) (spots_in more layer) place (step + 1) l spots) (sym new.2)
                  (subst (λ (l : List Spot). IsGrowing (next_from rows) (spots_in more layer) place (step + 1) (g.came.items ++ now ∷ []) l) (sym new.1)
                  (tried_new (next_from rows) (spots_in more layer) place step g.came.items (spots_in more g.layer.keys) still (spot_in more node) there_at (spot_in more there) goes
                  (λ k also. new.0 (contains_at (spots_in more g.layer.keys) k (spot_in more there) also))))
            ]

        pub one_tried : (after : Growing) → AreLists after.lists → lists_in after.lists ≡ more → AreNodes more processes after.layer.keys →
            IsArrived (spots_in more g.layer.keys) g.came.items (spots_in more after.layer.keys) after.came.items (spot_in more there) now → IsGrown rows processes layer place (step + 1) after
        one_tried after good same nodes arrived = record {
          lists = good;
          before = subst (λ (l : List (List ℕ)). AreNodes l processes layer) (sym same) (nodes_kept lists more on processes layer h.before);
          nodes = subst (λ (l : List (List ℕ)). AreNodes l processes after.layer.keys) (sym same) nodes;
          growing = subst (λ (l : List (List ℕ)). IsGrowing (next_from rows) (spots_in l layer) place (step + 1) after.came.items (spots_in l after.layer.keys)) (sym same)
              (grown_now after.came.items (spots_in more after.layer.keys) arrived);
        }

    -- more than there is room for, of the layer as it was
    pub grows_over : (first : List (List ℕ)) → AreNodes first processes layer → GoesOn first lists → (room : ℕ) → room < length g.layer.keys → GrowsOver (next_from rows) (spots_in first layer) room
    grows_over first nodes on room over =
        let same = spots_kept first lists on processes layer nodes in
        let size = length-map g.layer.keys (spot_in lists) in
        record {
          place = place;
          step = step;
          came = g.came.items;
          more = spots_in lists g.layer.keys;
          growing = subst (λ (l : List Spot). IsGrowing (next_from rows) l place step g.came.items (spots_in lists g.layer.keys)) same h.growing;
          over = omega (arith, size, over);
        }

  -- nothing was gone on from
  pub none_grown : (layer : List Node) (g : Growing) → AreLists g.lists → AreNodes (lists_in g.lists) processes layer → g.layer.keys ≡ [] → g.came.items ≡ [] → IsGrown rows processes layer 0 0 g
  none_grown layer g good before none no_came = record {
    lists = good;
    before = before;
    nodes = subst (λ (l : List Node). AreNodes (lists_in g.lists) processes l) (sym none) (λ k d less. absurd (omega (arith, less)));
    growing = grows_first (next_from rows) (spots_in (lists_in g.lists) layer) g.came.items (spots_in (lists_in g.lists) g.layer.keys) no_came (ap (spots_in (lists_in g.lists)) none);
  }
