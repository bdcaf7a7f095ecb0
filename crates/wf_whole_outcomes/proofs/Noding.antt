-- Nodes, and the spots that they stand for.
use Rattle.std.proofs.Common.{◌≡◌, refl, sym, ap, ◌∙◌, subst, ℕ, ◌<◌, zero, suc, Bool, true, false, ◌&&◌, List, [], ◌∷◌, ◌++◌, length, get_or, set, map, All, Some, ◌↔◌, inl, inr, arith, length-append, length-set, not}
use Rattle.std.proofs.Math.Dec.{eqb}
use Rattle.std.proofs.lemmas.Bool.Decides.{Decides-eqb}
use Rattle.std.proofs.lemmas.List.{get_or-map, get_or_append_left, map-append}
use Rattle.std.proofs.lemmas.List.Elements.{All-head, All-tail, All-weaker, All-set}
use Rattle.std.proofs.lemmas.Option.{slice_get-get_or, slice_get_within, get_or_from_slice_get}
use Rattle.std.proofs.lemmas.Slice.Eq.{slice_eq-Decides}
use Rattle.std.specs.Cmp.Lexicographic.{pointwise}
use Rattle.std.specs.List.{slice_get, list_any, Contains}
use Rattle.indexmap.specs.IndexSet.{insert_key}
use Rattle.wf_history.proofs.Positions.{contains_at, place_of}
use Rattle.wf_whole_outcomes.specs.Graph.{Spot, AreApart, GoesOn, said_on, spot_on}
use Rattle.wf_whole_outcomes.specs.Nodes.{IsNode, AreNodes, spot_in, spots_in}
use Rattle.wf_whole_outcomes.specs.declared.edges.Edge.{Edge}
use Rattle.wf_whole_outcomes.specs.declared.nodes.Node.{Node}
use Rattle.wf_whole_outcomes.proofs.Arriving.{arrived, still_good}

pub same_spot : (a b : Spot) → a.place ≡ b.place → a.said ≡ b.said → a ≡ b
same_spot a b place said = ap (λ (p : ℕ). record { place = p; said = a.said }) place ∙ ap (λ (s : List (List ℕ)). record { place = b.place; said = s }) said

-- with a list in place of another one
pub map_set : {A B : Type 0} (f : A → B) (xs : List A) (i : ℕ) (x : A) → map f (set xs i x) ≡ set (map f xs) i (f x)
map_set f [] i x = refl
map_set f (y ∷ xs) zero x = refl
map_set f (y ∷ xs) (suc i) x = ap (λ l. f y ∷ l) (map_set f xs i x)

abbrev pub list_of : List (List ℕ) → ℕ → List ℕ
list_of lists number = get_or lists number []

-- `==` of nodes
abbrev pub node_eq : Node → Node → Bool
node_eq a b = eqb a.place b.place && pointwise eqb a.told.items b.told.items

module _ (lists : List (List ℕ)) (apart : AreApart lists) where
  told_same : (xs ys : List ℕ) → All (λ n. n < length lists) xs → All (λ n. n < length lists) ys → map (list_of lists) xs ≡ map (list_of lists) ys → xs ≡ ys
  told_same [] [] one two same = refl
  told_same [] (y ∷ ys) one two same = absurd (cc)
  told_same (x ∷ xs) [] one two same = absurd (cc)
  told_same (x ∷ xs) (y ∷ ys) one two same =
      let rest = told_same xs ys (All-tail (λ n. n < length lists) x xs one) (All-tail (λ n. n < length lists) y ys two) (cc) in
      let first : list_of lists x ≡ list_of lists y = cc in
      let here = slice_get-get_or lists x [] (All-head (λ n. n < length lists) x xs one) in
      let there = slice_get-get_or lists y [] (All-head (λ n. n < length lists) y ys two) in
      let e : x ≡ y = apart x y (list_of lists y) (here ∙ ap Some first) there in
      cc

module _ (lists more : List (List ℕ)) (on : GoesOn lists more) where
  longer_on : (n : ℕ) → n < length lists → n < length more
  longer_on n less = let e = ap length on.1 ∙ length-append lists on.0 in omega (arith, less, e)

  list_kept : (n : ℕ) → n < length lists → list_of more n ≡ list_of lists n
  list_kept n less = ap (λ (l : List (List ℕ)). get_or l n []) on.1 ∙ get_or_append_left lists on.0 [] n less

  lists_kept : (told : List ℕ) → All (λ n. n < length lists) told → map (list_of more) told ≡ map (list_of lists) told
  lists_kept [] h = refl
  lists_kept (n ∷ told) h =
      let first = list_kept n (All-head (λ x. x < length lists) n told h) in
      let rest = lists_kept told (All-tail (λ x. x < length lists) n told h) in
      cc

  module _ (processes : ℕ) where
    pub spot_kept : (node : Node) → IsNode lists processes node → spot_in more node ≡ spot_in lists node
    spot_kept node is = same_spot (spot_in more node) (spot_in lists node) refl (lists_kept node.told.items is.within)

    pub node_kept : (node : Node) → IsNode lists processes node → IsNode more processes node
    node_kept node is = record { size = is.size; within = All-weaker (λ x. x < length lists) (λ x. x < length more) longer_on node.told.items is.within }

    pub nodes_kept : (nodes : List Node) → AreNodes lists processes nodes → AreNodes more processes nodes
    nodes_kept nodes h = All-weaker (IsNode lists processes) (IsNode more processes) node_kept nodes h

    pub spots_kept : (nodes : List Node) → AreNodes lists processes nodes → spots_in more nodes ≡ spots_in lists nodes
    spots_kept [] h = refl
    spots_kept (node ∷ nodes) h =
        let first = spot_kept node (All-head (IsNode lists processes) node nodes h) in
        let rest = spots_kept nodes (All-tail (IsNode lists processes) node nodes h) in
        cc

    module _ (node : Node) (is : IsNode lists processes node) (process : ℕ) (own : process < processes) (edge : Edge) (number : ℕ) (there : slice_get more number ≡ Some (list_of lists (get_or node.told.items process 0) ++ edge.reply ∷ [])) (told : List ℕ) (new : told ≡ set node.told.items process number) where
      pub said_is : map (list_of more) told ≡ said_on (spot_in lists node).said process edge.reply
      said_is =
          let f = list_of lists in
          let xs = node.told.items in
          let size = is.size in
          let within : process < length xs = omega (arith, size, own) in
          let item : list_of more number ≡ get_or (map f xs) process [] ++ edge.reply ∷ [] =
          get_or_from_slice_get more number (f (get_or xs process 0) ++ edge.reply ∷ []) [] there ∙ ap (λ (l : List ℕ). l ++ edge.reply ∷ []) (sym (get_or-map f xs process 0 [] within)) in
          ap (map (list_of more)) new ∙ map_set (list_of more) xs process number ∙ ap (λ (l : List (List ℕ)). set l process (list_of more number)) (lists_kept xs is.within)
          ∙ ap (set (map f xs) process) item

      pub told_is : (next : Node) → next.place ≡ edge.to → next.told.items ≡ told → IsNode more processes next
      told_is next place same = record {
        size = ap length (same ∙ new) ∙ length-set node.told.items process number ∙ is.size;
        within = subst (All (λ x. x < length more)) (sym (same ∙ new))
            (All-set (λ x. x < length more) node.told.items process number (slice_get_within more number (list_of lists (get_or node.told.items process 0) ++ edge.reply ∷ []) there) (node_kept node is).within);
      }

      pub next_spot : (next : Node) → next.place ≡ edge.to → next.told.items ≡ told → spot_in more next ≡ spot_on (spot_in lists node) process edge
      next_spot next place same = same_spot (spot_in more next) (spot_on (spot_in lists node) process edge) place (ap (map (list_of more)) same ∙ said_is)

-- nodes for which `==` says whether they stand for the same spot
module _ (lists : List (List ℕ)) (apart : AreApart lists) (processes : ℕ) where
  pub exact : (a b : Node) → IsNode lists processes a → IsNode lists processes b → (node_eq a b ≡ true) ↔ (spot_in lists a ≡ spot_in lists b)
  exact a b is_a is_b = (
    (λ e. by (eqb a.place b.place) (pointwise eqb a.told.items b.told.items) refl refl e),
    (λ same.
        let place : a.place ≡ b.place = ap (λ (s : Spot). s.place) same in
        let told = told_same lists apart a.told.items b.told.items is_a.within is_b.within (ap (λ (s : Spot). s.said) same) in
        ap (λ (x : Bool). x && pointwise eqb a.told.items b.told.items) (eq_places place) ∙ (slice_eq-Decides {E = eqb} Decides-eqb a.told.items b.told.items (pointwise eqb a.told.items b.told.items) refl).1 told),
  )
    where
      eq_places : a.place ≡ b.place → eqb a.place b.place ≡ true
      eq_places e = (Decides-eqb a.place b.place).1 e

      by : (p q : Bool) → eqb a.place b.place ≡ p → pointwise eqb a.told.items b.told.items ≡ q → (eqb a.place b.place && pointwise eqb a.told.items b.told.items) ≡ true → spot_in lists a ≡ spot_in lists b
      by true true is_p is_q h = same_spot (spot_in lists a) (spot_in lists b) ((Decides-eqb a.place b.place).0 is_p)
          (ap (map (list_of lists)) ((slice_eq-Decides {E = eqb} Decides-eqb a.told.items b.told.items true (sym is_q)).0 refl))
      by true false is_p is_q h = absurd (cc)
      by false q is_p is_q h = absurd (cc)

pub when_not : (said b : Bool) → said ≡ not b → said ≡ false → b ≡ true
when_not said true e f = refl
when_not said false e f = absurd (cc)

pub when_so : (said b : Bool) → said ≡ not b → said ≡ true → b ≡ false
when_so said true e f = absurd (cc)
when_so said false e f = refl

-- a node that arrives in a set of nodes
module _ (lists : List (List ℕ)) (apart : AreApart lists) (processes : ℕ) (keys : List Node) (x : Node) (good : AreNodes lists processes keys) (is : IsNode lists processes x) (after : List Node) (inserted : after ≡ insert_key node_eq keys x) where
  pub nodes_after : AreNodes lists processes after
  nodes_after = still_good node_eq (spot_in lists) (IsNode lists processes) (exact lists apart processes) keys x good is after inserted

  pub old_node : list_any (node_eq x) keys ≡ true → Contains (spots_in lists keys) (spot_in lists x) × (spots_in lists after ≡ spots_in lists keys)
  old_node there =
      elim (arrived node_eq (spot_in lists) (IsNode lists processes) (exact lists apart processes) keys x good is after inserted) [
        | inl old ↦ (contains_at (spots_in lists keys) old.1.0 (spot_in lists x) old.1.1, ap (spots_in lists) old.2)
        | inr new ↦ let e = new.0 in absurd (cc)
      ]

  pub new_node : list_any (node_eq x) keys ≡ false → (Contains (spots_in lists keys) (spot_in lists x) → ⊥) × (spots_in lists after ≡ spots_in lists keys ++ spot_in lists x ∷ [])
  new_node fresh =
      elim (arrived node_eq (spot_in lists) (IsNode lists processes) (exact lists apart processes) keys x good is after inserted) [
        | inl old ↦ let e = old.0 in absurd (cc)
        | inr new ↦ (
          (λ there. let p = place_of (spots_in lists keys) (spot_in lists x) there in new.1 p.0 p.1),
          ap (spots_in lists) new.2 ∙ map-append (spot_in lists) keys (x ∷ []),
        )
      ]
