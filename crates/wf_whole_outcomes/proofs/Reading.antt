-- What is read of the last layer.
use Rattle.std.proofs.Common.{◌≡◌, refl, sym, ap, ◌∙◌, subst, ℕ, ◌+◌, ◌<◌, zero, suc, List, [], ◌∷◌, ◌++◌, length, get_or, map, set, take, drop, All, Option, Some, arith, append_assoc, add-one}
use Rattle.std.proofs.Math.Seq.{drop-cons}
use Rattle.std.proofs.lemmas.List.{length-map, map-append, take_more}
use Rattle.std.proofs.lemmas.Option.{get_or_from_slice_get, same_Some}
use Rattle.std.specs.List.{cons_option, slice_get}
use Rattle.ob_interface.specs.Call.{Reply}
use Rattle.wf_history.specs.declared.event.CallId.{CallId}
use Rattle.wf_outcomes.proofs.TellingOrders.{state_there}
use Rattle.wf_outcomes.specs.Explored.{Kept, state_at}
use Rattle.wf_whole_outcomes.specs.Graph.{Spot}
use Rattle.wf_whole_outcomes.specs.Leaves.{AreLeaves, IsLeaf, IsTellable, named, said_in}
use Rattle.wf_whole_outcomes.specs.Nodes.{lists_in, spot_in, spots_in}
use Rattle.wf_whole_outcomes.specs.View.{front_ways, replies_of, row_of, told_by, whole_at, wholes_from}
use Rattle.wf_whole_outcomes.specs.Wholes.{WholeTold}
use Rattle.wf_whole_outcomes.specs.declared.nodes.Node.{Node}
use Rattle.wf_whole_outcomes.specs.declared.layers.Front.{Front}
use Rattle.wf_whole_outcomes.proofs.Listing.{in_map, item_at, of_map}

-- the names so far, and those of one more call
pub named_more : (all : List CallId) (order : List CallId) (counts way : List ℕ) (k : ℕ) → k < length way → all ≡ order ++ named counts (drop k way) →
    all ≡ (order ++ record { process = get_or way k 0; number = get_or counts (get_or way k 0) 0 + 1 } ∷ []) ++ named (set counts (get_or way k 0) (get_or counts (get_or way k 0) 0 + 1)) (drop (k + 1) way)
named_more all order counts way k within so_far =
    so_far ∙ ap (λ (w : List ℕ). order ++ named counts w) (drop-cons way k 0 within)
    ∙ sym (append_assoc order (record { process = get_or way k 0; number = get_or counts (get_or way k 0) 0 + 1 } ∷ []) (named (set counts (get_or way k 0) (get_or counts (get_or way k 0) 0 + 1)) (drop (suc k) way)))
    ∙ ap (λ (n : ℕ). (order ++ record { process = get_or way k 0; number = get_or counts (get_or way k 0) 0 + 1 } ∷ []) ++ named (set counts (get_or way k 0) (get_or counts (get_or way k 0) 0 + 1)) (drop n way)) (sym (add-one k))

-- one more item of two lists whose items go together
pub both_more : {A B C : Type 0} (f : A → C) (g : B → C) (xs : List A) (ys : List B) (k : ℕ) (d : B) → k < length ys → map f xs ≡ map g (take k ys) → (x : A) → f x ≡ g (get_or ys k d) →
    (after : List A) → after ≡ xs ++ x ∷ [] → map f after ≡ map g (take (k + 1) ys)
both_more {A} {B} {C} f g xs ys k d within so_far x same after pushed =
    ap (map f) pushed ∙ map-append f xs (x ∷ []) ∙ ap (λ (l : List C). l ++ f x ∷ []) so_far ∙ ap (λ (y : C). map g (take k ys) ++ y ∷ []) same
    ∙ sym (map-append g (take k ys) (get_or ys k d ∷ [])) ∙ ap (map g) (sym (take_more ys k d within))

-- numbers of replies, and the replies that have them
module _ (known : List Reply) where
  abbrev IsNumber : ℕ → Type 0
  IsNumber number = number < length known

  picked : (numbers : List ℕ) → All IsNumber numbers → map (slice_get known) numbers ≡ map Some (replies_of known numbers)
  picked [] h = refl
  picked (number ∷ numbers) h =
      let r = item_at known number (h 0 0 (omega arith)) in
      subst (λ (o : Option Reply). o ∷ map (slice_get known) numbers ≡ map Some (cons_option o (replies_of known numbers))) (sym r.1)
      (ap (λ (l : List (Option Reply)). Some r.0 ∷ l) (picked numbers (λ k d less. h (suc k) d (omega (arith, less)))))

  pub rows_picked : (lists : List (List ℕ)) (told : List ℕ) → All (All IsNumber) (said_in lists told) → map (map (slice_get known)) (said_in lists told) ≡ map (map Some) (map (row_of known lists) told)
  rows_picked lists [] h = refl
  rows_picked lists (number ∷ told) h =
      let first = picked (get_or lists number []) (h 0 [] (omega arith)) in
      let rest = rows_picked lists told (λ k d less. h (suc k) d (omega (arith, less))) in
      ap (λ (l : List (Option Reply)). l ∷ map (map (slice_get known)) (said_in lists told)) first ∙ ap (λ (l : List (List (Option Reply))). map Some (row_of known lists number) ∷ l) rest

-- what is told of nodes, with their states
module _ {State : Type 0} (known : List Reply) (processes : ℕ) (f : Front) where
  length_wholes : (k : ℕ) (states : List State) → length (wholes_from known processes f k states) ≡ length states
  length_wholes k [] = refl
  length_wholes k (state ∷ states) = ap suc (length_wholes (k + 1) states)

  whole_there : (j k : ℕ) (states : List State) (w : WholeTold State Reply) → slice_get (wholes_from known processes f j states) k ≡ Some w →
      (state : State) × (slice_get states k ≡ Some state) × (whole_at known processes f (j + k) state ≡ w)
  whole_there j k [] w at = absurd (cc)
  whole_there j zero (state ∷ states) w at =
      let here : j + 0 ≡ j = omega arith in
      (state, refl, ap (λ (n : ℕ). whole_at known processes f n state) here ∙ same_Some (whole_at known processes f j state) w at)
  whole_there j (suc k) (state ∷ states) w at =
      let r = whole_there (j + 1) k states w at in
      let here : j + suc k ≡ (j + 1) + k = omega arith in
      (r.0, r.1, ap (λ (n : ℕ). whole_at known processes f n r.0) here ∙ r.2)

  module _ (found : List (Kept State)) (states : List State) (are : map Some states ≡ map (λ (node : Node). state_at found node.place) f.layer.keys) where
    abbrev nodes : List Node
    nodes = f.layer.keys

    same_size : length states ≡ length nodes
    same_size = sym (length-map states Some) ∙ ap length are ∙ length-map nodes (λ (node : Node). state_at found node.place)

    -- the node of a state
    of_state : (k : ℕ) (state : State) → slice_get states k ≡ Some state → (node : Node) × (slice_get nodes k ≡ Some node) × (state_at found node.place ≡ Some state)
    of_state k state at =
        let there = ap (λ (l : List (Option State)). slice_get l k) (sym are) ∙ in_map Some states k state at in
        of_map (λ (node : Node). state_at found node.place) nodes k (Some state) there

    pub leaves_are : ((k : ℕ) (spot : Spot) → slice_get (spots_in (lists_in f.lists) nodes) k ≡ Some spot → IsTellable (length found) (length known) spot) →
        AreLeaves found known processes (front_ways f) (spots_in (lists_in f.lists) nodes) (wholes_from known processes f 0 states)
    leaves_are tellable = record {
      size = length_wholes 0 states ∙ same_size ∙ sym (length-map nodes (spot_in (lists_in f.lists)));
      each = λ k w at.
          let s = whole_there 0 k states w at in
          let place : k ≡ 0 + k = omega arith in
          let n = of_state k s.0 s.1 in
          let e = state_there found n.0.place s.0 n.2 in
          let spot = spot_in (lists_in f.lists) n.0 in
          let here : slice_get (spots_in (lists_in f.lists) nodes) k ≡ Some spot = in_map (spot_in (lists_in f.lists)) nodes k n.0 n.1 in
          let told : get_or (told_by f) k [] ≡ n.0.told.items = get_or_from_slice_get (told_by f) k n.0.told.items [] (in_map (λ (node : Node). node.told.items) nodes k n.0 n.1) in
          subst (IsLeaf found known processes (front_ways f) (spots_in (lists_in f.lists) nodes) k) (ap (λ (m : ℕ). whole_at known processes f m s.0) place ∙ s.2) (record {
            spot = spot;
            at = here;
            it = e.0;
            there = e.1;
            state = e.2;
            replies = rows_picked known (lists_in f.lists) n.0.told.items (tellable k spot here).said ∙ ap (λ (l : List ℕ). map (map Some) (map (row_of known (lists_in f.lists)) l)) (sym told);
            order = refl;
          });
    }
