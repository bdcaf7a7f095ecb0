-- What is told of the last layer are the whole outcomes.
use Rattle.std.proofs.Common.{◌≡◌, refl, sym, ap, ◌∙◌, subst, ℕ, zero, suc, List, [], ◌∷◌, length, map, replicate, Option, Some, arith}
use Rattle.std.proofs.lemmas.Option.{get_or_from_slice_get, same_Some, slice_get_within}
use Rattle.std.specs.List.{slice_get}
use Rattle.wf_history.proofs.Positions.{one_item}
use Rattle.wf_history.specs.declared.event.CallId.{CallId}
use Rattle.wf_whole_outcomes.specs.Graph.{Spot, AreApart, next_from}
use Rattle.wf_whole_outcomes.specs.Layers.{HasOver, IsLayer, walk}
use Rattle.wf_whole_outcomes.specs.Nodes.{first_spot}
use Rattle.wf_whole_outcomes.specs.declared.edges.Edge.{Edge}
use Rattle.wf_whole_outcomes.proofs.Listing.{beside, item_at}
use Rattle.wf_outcomes.specs.Explored.{Kept, IsExplored}
use Rattle.wf_outcomes.specs.Merges.{total}
use Rattle.wf_outcomes.specs.OutcomeOrders.{IsItself}
use Rattle.wf_whole_outcomes.specs.OutcomeGraph.{AreRows}
use Rattle.wf_whole_outcomes.specs.Leaves.{AreLeaves, IsLeaf, IsTellable, named}
use Rattle.wf_whole_outcomes.specs.Tellings.{Gives, HasMoreTold, Telling, Tells, silence}
use Rattle.wf_whole_outcomes.specs.Wholes.{AreWholes, GivesSo, IsBefore, IsThere, WholeTold}
use Rattle.wf_whole_outcomes.proofs.Counting.{all_told, long_order}
use Rattle.wf_whole_outcomes.proofs.Naming.{before_named, length_named, named_before}
use Rattle.wf_whole_outcomes.proofs.Numbering.{all_somes_same, map_all, rows_within}
use Rattle.wf_whole_outcomes.proofs.Standing.{Stands, one_spot, same_telling, stands_first, told_walk, walk_told}

-- of each item of a list something that belongs to it
pub of_each : {A B : Type 0} (R : A → B → Type 0) (xs : List A) → ((k : ℕ) (x : A) → slice_get xs k ≡ Some x → (y : B) × R x y) →
    (ys : List B) × (length ys ≡ length xs) × ((k : ℕ) (y : B) → slice_get ys k ≡ Some y → (x : A) × (slice_get xs k ≡ Some x) × R x y)
of_each R [] h = ([], refl, λ k y at. absurd (cc))
of_each {A} {B} R (x ∷ xs) h =
    let first = h 0 x refl in
    let rest = of_each R xs (λ k y at. h (suc k) y at) in
    (first.0 ∷ rest.0, ap suc rest.1, at_place first rest)
  where
    at_place : (first : (y : B) × R x y) (rest : (ys : List B) × (length ys ≡ length xs) × ((k : ℕ) (y : B) → slice_get ys k ≡ Some y → (z : A) × (slice_get xs k ≡ Some z) × R z y)) →
        (k : ℕ) (y : B) → slice_get (first.0 ∷ rest.0) k ≡ Some y → (z : A) × (slice_get (x ∷ xs) k ≡ Some z) × R z y
    at_place first rest zero y at = (x, refl, subst (R x) (same_Some first.0 y at) first.1)
    at_place first rest (suc k) y at = rest.2 k y at

module _ {State Call Reply : Type 0} (Effect : Call → State → State → Reply → Type 0)
    (determined : (call : Call) (before after other : State) (reply answer : Reply) → Effect call before after reply → Effect call before other answer → (after ≡ other) × (reply ≡ answer))
    (scripts : List (List Call)) (opening : State) (found : List (Kept State)) (explored : IsExplored Effect scripts opening found)
    (rows : List (List (Option Edge))) (replies : List Reply) (right : AreRows Effect scripts found replies (length found) rows) (apart : AreApart replies)
    (sizes : (place : ℕ) (e : Kept State) → slice_get found place ≡ Some e → length e.here.counts ≡ length scripts) where
  abbrev Here : Spot → Telling State Reply → Type 0
  Here = Stands Effect determined scripts opening found explored rows replies right apart sizes

  abbrev first_here : Here (first_spot (length scripts)) (silence Effect scripts opening)
  first_here = stands_first Effect determined scripts opening found explored rows replies right apart sizes

  abbrev zeros : List ℕ
  zeros = replicate (length scripts) 0

  none_yet : map length (silence Effect scripts opening).replies ≡ zeros
  none_yet = map_all length (length scripts) []

  -- what is told on a way from the start
  reached : (way : List ℕ) (spot : Spot) → walk (next_from rows) (Some (first_spot (length scripts))) way ≡ Some spot → (v : Telling State Reply) × Here spot v × Tells Effect scripts (silence Effect scripts opening) (named zeros way) v
  reached way spot leads =
      let r = walk_told Effect determined scripts opening found explored rows replies right apart sizes (first_spot (length scripts)) (silence Effect scripts opening) first_here way spot leads in
      (r.0, r.1, subst (λ (c : List ℕ). Tells Effect scripts (silence Effect scripts opening) (named c way) r.0) none_yet r.2)

  -- more spots than there is room for are more tellings
  pub more_told : (most : ℕ) → HasOver (next_from rows) (first_spot (length scripts)) most → HasMoreTold Effect scripts opening most
  more_told most h =
      let some = h.some in
      let list = of_each (λ (spot : Spot) (v : Telling State Reply). Here spot v × ((ids : List CallId) × Tells Effect scripts (silence Effect scripts opening) ids v)) some.some
      (λ k spot at. let w = some.each k spot at in let r = reached w.0 spot w.2 in (r.0, (r.1, (named zeros w.0, r.2)))) in
      record {
        some = list.0;
        many = let size = list.1 in let count = some.count in let over = h.over in omega (arith, size, count, over);
        told = λ k v at. (list.2 k v at).2.1;
        once = λ j k v at also.
            let one = list.2 j v at in
            let two = list.2 k v also in
            let same = one_spot Effect determined scripts opening found explored rows replies right apart sizes one.0 two.0 v one.2.0 two.2.0 in
            some.once j k one.0 one.1 (two.1 ∙ ap Some (sym same));
      }

  -- each spot of a layer can be told
  pub tellable : (calls : ℕ) (ways : List (List ℕ)) (spots : List Spot) → IsLayer (next_from rows) (first_spot (length scripts)) calls ways spots →
      (k : ℕ) (spot : Spot) → slice_get spots k ≡ Some spot → IsTellable (length found) (length replies) spot
  tellable calls ways spots layer k spot at =
      let way = beside ways spots layer.same k spot at in
      let e = layer.each k way.0 spot way.1 at in
      let r = reached way.0 spot e.1 in
      let here = r.1 in
      record { place = slice_get_within found spot.place here.it here.at; said = rows_within replies spot.said r.0.replies here.said }

  module _ (calls : ℕ) (calls_are : calls ≡ total (map length scripts)) (ways : List (List ℕ)) (spots : List Spot) (layer : IsLayer (next_from rows) (first_spot (length scripts)) calls ways spots)
      (wholes : List (WholeTold State Reply)) (leaves : AreLeaves found replies (length scripts) ways spots wholes) where
    -- the way to a leaf, and what is told on it
    record Told (k : ℕ) (w : WholeTold State Reply) : Type 0 where
      leaf : IsLeaf found replies (length scripts) ways spots k w
      way : List ℕ
      there : slice_get ways k ≡ Some way
      long : length way ≡ calls
      v : Telling State Reply
      here : Here leaf.spot v
      tells : Tells Effect scripts (silence Effect scripts opening) (named zeros way) v
      replies_same : v.replies ≡ w.replies
      state_same : v.state ≡ w.state
      order : w.order ≡ named zeros way

    told_of : (k : ℕ) (w : WholeTold State Reply) → slice_get wholes k ≡ Some w → Told k w
    told_of k w at =
        let leaf = leaves.each k w at in
        let way = beside ways spots layer.same k leaf.spot leaf.at in
        let e = layer.each k way.0 leaf.spot way.1 leaf.at in
        let r = reached way.0 leaf.spot e.1 in
        let here = r.1 in
        let it : here.it ≡ leaf.it = one_item found leaf.spot.place here.it leaf.it here.at leaf.there in
        record {
          leaf = leaf;
          way = way.0;
          there = way.1;
          long = e.0;
          v = r.0;
          here = here;
          tells = r.2;
          replies_same = all_somes_same r.0.replies w.replies (sym here.said ∙ leaf.replies);
          state_same = sym here.state ∙ ap (λ (x : Kept State). x.here.state) it ∙ leaf.state;
          order = leaf.order ∙ ap (named zeros) (get_or_from_slice_get ways k way.0 [] way.1);
        }

    gives_so : (k : ℕ) (w : WholeTold State Reply) → slice_get wholes k ≡ Some w → GivesSo IsItself Effect scripts opening w
    gives_so k w at =
        let t = told_of k w at in
        let same : t.v ≡ record { replies = w.replies; state = w.state } = same_telling t.v (record { replies = w.replies; state = w.state }) t.replies_same t.state_same in
        let tells = subst (λ (x : Telling State Reply). Tells Effect scripts (silence Effect scripts opening) w.order x) same (subst (λ (o : List CallId). Tells Effect scripts (silence Effect scripts opening) o t.v) (sym t.order) t.tells) in
        record {
          last = w.state;
          is = refl;
          gives = record {
            tells = tells;
            whole = all_told Effect scripts opening w.order (record { replies = w.replies; state = w.state }) tells (ap length t.order ∙ length_named zeros t.way ∙ t.long ∙ calls_are);
          };
        }

    is_there : (order : List CallId) (t : Telling State Reply) → Gives Effect scripts opening order t → IsThere IsItself Effect scripts opening wholes order t
    is_there order t g =
        let r = told_walk Effect determined scripts opening found explored rows replies right apart sizes (first_spot (length scripts)) first_here g.tells in
        let order_is : order ≡ named zeros r.0 = r.4 ∙ ap (λ (c : List ℕ). named c r.0) none_yet in
        let long : length r.0 ≡ calls = sym (length_named zeros r.0) ∙ sym (ap length order_is) ∙ long_order Effect scripts opening order t g.tells g.whole ∙ sym calls_are in
        let e = layer.every r.0 r.1 long r.2 in
        let size = leaves.size in
        let within = slice_get_within spots e.0 r.1 e.2 in
        let w = item_at wholes e.0 (omega (arith, size, within)) in
        let l = told_of e.0 w.0 w.1 in
        let spot : l.leaf.spot ≡ r.1 = one_item spots e.0 l.leaf.spot r.1 l.leaf.at e.2 in
        let here : Here r.1 l.v = subst (λ (s : Spot). Here s l.v) spot l.here in
        let way : l.way ≡ e.1 = one_item ways e.0 l.way e.1 l.there e.3 in
        let there = r.3 in
        let it = one_item found r.1.place here.it there.it here.at there.at in
        record {
          place = e.0;
          it = w.0;
          there = w.1;
          replies = sym l.replies_same ∙ all_somes_same l.v.replies t.replies (sym here.said ∙ there.said);
          is = sym there.state ∙ ap (λ (x : Kept State). x.here.state) (sym it) ∙ here.state ∙ l.state_same;
          first = λ b. e.4 (before_named zeros r.0 e.1
              (subst (λ (o : List CallId). IsBefore o (named zeros e.1)) order_is (subst (λ (o : List CallId). IsBefore order o) (l.order ∙ ap (named zeros) way) b)));
        }

    pub are_wholes : AreWholes IsItself Effect scripts opening wholes
    are_wholes = record {
      each = λ k w at. ∣ gives_so k w at ∣₁;
      every = is_there;
      once = λ j k one other last at also same is so.
          let a = told_of j one at in
          let b = told_of k other also in
          let v : a.v ≡ b.v = same_telling a.v b.v (a.replies_same ∙ same ∙ sym b.replies_same) (a.state_same ∙ sym is ∙ so ∙ sym b.state_same) in
          let spot = one_spot Effect determined scripts opening found explored rows replies right apart sizes a.leaf.spot b.leaf.spot b.v (subst (λ (x : Telling State Reply). Here a.leaf.spot x) v a.here) b.here in
          layer.once j k a.leaf.spot a.leaf.at (b.leaf.at ∙ ap Some (sym spot));
      sorted = λ j k one other less at also.
          let a = told_of j one at in
          let b = told_of k other also in
          subst (λ (o : List CallId). IsBefore o other.order) (sym a.order) (subst (λ (o : List CallId). IsBefore (named zeros a.way) o) (sym b.order)
          (named_before zeros a.way b.way (layer.sorted j k a.way b.way less a.there b.there)));
    }
