-- By the graph of what was found, and the last layer of the search over it.
use Rattle.std.proofs.Common.{◌≡◌, ◌∷◌, [], ap, subst, sym, ℕ, List, Err, Global, Option, Vec, get_or, length, map}
use Rattle.std.proofs.Math.Bridge.{le_prop}
use Rattle.std.proofs.Math.Logic.{∥∥₁_elim, ∥∥₁_map, ∥∥₁_prop}
use Rattle.std.proofs.lemmas.List.{length-map}
use Rattle.std.proofs.lemmas.Option.{slice_get-get_or}
use Rattle.std.proofs.lemmas.Result.{err_from_is_err_and}
use Rattle.wf_history.specs.View.{kept_call, kept_reply}
use Rattle.wf_whole_outcomes.specs.Graph.{next_from, rows_in}
use Rattle.wf_whole_outcomes.specs.Layers.{HasOver, IsLayer, ways_of}
use Rattle.wf_whole_outcomes.specs.Nodes.{IsFront, first_spot, lists_in, spot_in, spots_in, trail_in}
use Rattle.wf_whole_outcomes.specs.declared.edges.Edge.{Edge}
use Rattle.wf_whole_outcomes.specs.declared.layers.Front.{Front}
use Rattle.wf_outcomes.specs.Explored.{all_kept, calls_in}
use Rattle.wf_outcomes.specs.declared.exploring.ExploreFault.{ExploreFault}
use Rattle.wf_outcomes.specs.declared.exploring.ExploreFault.TheVariants.{TooMany}
use Rattle.wf_outcomes.proofs.Leading.{sizes}
use Rattle.wf_whole_outcomes.specs.View.{seen_in, wholes_from}
use Rattle.wf_whole_outcomes.specs.Wholes.{AreWholes}
use Rattle.wf_outcomes.specs.OutcomeOrders.{IsItself}
use Rattle.wf_whole_outcomes.proofs.Ending.{are_wholes, more_told, tellable}
use Rattle.wf_whole_outcomes.proofs.Listing.{in_map}
use Rattle.wf_whole_outcomes.proofs.Reading.{leaves_are}
use Rattle.wf_whole_outcomes.proofs.wholes.wholes_told.Goals as goal

-- what is said of a graph and a number of processes is said of the same graph and number
same_of : {A : Type 0} (P : List A → ℕ → Type 0) (one other : List A) (m n : ℕ) → one ≡ other → m ≡ n → P one m → P other n
same_of P one other m n same is h = subst (λ l. P l n) same (subst (P one) is h)

-- the layer of a front
layer_of : (rows : List (List (Option Edge))) (processes : ℕ) (front : Front) → IsFront rows processes front →
    IsLayer (next_from rows) (first_spot processes) (length front.trail.items) (ways_of ([] ∷ []) (trail_in front.trail.items)) (spots_in (lists_in front.lists) front.layer.keys)
layer_of rows processes front h = h.layer

pub returns-in_err-front-clause-most : goal.returns-in_err-front-clause-most
returns-in_err-front-clause-most g c =
    let explored = c.args.explored.now in
    let object = explored.object.now in
    let effect = g.O.Object.effect object in
    let scripts = calls_in explored.scripts.now in
    let opening = g.O.Object.opening object in
    let found = all_kept g.O.Object.meaning explored.seen in
    let graph = c.in_ok-graph.graph in
    let size = length-map explored.scripts.now (λ s. map kept_call s.items) in
    let p = err_from_is_err_and c.from_residual-in_err-front.result c.from_residual-in_err-front.ensures.1 in
    rw (p.1, p.2)
    (λ is.
    let many : c.in_err-front.field-0.0 ≡ TooMany = cc in
    let over = same_of (λ (l : List (Vec (Option Edge) Global)) (n : ℕ). HasOver (next_from (rows_in l)) (first_spot n) c.args.most) c.deref.result.now graph.rows.items (length explored.scripts.now) (length scripts)
    c.deref.ensures.value (sym size) (c.in_err-front.ensures.most (ap (λ (fault : ExploreFault). Err fault) many)) in
    ∥∥₁_elim explored.explored ∥∥₁_prop (λ h. ∥∥₁_map c.in_ok-graph.ensures.rows (λ right.
    more_told effect (λ call before after other reply answer. g.met.O.Object.determined object call before after other reply answer) scripts opening found h (rows_in graph.rows.items) (map kept_reply graph.replies.items)
    right c.in_ok-graph.ensures.apart (sizes effect scripts opening found h) c.args.most over)))

pub states_told-requires : goal.states_told-requires
states_told-requires g c = λ k d less.
    let explored = c.args.explored.now in
    let object = explored.object.now in
    let effect = g.O.Object.effect object in
    let scripts = calls_in explored.scripts.now in
    let opening = g.O.Object.opening object in
    let found = all_kept g.O.Object.meaning explored.seen in
    let graph = c.in_ok-graph.graph in
    let front = c.in_ok-front.front in
    let lists = lists_in front.lists in
    let spots = spots_in lists front.layer.keys in
    let size = length-map explored.scripts.now (λ s. map kept_call s.items) in
    let is_front = same_of (λ (l : List (Vec (Option Edge) Global)) (n : ℕ). IsFront (rows_in l) n front) c.deref.result.now graph.rows.items (length explored.scripts.now) (length scripts) c.deref.ensures.value (sym size)
    c.in_ok-front.ensures.front in
    let layer = layer_of (rows_in graph.rows.items) (length scripts) front is_front in
    let node = get_or front.layer.keys k d in
    let at = in_map (spot_in lists) front.layer.keys k node (slice_get-get_or front.layer.keys k d less) in
    ∥∥₁_elim explored.explored le_prop (λ h. ∥∥₁_elim c.in_ok-graph.ensures.rows le_prop (λ right.
    (tellable effect (λ call before after other reply answer. g.met.O.Object.determined object call before after other reply answer) scripts opening found h (rows_in graph.rows.items)
    (map kept_reply graph.replies.items) right c.in_ok-graph.ensures.apart (sizes effect scripts opening found h) (length front.trail.items) (ways_of ([] ∷ []) (trail_in front.trail.items)) spots layer k (spot_in lists node) at).place))

pub returns-clause-wholes : goal.returns-clause-wholes
returns-clause-wholes g c =
    let explored = c.args.explored.now in
    let object = explored.object.now in
    let effect = g.O.Object.effect object in
    let scripts = calls_in explored.scripts.now in
    let opening = g.O.Object.opening object in
    let found = all_kept g.O.Object.meaning explored.seen in
    let graph = c.in_ok-graph.graph in
    let replies = map kept_reply graph.replies.items in
    let front = c.in_ok-front.front in
    let ways = ways_of ([] ∷ []) (trail_in front.trail.items) in
    let spots = spots_in (lists_in front.lists) front.layer.keys in
    let states = map (seen_in g.O.Object.meaning) c.in_ok-states.states.items in
    let size = length-map explored.scripts.now (λ s. map kept_call s.items) in
    let is_front = same_of (λ (l : List (Vec (Option Edge) Global)) (n : ℕ). IsFront (rows_in l) n front) c.deref.result.now graph.rows.items (length explored.scripts.now) (length scripts) c.deref.ensures.value (sym size)
    c.in_ok-front.ensures.front in
    let layer = subst (λ (n : ℕ). IsLayer (next_from (rows_in graph.rows.items)) (first_spot (length scripts)) n ways spots) c.in_ok-front.ensures.size (layer_of (rows_in graph.rows.items) (length scripts) front is_front) in
    ∥∥₁_elim explored.explored ∥∥₁_prop (λ h. ∥∥₁_map c.in_ok-graph.ensures.rows (λ right.
    let leaves = leaves_are replies (length scripts) front found states c.in_ok-states.ensures
    (tellable effect (λ call before after other reply answer. g.met.O.Object.determined object call before after other reply answer) scripts opening found h (rows_in graph.rows.items) replies right c.in_ok-graph.ensures.apart (sizes effect scripts opening found h) c.in_ok-calls.calls ways spots layer) in
    subst (λ (n : ℕ). AreWholes IsItself effect scripts opening (wholes_from replies n front 0 states)) size
    (are_wholes effect (λ call before after other reply answer. g.met.O.Object.determined object call before after other reply answer) scripts opening found h (rows_in graph.rows.items) replies right c.in_ok-graph.ensures.apart
    (sizes effect scripts opening found h) c.in_ok-calls.calls c.in_ok-calls.ensures ways spots layer (wholes_from replies (length scripts) front 0 states) leaves)))
