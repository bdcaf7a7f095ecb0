-- One step back, in the layer where the way stands.
use Rattle.std.proofs.Common.{◌≡◌, refl, sym, ap, ◌∙◌, ◌+◌, ◌-◌, ◌<◌, ◌++◌, ℕ, List, [], None, Some, Vec, get_or, length, reverse, arith}
use Rattle.std.proofs.lemmas.Option.{slice_get_read}
use Rattle.std.specs.List.{slice_get}
use Rattle.wf_whole_outcomes.specs.Nodes.{trail_in}
use Rattle.wf_whole_outcomes.specs.declared.growing.Came.{Came}
use Rattle.wf_whole_outcomes.proofs.Backing.{back_on, no_steps, none_back, ways_to}
use Rattle.wf_whole_outcomes.proofs.Listing.{in_map}
use Rattle.wf_whole_outcomes.proofs.ways.way_back.Goals as goal

-- the layer before
last_of : {A : Type 0} (trail : List (Vec Came A)) (before : ℕ) (came : Vec Came A) → before < length trail → came ≡ get_or trail before came → slice_get (trail_in trail) before ≡ Some came.items
last_of {A} trail before came within is = in_map (λ (v : Vec Came A). v.items) trail before came (slice_get_read trail (length trail) before came refl within is)

pub loop-depth-preserved : goal.loop-depth-preserved
loop-depth-preserved c =
    let test = c.loop-depth-test.true in
    let deep = c.loop-depth.invariant.deep in
    let trail = trail_in c.args.trail.now in
    let before = c.loop-depth.depth - 1 in
    let came = c.index-trail-depth.result.items in
    let one : c.loop-depth.depth ≡ before + 1 = omega arith in
    let last = last_of c.args.trail.now before c.index-trail-depth.result (omega arith) c.index-trail-depth.is in
    let there : slice_get came c.loop-depth.at ≡ Some c.in-Some.came = ap (λ (l : List Came). slice_get l c.loop-depth.at) (sym c.deref.ensures.value) ∙ sym c.came_at.ensures ∙ c.in-Some.is in
    record {
      deep = omega arith;
      back =
          c.loop-depth.invariant.back ∙ back_on trail c.loop-depth.depth before one came last c.loop-depth.at c.in-Some.came there c.loop-depth.way.items
          ∙ ap (λ (w : List ℕ). get_or (ways_to before trail) c.in-Some.came.from [] ++ reverse w) (sym c.in_ok-push.ensures.items);
    }

-- no way leads there
pub returns-in_default : goal.returns-in_default
returns-in_default c =
    let test = c.loop-depth-test.true in
    let deep = c.loop-depth.invariant.deep in
    let trail = trail_in c.args.trail.now in
    let before = c.loop-depth.depth - 1 in
    let came = c.index-trail-depth.result.items in
    let one : c.loop-depth.depth ≡ before + 1 = omega arith in
    let last = last_of c.args.trail.now before c.index-trail-depth.result (omega arith) c.index-trail-depth.is in
    let none : slice_get came c.loop-depth.at ≡ None = ap (λ (l : List Came). slice_get l c.loop-depth.at) (sym c.deref.ensures.value) ∙ sym c.came_at.ensures ∙ c.in_default.is in
    sym (c.loop-depth.invariant.back ∙ ap (λ (w : List ℕ). w ++ reverse c.loop-depth.way.items) (none_back trail c.loop-depth.depth before one came last c.loop-depth.at none))

pub returns : goal.returns
returns c =
    let trail = trail_in c.args.trail.now in
    let end : c.loop-depth.depth ≡ 0 = omega (arith, c.loop-depth-test.false) in
    sym (c.loop-depth.invariant.back ∙ ap (λ (d : ℕ). get_or (ways_to d trail) c.loop-depth.at [] ++ reverse c.loop-depth.way.items) end
    ∙ ap (λ (w : List ℕ). w ++ reverse c.loop-depth.way.items) (no_steps c.loop-depth.at))
