-- One configuration more.
use Rattle.std.proofs.Common.{◌≡◌, ◌∷◌, ◌++◌, ◌+◌, ◌∙◌, [], ℕ, suc, List, Some, refl, sym, ap, subst, map, take, length, Vec, Global, arith}
use Rattle.std.proofs.lemmas.List.{length-map, length-take-le, take_all}
use Rattle.std.proofs.lemmas.Option.{slice_get_within}
use Rattle.std.specs.List.{slice_get}
use Rattle.wf_history.proofs.Positions.{contains_at, take_next}
use Rattle.wf_order.specs.declared.search.Frame.{Frame}
use Rattle.wf_order.specs.Fronts.{AreFramed, AreSized, EndsBefore}
use Rattle.wf_order.specs.Rows.{AreRows}
use Rattle.wf_order.specs.Steps.{IsLimit}
use Rattle.wf_order.proofs.Fronts.{framed_none, framed_one, framed_start, kept_counts}
use Rattle.wf_lookup.proofs.Items.{item_here}
use Rattle.wf_order.proofs.front.frames_behind.Goals.{then-goes_behind+in_ok-push, else-goes_behind}
use Rattle.wf_order.proofs.front.frames_behind.Goals as goal

pub loop-at-init : goal.loop-at-init
loop-at-init g c = λ history processes are sizes.
    subst (λ (l : List Frame). AreFramed history c.args.rows.now [] c.args.place l) (sym c.new-frames.ensures.items) (framed_start history c.args.rows.now c.args.place)

pub loop-at-preserved : goal.loop-at-preserved
loop-at-preserved g c = λ history processes are sizes.
    let i = c.loop-at.at in
    let place = c.args.place in
    let rows = c.args.rows.now in
    let all = map kept_counts c.as_slice-all.result.now in
    let counts = kept_counts c.index-all-at.result in
    let one_more : i + 1 ≡ suc i = omega arith in
    let here : slice_get all i ≡ Some counts = item_here kept_counts c.as_slice-all.result.now i c.index-all-at.result c.loop-at-test.true c.index-all-at.is in
    let next : take (i + 1) all ≡ take i all ++ counts ∷ [] = ap (λ (n : ℕ). take n all) one_more ∙ take_next all i counts here in
    let inside = slice_get_within all i counts here in
    let length_is : i ≡ length (take i all) = sym (length-take-le i all (omega (arith, inside))) in
    let size = sizes counts (contains_at all i counts here) in
    let before = c.loop-at.invariant history processes are sizes in
    subst (λ (l : List (List ℕ)). AreFramed history rows l place c.if-goes_behind.frames.items) (sym next)
    (elim c.if-goes_behind.branch [
      | then-goes_behind+in_ok-push w ↦
          let frame : Frame = record { place = i; next = 0; id = w.default.result; limit = w.limit_of.result } in
          let limit : IsLimit history counts w.limit_of.result =
          subst (λ (xs : List ℕ). IsLimit history xs w.limit_of.result) w.deref-then-goes_behind.ensures
          (w.limit_of.ensures history (subst (λ (xs : List ℕ). AreRows history (length xs) rows) (sym w.deref-then-goes_behind.ensures) (subst (λ (n : ℕ). AreRows history n rows) (sym size) are))) in
          subst (λ (fs : List Frame). AreFramed history rows (take i all ++ counts ∷ []) place fs) (sym (ap (λ (v : Vec Frame Global). v.items) w.frames-is ∙ w.in_ok-push.ensures.items))
          (framed_one history rows place (take i all) counts c.loop-at.frames.items frame length_is refl limit before)
      | else-goes_behind w ↦
          let no = w.if-goes_behind.false in
          let early : EndsBefore rows counts place = subst (λ (xs : List ℕ). EndsBefore rows xs place) c.deref.ensures (c.goes_behind.ensures (λ yes. absurd (cc))) in
          subst (λ (fs : List Frame). AreFramed history rows (take i all ++ counts ∷ []) place fs) (sym (ap (λ (v : Vec Frame Global). v.items) w.frames-is))
          (framed_none history rows place (take i all) counts c.loop-at.frames.items early before)
    ])

pub returns : goal.returns
returns g c = λ history processes are sizes.
    let keys = c.as_slice-all.ensures.keys in
    let all = map kept_counts c.as_slice-all.result.now in
    let size = length-map c.as_slice-all.result.now kept_counts in
    let past = c.loop-at-test.false in
    let same : take c.loop-at.at all ≡ all = take_all c.loop-at.at all (omega (arith, size, past)) in
    let of : all ≡ map kept_counts c.args.seen.now.keys = ap (map kept_counts) keys in
    subst (λ (l : List (List ℕ)). AreFramed history c.args.rows.now l c.args.place c.loop-at.frames.items) (same ∙ of)
    (c.loop-at.invariant history processes are (subst (λ (l : List (List ℕ)). AreSized processes l) (sym of) sizes))
