-- One configuration more, behind the last one.
use Rattle.std.proofs.Common.{◌≡◌, ◌∷◌, ◌++◌, ◌+◌, ◌-◌, ◌∙◌, [], ℕ, suc, List, Option, None, Some, refl, sym, ap, subst, map, option_map, take, length, arith}
use Rattle.std.proofs.lemmas.List.{length-map, take_all}
use Rattle.std.proofs.lemmas.Option.{same_Some, slice_get-map}
use Rattle.std.specs.List.{slice_get}
use Rattle.wf_history.proofs.Positions.{contains_at, take_next}
use Rattle.wf_order.specs.Fronts.{AreSized, IsFarthest, IsWithin}
use Rattle.wf_order.specs.Rows.{AreRows}
use Rattle.wf_order.specs.Steps.{IsLimit}
use Rattle.wf_order.proofs.Fronts.{farther_new, farther_old, farthest_again, farthest_one, farthest_start, kept_counts}
use Rattle.wf_lookup.proofs.Items.{item_here}
use Rattle.wf_lookup.proofs.Turns.{slice_get_some}
use Rattle.wf_order.proofs.front.farthest_of.Goals.{then-limit-farthest, else-limit-farthest}
use Rattle.wf_order.proofs.front.farthest_of.Goals as goal

nothing_last : {A : Type 0} (xs : List A) → slice_get xs (length xs - 1) ≡ None → xs ≡ []
nothing_last [] e = refl
nothing_last (x ∷ xs) e =
    let last = slice_get_some (x ∷ xs) (length (x ∷ xs) - 1) (omega arith) in
    let there : ◌≡◌ {A = Option _} None (Some last.0) = sym e ∙ last.1 in
    absurd (cc)

pub returns-in_default : goal.returns-in_default
returns-in_default g c = λ history processes are sizes.
    let nothing = sym c.as_slice-all.ensures.keys ∙ nothing_last c.as_slice-all.result.now (sym c.in_default.ensures.value) in
    subst (λ (l : List (List ℕ)). IsFarthest history l 0) (sym (ap (map kept_counts) nothing)) (farthest_start history)

pub loop-found-init : goal.loop-found-init
loop-found-init g c = λ history processes last are sizes at.
    let all = map kept_counts c.as_slice-all.result.now in
    let k = length c.as_slice-all.result.now - 1 in
    let here : slice_get all k ≡ Some (kept_counts c.in-Some.last.now) = slice_get-map kept_counts c.as_slice-all.result.now k ∙ ap (option_map kept_counts) (sym c.in-Some.ensures.value) in
    let same : c.deref.result.now ≡ last = c.deref.ensures ∙ same_Some (kept_counts c.in-Some.last.now) last (sym here ∙ at) in
    let size = sizes last (contains_at all k last at) in
    farthest_one history last c.limit_of-farthest.result
    (subst (λ (xs : List ℕ). IsLimit history xs c.limit_of-farthest.result) same
    (c.limit_of-farthest.ensures history (subst (λ (xs : List ℕ). AreRows history (length xs) c.args.rows.now) (sym same) (subst (λ (n : ℕ). AreRows history n c.args.rows.now) (sym size) are))))

pub loop-found-preserved-then-not-goes_farther : goal.loop-found-preserved-then-not-goes_farther
loop-found-preserved-then-not-goes_farther g c = λ history processes last are sizes at.
    let i = c.loop-found.found-index in
    let all = map kept_counts c.as_slice-all.result.now in
    let counts = kept_counts c.found-item.result in
    let one_more : i + 1 ≡ suc i = omega arith in
    let here : slice_get all i ≡ Some counts = item_here kept_counts c.as_slice-all.result.now i c.found-item.result c.loop-found-test.true c.found-item.is in
    let next : take (i + 1) all ≡ take i all ++ counts ∷ [] = ap (λ (n : ℕ). take n all) one_more ∙ take_next all i counts here in
    let size = sizes counts (contains_at all i counts here) in
    let f = c.if-not-goes_farther.true in
    let is_within : IsWithin history counts c.loop-found.farthest =
    subst (λ (xs : List ℕ). IsWithin history xs c.loop-found.farthest) c.deref-in-loop-found.ensures
    (c.goes_farther.ensures (λ yes. absurd (cc)) history (subst (λ (xs : List ℕ). AreRows history (length xs) c.args.rows.now) (sym c.deref-in-loop-found.ensures) (subst (λ (n : ℕ). AreRows history n c.args.rows.now) (sym size) are))) in
    subst (λ (l : List (List ℕ)). IsFarthest history (last ∷ l) c.loop-found.farthest) (sym next)
    (farther_old history (last ∷ take i all) counts c.loop-found.farthest is_within.limit is_within.within (c.loop-found.invariant history processes last are sizes at) is_within.is)

pub loop-found-preserved : goal.loop-found-preserved
loop-found-preserved g c = λ history processes last are sizes at.
    let i = c.loop-found.found-index in
    let all = map kept_counts c.as_slice-all.result.now in
    let counts = kept_counts c.found-item.result in
    let one_more : i + 1 ≡ suc i = omega arith in
    let here : slice_get all i ≡ Some counts = item_here kept_counts c.as_slice-all.result.now i c.found-item.result c.loop-found-test.true c.found-item.is in
    let next : take (i + 1) all ≡ take i all ++ counts ∷ [] = ap (λ (n : ℕ). take n all) one_more ∙ take_next all i counts here in
    let size = sizes counts (contains_at all i counts here) in
    let limit : IsLimit history counts c.limit_of-limit.result =
    subst (λ (xs : List ℕ). IsLimit history xs c.limit_of-limit.result) c.deref-in-loop-found-2.ensures
    (c.limit_of-limit.ensures history (subst (λ (xs : List ℕ). AreRows history (length xs) c.args.rows.now) (sym c.deref-in-loop-found-2.ensures) (subst (λ (n : ℕ). AreRows history n c.args.rows.now) (sym size) are))) in
    let before = c.loop-found.invariant history processes last are sizes at in
    subst (λ (l : List (List ℕ)). IsFarthest history (last ∷ l) c.if-limit-farthest.farthest) (sym next)
    (elim c.if-limit-farthest.branch [
      | then-limit-farthest w ↦
          let lt = w.if-limit-farthest.true in
          subst (λ (n : ℕ). IsFarthest history (last ∷ take i all ++ counts ∷ []) n) (sym w.farthest-is)
          (farther_new history (last ∷ take i all) counts c.loop-found.farthest c.limit_of-limit.result (omega (arith, lt)) before limit)
      | else-limit-farthest w ↦
          let ge = w.if-limit-farthest.false in
          subst (λ (n : ℕ). IsFarthest history (last ∷ take i all ++ counts ∷ []) n) (sym w.farthest-is)
          (farther_old history (last ∷ take i all) counts c.loop-found.farthest c.limit_of-limit.result (omega (arith, ge)) before limit)
    ])

pub returns : goal.returns
returns g c = λ history processes are sizes.
    let keys = c.as_slice-all.ensures.keys in
    let all = map kept_counts c.as_slice-all.result.now in
    let last = c.in-Some.last.now in
    let k = length c.as_slice-all.result.now - 1 in
    let here : slice_get all k ≡ Some (kept_counts last) = slice_get-map kept_counts c.as_slice-all.result.now k ∙ ap (option_map kept_counts) (sym c.in-Some.ensures.value) in
    let size = length-map c.as_slice-all.result.now kept_counts in
    let past = c.loop-found-test.false in
    let same : take c.loop-found.found-index all ≡ all = take_all c.loop-found.found-index all (omega (arith, size, past)) in
    let of : all ≡ map kept_counts c.args.seen.now.keys = ap (map kept_counts) keys in
    subst (λ (l : List (List ℕ)). IsFarthest history l c.loop-found.farthest) of
    (farthest_again history all (kept_counts last) c.loop-found.farthest (contains_at all k (kept_counts last) here)
    (subst (λ (l : List (List ℕ)). IsFarthest history (kept_counts last ∷ l) c.loop-found.farthest) same
    (c.loop-found.invariant history processes (kept_counts last) are (subst (λ (l : List (List ℕ)). AreSized processes l) (sym of) sizes) here)))
