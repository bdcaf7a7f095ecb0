-- The configuration that stands for it was found before, and what comes there comes so.
use Rattle.std.proofs.Common.{◌≡◌, sym, ap, refl, ◌∙◌, subst, ℕ, ◌+◌, ◌<◌, List, length, length-set, get_or, option_map, Bool, true, false, not, arith}
use Rattle.std.proofs.Math.Dec.{eqb}
use Rattle.std.proofs.lemmas.Bool.Decides.{Decides-eqb}
use Rattle.std.proofs.lemmas.Option.{MatchOption-at_some, slice_get-map}
use Rattle.std.proofs.lemmas.Result.{IfOk-weaker}
use Rattle.std.proofs.lemmas.Slice.Eq.{slice_eq-Decides}
use Rattle.std.specs.Cmp.Lexicographic.{pointwise}
use Rattle.wf_history.proofs.Positions.{contains_at}
use Rattle.wf_order.specs.declared.seen.Found.{Found}
use Rattle.wf_order.specs.Rows.{AreRows, call_at}
use Rattle.wf_order.specs.Rules.{AreSo}
use Rattle.wf_order.specs.Search.{found_in, HasNoStep, IsAt, IsBeforePlace, IsNextStep}
use Rattle.wf_order.specs.Steps.{Configuration, IsLimit, IsStep, one_more}
use Rattle.wf_order.specs.Turns.{HasNone, IsNextOf}
use Rattle.wf_order.proofs.Keeping.{found_alike, found_eq, found_once}
use Rattle.wf_order.proofs.Stepping.{some_at}
use Rattle.wf_order.proofs.standing.is_stood_for.Goals as goal

are_equal : (xs ys : List ℕ) (b : Bool) → b ≡ not (pointwise eqb xs ys) → b ≡ false → xs ≡ ys
are_equal xs ys b is differs = (slice_eq-Decides {E = eqb} Decides-eqb xs ys (pointwise eqb xs ys) refl).0 (negated (pointwise eqb xs ys) (sym is ∙ differs))
  where
    negated : (p : Bool) → not p ≡ false → p ≡ true
    negated true e = refl
    negated false e = absurd (cc)

pub step_by-requires-clause-worded : goal.step_by-requires-clause-worded
step_by-requires-clause-worded g c =
    let keys = c.args.seen.now.keys in
    let stands = some_at (λ f. IsBeforePlace keys c.args.way.now.place f.now) _ c.in-Some-found_before.first c.in-Some-found_before.is c.found_before.ensures.found in
    subst (λ (f : Found g.row.O-State.Denot). f.words.items ≡ g.O.Object.words_of (g.O.Object.meaning f.state)) (sym c.here_at-before.ensures.0)
    (c.requires.all_worded c.in-Some-found_before.first.now (contains_at keys stands.0 c.in-Some-found_before.first.now stands.1))

pub returns-clause-stands : goal.returns-clause-stands
returns-clause-stands g c = λ history from are bound at_from.
    let view = found_in g.O.Object.meaning in
    let effect = g.O.Object.effect c.args.task.now.object.now in
    let rows = c.args.task.now.rows.now in
    let keys = c.args.seen.now.keys in
    let there = c.args.there.now in
    let kept = c.found_before.new.there in
    let same = c.found_before.ensures.same in
    let place = c.args.way.now.place in
    let first = c.in-Some-found_before.first.now in
    let next = c.in-Some-next_of.next in
    let after = g.O.Object.meaning c.in-Some-2.state in
    let last = c.in_ok-_id.last in
    let stands = some_at (λ f. IsBeforePlace keys place f.now) _ c.in-Some-found_before.first c.in-Some-found_before.is c.found_before.ensures.found in
    let own_counts : last.counts.items ≡ kept.counts.items = sym c.as_slice.ensures ∙ are_equal c.as_slice.result.now c.as_slice-2.result.now c.ne.result c.ne.ensures c.if-ne.false ∙ c.as_slice-2.ensures in
    let counts = own_counts ∙ ap (λ (x : Configuration g.O.Object.Meaning). x.counts) same in
    let led : view last ≡ one_more first.counts.items c.in-Some.process after = c.in_ok-_id.ensures.found in
    let size : length first.counts.items ≡ length there.counts.items =
    sym (length-set first.counts.items c.in-Some.process (get_or first.counts.items c.in-Some.process 0 + 1)) ∙ sym (ap (λ (x : Configuration g.O.Object.Meaning). length x.counts) led) ∙ ap length counts in
    let own_rows = subst (λ (n : ℕ). AreRows history n rows) (sym size) are in
    let own_limit : IsLimit history first.counts.items c.limit_of.result =
    subst (λ (xs : List ℕ). IsLimit history xs c.limit_of.result) c.deref-2.ensures (c.limit_of.ensures history (subst (λ (xs : List ℕ). AreRows history (length xs) rows) (sym c.deref-2.ensures) own_rows)) in
    let before = c.here_at-before.result in
    let at_before : IsAt history rows before = (
      subst (λ (f : Found g.row.O-State.Denot). AreRows history (length f.counts.items) rows) (sym c.here_at-before.ensures.0) own_rows,
      subst (λ (n : ℕ). IsLimit history before.found.now.counts.items n) (sym c.here_at-before.ensures.1) (subst (λ (f : Found g.row.O-State.Denot). IsLimit history f.counts.items c.limit_of.result) (sym c.here_at-before.ensures.0) own_limit),
    ) in
    let stepped = MatchOption-at_some (HasNoStep effect history (view before.found.now) next.process) (λ s. IsNextStep effect history (view before.found.now) next.process (g.O.Object.meaning s)) c.in-Some-2.state c.in-Some-2.is
    (c.in_ok-state.ensures.stepped history at_before) in
    let own = MatchOption-at_some (HasNone rows c.deref.result.now c.in-Some.process) (λ n. (n.process ≡ c.in-Some.process) × IsNextOf rows c.deref.result.now n) next c.in-Some-next_of.is c.next_of.ensures in
    let only = subst (λ (p : ℕ). IsNextStep effect history (view first) p after) own.0 (subst (λ (f : Found g.row.O-State.Denot). IsNextStep effect history (view f) next.process after) c.here_at-before.ensures.0 stepped) in
    let here = c.here_at.result in
    let at_here : IsAt history rows here = (
      subst (λ (f : Found g.row.O-State.Denot). AreRows history (length f.counts.items) rows) (sym c.here_at.ensures.0) (subst (λ (x : Configuration g.O.Object.Meaning). AreRows history (length x.counts) rows) (sym same) are),
      subst (λ (n : ℕ). IsLimit history here.found.now.counts.items n) (sym c.here_at.ensures.1) (subst (λ (f : Found g.row.O-State.Denot). IsLimit history f.counts.items c.args.way.now.limit) (sym c.here_at.ensures.0) (subst (λ (x : Configuration g.O.Object.Meaning). IsLimit history x.counts c.args.way.now.limit) (sym same) bound)),
    ) in
    IfOk-weaker c.are_all_so.result _ _
    (λ so h t. record {
      first = view first;
      stands = record {
        place = stands.0;
        at = slice_get-map view keys stands.0 ∙ ap (option_map view) stands.1;
        before = λ k at.
            let once = found_once g.O.Object.meaning g.O.Object.words_of (λ a b. g.met.O.Object.told_apart a b) found_eq found_alike keys c.requires.all_worded c.len.ensures.unique k place from at at_from in
            let lt = stands.2 in
            omega (arith, once, lt);
      };
      id = call_at c.in-Some.process (get_or first.counts.items c.in-Some.process 0);
      last = view last;
      step = subst (λ (x : Configuration g.O.Object.Meaning). IsStep effect history (view first) (call_at c.in-Some.process (get_or first.counts.items c.in-Some.process 0)) x) (sym led) only.step;
      counts = counts;
      so = λ id call may.
          subst (λ (x : Configuration g.O.Object.Meaning). (p : ℕ) → p < length x.counts → AreSo effect history x (g.O.Object.meaning last.state) p) (ap view c.here_at.ensures.0 ∙ same) (h t) id.process may.process id call refl may;
    })
    (c.are_all_so.ensures.so history at_here)
