-- Where no body takes more steps than a limit, a call takes no more than that limit for each body.
use Rattle.std.proofs.Common.{◌≡◌, ℕ, ◌*◌, ◌<◌, ◌≤◌, Bool, true, false, List, [], ◌∷◌, length, get_or, refl, ap, arith}
use Rattle.std.specs.Prelude.{sum}
use Rattle.std.proofs.Math.Nat.{mul-le-mul_left}
use Rattle.std.proofs.lemmas.List.Sums.{sum_by-cons}
use Rattle.wf_table.specs.declared.process.Label.{Label}
use Rattle.wf_table.specs.declared.process.Label.TheVariants.{Next, Enter, Body}
use Rattle.wf_table.specs.declared.process.Sizes.{Sizes}
use Rattle.wf_table.specs.Meaning.{Meaning}
use Rattle.wf_table.specs.StepTable.{Process}
use Rattle.wf_table.specs.Object.{State}
use Rattle.wf_table.specs.Runs.{Act}
use Rattle.wf_table.specs.Each.{Each}
use Rattle.wf_table.specs.Spent.{has_more, body_steps_after}
use Rattle.wf_table.specs.Labels.{at_body}
use Rattle.wf_table.specs.Counted.{Counts, Counted, EachCounts, uncounted, counts_after, counts_of, counted_from, counted_act, counted_run}
use Rattle.wf_table.specs.Bound.{IsWithinBound, AllWithinBound}
use Rattle.wf_table.specs.Limit.{SumsBodies, AllSumBodies, IsBelow, StaysBelow, IsWithinLimit, AllWithinLimit}
use Rattle.wf_table.proofs.EachCounts.{act_counts, start_counts}
use Rattle.wf_table.proofs.SumBodies.{keeps_sums}

-- no body has taken more steps
abbrev AreAtMost : ℕ → List ℕ → Type 0
AreAtMost limit [] = Unit {0}
AreAtMost limit (k ∷ ks) = (k ≤ limit) × AreAtMost limit ks

sum_at_most : (limit : ℕ) (steps : List ℕ) → AreAtMost limit steps → sum steps ≤ limit * length steps
sum_at_most limit [] h = omega arith
sum_at_most limit (k ∷ ks) h =
    let rest = sum_at_most limit ks h.1 in
    let first = h.0 in
    omega (arith, sum_by-cons (λ (x : ℕ). x) k ks, rest, first)

keeps_at_most : (limit : ℕ) (l : Label) (begins : Bool) (steps : List ℕ) → (at_body l ≡ true → get_or steps 0 0 < limit) → AreAtMost limit steps → AreAtMost limit (body_steps_after l begins steps)
keeps_at_most limit Next true steps below h = tt
keeps_at_most limit Next false steps below h = h
keeps_at_most limit Enter begins steps below h = (omega arith, h)
keeps_at_most limit Body begins [] below h = tt
keeps_at_most limit Body begins (k ∷ ks) below h = let less = below refl in (omega (arith, less), h.1)
keeps_at_most limit l begins steps below h = h

module _ {Run : Type 0} (m : Meaning Run) (z : Sizes) where
  abbrev Sums : Counts → Process Run → Type 0
  Sums x q = SumsBodies x.spent x.body_steps q

  abbrev AtMost : ℕ → Counts → Process Run → Type 0
  AtMost limit x q = AreAtMost limit x.body_steps

  act_sums : (s : Counted Run) (act : Act) → EachCounts Sums uncounted s.counts s.state.processes → EachCounts Sums uncounted (counted_act m z s act).counts (counted_act m z s act).state.processes
  act_sums s act h =
      act_counts m z counts_after uncounted Sums s.state s.counts act
      (λ p q at sums. keeps_sums z q.label m s.state.cell p q (counts_of s.counts p) sums)
      (λ x q calls sums. record { bodies = sums.bodies; inside = sums.inside; present = sums.present })
      h

  run_sums : (acts : List Act) (s : Counted Run) → EachCounts Sums uncounted s.counts s.state.processes → EachCounts Sums uncounted (counted_run m z acts s).counts (counted_run m z acts s).state.processes
  run_sums [] s h = h
  run_sums (act ∷ acts) s h = run_sums acts (counted_act m z s act) (act_sums s act h)

  act_at_most : (limit : ℕ) (s : Counted Run) (act : Act) → Each (λ p q. IsBelow limit (counts_of s.counts p).body_steps q) s.state.processes → EachCounts (AtMost limit) uncounted s.counts s.state.processes → EachCounts (AtMost limit) uncounted (counted_act m z s act).counts (counted_act m z s act).state.processes
  act_at_most limit s act below h =
      act_counts m z counts_after uncounted (AtMost limit) s.state s.counts act
      (λ p q at most. keeps_at_most limit q.label (has_more q) (counts_of s.counts p).body_steps (below p q at) most)
      (λ x q calls most. most)
      h

  run_at_most : (limit : ℕ) (acts : List Act) (s : Counted Run) → StaysBelow limit m z acts s → EachCounts (AtMost limit) uncounted s.counts s.state.processes → EachCounts (AtMost limit) uncounted (counted_run m z acts s).counts (counted_run m z acts s).state.processes
  run_at_most limit [] s below h = h
  run_at_most limit (act ∷ acts) s below h = run_at_most limit acts (counted_act m z s act) below.1 (act_at_most limit s act below.0 h)

  pub run_sum_bodies : (acts : List Act) (start : State Run) → Each (λ _ q. q.label ≡ Next) start.processes → AllSumBodies (counted_run m z acts (counted_from start))
  run_sum_bodies acts start idle =
      let first = start_counts m z counts_after uncounted Sums start (λ p q at. record { bodies = refl; inside = refl; present = λ e. let label = idle p q at in absurd (cc) }) in
      (run_sums acts (counted_from start) first).each

  within_limit : (limit : ℕ) (x : Counts) (q : Process Run) → IsWithinBound z x.spent q → Sums x q → AtMost limit x q → IsWithinLimit z limit x.spent
  within_limit limit x q within sums most =
      let inside : x.spent.inside ≤ limit * x.spent.bodies = omega (arith, sums.inside, sum_at_most limit x.body_steps most, ap (λ (k : ℕ). limit * k) sums.bodies) in
      record {
        inside = inside;
        total = omega (arith, inside, within.promised, mul-le-mul_left limit within.bodies);
      }

  pub run_limited : (limit : ℕ) (acts : List Act) (start : State Run) → Each (λ _ q. q.label ≡ Next) start.processes → StaysBelow limit m z acts (counted_from start) → AllWithinBound z (counted_run m z acts (counted_from start)) → AllWithinLimit z limit (counted_run m z acts (counted_from start))
  run_limited limit acts start idle below within p q at =
      let end = counted_run m z acts (counted_from start) in
      let first = start_counts m z counts_after uncounted (AtMost limit) start (λ k o e. tt) in
      let most = run_at_most limit acts (counted_from start) below first in
      within_limit limit (counts_of end.counts p) q (within p q at) (run_sum_bodies acts start idle p q at) (most.each p q at)
