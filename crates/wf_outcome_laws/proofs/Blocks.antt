-- A process that makes its next call alone comes to its end: within the most own steps that a call takes.
use Rattle.std.proofs.Common.{◌≡◌, ◌≢◌, ℕ, zero, suc, ◌+◌, ◌*◌, ◌<◌, ◌≤◌, true, List, ◌⊎◌, ◌++◌, replicate, refl, sym, ap, ◌∙◌, arith, subst, inl, inr}
use Rattle.std.specs.Prelude.{ℤ, Some, slice_get}
use Rattle.std.proofs.lemmas.Bool.{cases_eq}
use Rattle.ob_interface.specs.Call.{ObjectCall}
use Rattle.wf_table.specs.declared.process.Label.{Label}
use Rattle.wf_table.specs.declared.process.Label.TheVariants.{Next, Give}
use Rattle.wf_table.specs.Law.{Effects}
use Rattle.wf_table.specs.Meaning.{Meaning}
use Rattle.wf_table.specs.Object.{State, script_of}
use Rattle.wf_table.specs.Runs.{Act, IsRun, run, turns}
use Rattle.wf_table.specs.Start.{sizes_of}
use Rattle.wf_table.specs.StepTable.{Process}
use Rattle.wf_table.specs.Bound.{bound}
use Rattle.wf_table.specs.Calls.{BeginsOne, own_spent}
use Rattle.wf_table.specs.Ends.{AllEndWithin}
use Rattle.wf_table.specs.Spent.{has_more}
use Rattle.wf_object.specs.InARow.{after_steps}
use Rattle.wf_theorems.specs.Limits.{EveryRunStaysBelow, OwnStepsAreLimited}
use Rattle.wf_outcome_laws.proofs.Opened.{Opened, Closed, opens, stays_open, closes}
use Rattle.wf_outcome_laws.proofs.Spending.{SpendsOne, all_of, all_spent, next_spends, open_spends, run_more, steps_run, steps_script}

pub give_or_not : (l : Label) → (l ≡ Give) ⊎ (l ≢ Give)
give_or_not Give = inl refl
give_or_not l = inr (λ e. cc)

module _ {Run : Type 0} (m : Meaning Run) (lawful : List ℤ → Type 0) (fits : ObjectCall → Type 0) (ready : Run → Type 0) (Effect : Effects) (n limit : ℕ) (opening : List ℤ) (acts : List Act) (s : State Run) (p : ℕ) (first : Process Run) where
  -- the process has taken so many steps, and no other process one
  abbrev pub after : ℕ → State Run
  after k = after_steps m (sizes_of m n) p k s

  -- its call is open, and its next step doesn't end it
  abbrev pub Passed : ℕ → Type 0
  Passed j = (o : Opened m (sizes_of m n) p s first (after j)) × (o.process.label ≢ Give)

  -- its call is open behind each of these steps, and the next one is the first that ends it
  pub record Reached (k : ℕ) : Type 0 where
    pub some : 0 < k
    pub before : (j : ℕ) → 0 < j → j < k → Passed j
    pub opened : Opened m (sizes_of m n) p s first (after k)
    pub gives : opened.process.label ≡ Give

  module _ (at : slice_get s.processes p ≡ Some first) (is : first.label ≡ Next) (more : has_more first ≡ true) where
    decide : (k : ℕ) → 0 < k → ((j : ℕ) → 0 < j → j < k → Passed j) → Opened m (sizes_of m n) p s first (after k) → ((j : ℕ) → 0 < j → j < suc k → Passed j) ⊎ Reached k
    decide k some before o =
        elim (give_or_not o.process.label) [
          | inl gives ↦ inr (record { some = some; before = before; opened = o; gives = gives })
          | inr going ↦ inl (λ j lt less. elim (cases_eq j k) [
            | inl same ↦ subst Passed (sym same) (o, going)
            | inr apart ↦ before j lt (omega (arith, less, apart))
          ])
        ]

    next : (f : ℕ) → ((j : ℕ) → 0 < j → j < suc f → Passed j) → Opened m (sizes_of m n) p s first (after (suc f))
    next zero before = opens m (sizes_of m n) p s first at is more
    next (suc f) before = let o = before (suc f) (omega arith) (omega arith) in stays_open m (sizes_of m n) p s first (after (suc f)) o.0 o.1

    search : (f : ℕ) → ((j : ℕ) → 0 < j → j < suc f → Passed j) ⊎ ((k : ℕ) × Reached k)
    search zero = inl (λ j lt less. absurd (omega (arith, lt, less)))
    search (suc f) =
        elim (search f) [
          | inl before ↦ elim (decide (suc f) (omega arith) before (next f before)) [ inl longer ↦ inl longer | inr reached ↦ inr (suc f, reached) ]
          | inr found ↦ inr found
        ]

    module _ (limited : OwnStepsAreLimited m lawful fits ready) (below : EveryRunStaysBelow m lawful fits ready Effect) (r : IsRun m lawful fits ready n opening acts s) (all : AllEndWithin m Effect (script_of s) opening limit) where
      spends : (k : ℕ) → ((j : ℕ) → 0 < j → j < k → Opened m (sizes_of m n) p s first (after j)) → (j : ℕ) → j < k → SpendsOne m (sizes_of m n) p (after j)
      spends k opened zero less = next_spends m (sizes_of m n) s p first at is more
      spends k opened (suc j) less = let o = opened (suc j) (omega arith) less in open_spends m (sizes_of m n) (after (suc j)) p o.process o.at o.is_open

      few : (k : ℕ) → ((j : ℕ) → 0 < j → j < k → Opened m (sizes_of m n) p s first (after j)) → (last : Process Run) → slice_get (after k).processes p ≡ Some last → last.begun ≡ first.begun + 1 →
          k ≤ bound (sizes_of m n) + 2 * n * limit
      few k opened last stands one =
          let z = sizes_of m n in
          let steps = turns (replicate k p) in
          let longer = run_more m lawful fits ready n opening acts s p k r in
          let scripts : script_of s ≡ script_of (after k) = λ i x. sym (steps_script m z p k s x) i in
          let ends : AllEndWithin m Effect (script_of (after k)) opening limit = subst (λ (f : ℕ → List ObjectCall). AllEndWithin m Effect f opening limit) scripts all in
          let stays = below n limit opening (acts ++ steps) (after k) longer ends in
          let begins : BeginsOne m z p steps s last = record { before = first; stood = at; between = is; stands = ap (λ (t : State Run). slice_get t.processes p) (steps_run m z p k s) ∙ stands; one = one } in
          let there : BeginsOne m z p steps (run m z acts r.start) last = subst (λ (t : State Run). BeginsOne m z p steps t last) (sym r.leads) begins in
          let within = limited n limit opening acts steps (after k) p last longer stays there in
          let total = within.total in
          let spent : all_of (own_spent m z p steps (run m z acts r.start)) ≡ k = ap (λ (t : State Run). all_of (own_spent m z p steps t)) r.leads ∙ all_spent m z p k s (spends k opened) in
          omega (arith, total, spent)

      opened_all : (k : ℕ) → Reached k → (j : ℕ) → 0 < j → j < suc k → Opened m (sizes_of m n) p s first (after j)
      opened_all k reached j lt less = elim (cases_eq j k) [
        | inl same ↦ subst (λ (i : ℕ). Opened m (sizes_of m n) p s first (after i)) (sym same) reached.opened
        | inr apart ↦ (reached.before j lt (omega (arith, less, apart))).0
      ]

      pub comes_to_end : (k : ℕ) × Reached k × Closed m (sizes_of m n) p s first (after (suc k)) × (suc k ≤ bound (sizes_of m n) + 2 * n * limit)
      comes_to_end =
          let most = bound (sizes_of m n) + 2 * n * limit in
          elim (search most) [
            | inl before ↦ (let o = next most before in
                let over = few (suc most) (λ j lt less. (before j lt less).0) o.process o.at o.begun in
                absurd (omega (arith, over)))
            | inr found ↦ (let k = found.0 in
                let reached = found.1 in
                let closed = closes m (sizes_of m n) p s first (after k) reached.opened reached.gives in
                (k, reached, closed, few (suc k) (opened_all k reached) closed.process closed.at closed.begun))
          ]
