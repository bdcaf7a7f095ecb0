-- Steps of one process in a row, as acts, and how many of them its call takes.
use Rattle.std.proofs.Common.{◌≡◌, ℕ, zero, suc, ◌+◌, ◌<◌, Bool, true, false, cond, List, [], ◌∷◌, ◌++◌, replicate, refl, sym, ap, ◌∙◌, arith, subst, inl, inr, append_assoc, eq-eqb}
use Rattle.std.specs.Prelude.{ℤ, Option, Some, None, slice_get}
use Rattle.std.proofs.lemmas.Bool.{cases_eq}
use Rattle.ob_interface.specs.Call.{ObjectCall}
use Rattle.wf_table.specs.declared.process.Label.{Label}
use Rattle.wf_table.specs.declared.process.Label.TheVariants.{Next}
use Rattle.wf_table.specs.declared.process.Sizes.{Sizes}
use Rattle.wf_table.specs.Labels.{at_next}
use Rattle.wf_table.specs.Meaning.{Meaning}
use Rattle.wf_table.specs.Object.{State, script_by, script_of, step_by, step_of}
use Rattle.wf_table.specs.Runs.{Act, Steps, ActsFit, IsRun, act_of, run, turns}
use Rattle.wf_table.specs.Start.{sizes_of}
use Rattle.wf_table.specs.StepTable.{Process, row}
use Rattle.wf_table.proofs.Moves.{same_calls}
use Rattle.wf_table.specs.declared.spent.Spent.{Spent}
use Rattle.wf_table.specs.Calls.{own_act, own_spent, spends}
use Rattle.wf_table.specs.Spent.{has_more, spent_after, unspent}
use Rattle.wf_table.proofs.BoundPlaces.{put_at}
use Rattle.wf_object.specs.InARow.{after_steps}
use Rattle.wf_outcome_laws.proofs.Lists.{set_other}

pub turns_append : (ps qs : List ℕ) → turns (ps ++ qs) ≡ turns ps ++ turns qs
turns_append [] qs = refl
turns_append (p ∷ ps) qs = ap (λ (acts : List Act). Steps p ∷ acts) (turns_append ps qs)

pub turns_behind : (acts : List Act) (ps qs : List ℕ) → (acts ++ turns ps) ++ turns qs ≡ acts ++ turns (ps ++ qs)
turns_behind acts ps qs = append_assoc acts (turns ps) (turns qs) ∙ ap (λ (more : List Act). acts ++ more) (sym (turns_append ps qs))

fit_turns : (fits : ObjectCall → Type 0) (ps : List ℕ) → ActsFit fits (turns ps)
fit_turns fits [] = tt
fit_turns fits (p ∷ ps) = (tt, fit_turns fits ps)

pub fit_more : (fits : ObjectCall → Type 0) (acts : List Act) (ps : List ℕ) → ActsFit fits acts → ActsFit fits (acts ++ turns ps)
fit_more fits [] ps h = fit_turns fits ps
fit_more fits (act ∷ acts) ps h = (h.0, fit_more fits acts ps h.1)

-- own steps, in bodies and outside
abbrev pub all_of : Spent → ℕ
all_of x = x.outside + x.inside

one_more : (l : Label) (begins : Bool) → at_next l ≡ false → all_of (spent_after l begins unspent) ≡ 1
one_more Next begins out = absurd (cc)
one_more l begins out = omega arith

one_begun : (begins : Bool) → begins ≡ true → all_of (spent_after Next begins unspent) ≡ 1
one_begun true e = omega arith
one_begun false e = absurd (cc)

module _ {Run : Type 0} (m : Meaning Run) (z : Sizes) where
  pub run_append : (acts more : List Act) (s : State Run) → run m z (acts ++ more) s ≡ run m z more (run m z acts s)
  run_append [] more s = refl
  run_append (act ∷ acts) more s = run_append acts more (act_of m z s act)

  step_first : (p k : ℕ) (s : State Run) → after_steps m z p k (step_of m z s p) ≡ step_of m z (after_steps m z p k s) p
  step_first p zero s = refl
  step_first p (suc k) s = ap (λ (t : State Run). step_of m z t p) (step_first p k s)

  pub steps_run : (p k : ℕ) (s : State Run) → run m z (turns (replicate k p)) s ≡ after_steps m z p k s
  steps_run p zero s = refl
  steps_run p (suc k) s = steps_run p k (step_of m z s p) ∙ step_first p k s

  -- a step spends one step
  abbrev pub SpendsOne : ℕ → State Run → Type 0
  SpendsOne p s = all_of (spends (slice_get s.processes p)) ≡ 1

  pub open_spends : (s : State Run) (p : ℕ) (q : Process Run) → slice_get s.processes p ≡ Some q → at_next q.label ≡ false → SpendsOne p s
  open_spends s p q at out = ap (λ (o : Option (Process Run)). all_of (spends o)) at ∙ one_more q.label (has_more q) out

  pub next_spends : (s : State Run) (p : ℕ) (q : Process Run) → slice_get s.processes p ≡ Some q → q.label ≡ Next → has_more q ≡ true → SpendsOne p s
  next_spends s p q at is more = ap (λ (o : Option (Process Run)). all_of (spends o)) at ∙ ap (λ (l : Label). all_of (spent_after l (has_more q) unspent)) is ∙ one_begun (has_more q) more

  pub all_spent : (p k : ℕ) (s : State Run) → ((j : ℕ) → j < k → SpendsOne p (after_steps m z p j s)) → all_of (own_spent m z p (turns (replicate k p)) s) ≡ k
  all_spent p zero s each = refl
  all_spent p (suc k) s each =
      let rest = own_spent m z p (turns (replicate k p)) (step_of m z s p) in
      let now : all_of (own_act p s (Steps p)) ≡ 1 = ap (λ b. all_of (cond b (spends (slice_get s.processes p)) unspent)) (eq-eqb p p refl) ∙ each 0 (omega arith) in
      let later : all_of rest ≡ k = all_spent p k (step_of m z s p) (λ j less. ap (λ (t : State Run). all_of (spends (slice_get t.processes p))) (step_first p j s) ∙ each (suc j) (omega (arith, less))) in
      omega (arith, now, later)

  -- steps leave scripts as they are
  step_script : (s : State Run) (p k : ℕ) (o : Option (Process Run)) → slice_get s.processes p ≡ o → script_of (step_by m z s p o) k ≡ script_of s k
  step_script s p k None at = refl
  step_script s p k (Some q) at =
      let after = (row q.label m z s.cell p q).process in
      elim (cases_eq k p) [
        | inl same ↦ subst (λ (i : ℕ). script_of (step_by m z s p (Some q)) i ≡ script_of s i) (sym same) (ap script_by (put_at s.processes p after q at) ∙ same_calls q.label m z s.cell p q ∙ ap script_by (sym at))
        | inr apart ↦ ap script_by (set_other s.processes p k after apart)
      ]

  pub steps_script : (p j : ℕ) (s : State Run) (k : ℕ) → script_of (after_steps m z p j s) k ≡ script_of s k
  steps_script p zero s k = refl
  steps_script p (suc j) s k = let t = after_steps m z p j s in step_script t p k (slice_get t.processes p) refl ∙ steps_script p j s k

-- a run goes on
abbrev pub run_more : {Run : Type 0} (m : Meaning Run) (lawful : List ℤ → Type 0) (fits : ObjectCall → Type 0) (ready : Run → Type 0) (n : ℕ) (opening : List ℤ) (acts : List Act) (s : State Run) (p k : ℕ) →
    IsRun m lawful fits ready n opening acts s → IsRun m lawful fits ready n opening (acts ++ turns (replicate k p)) (after_steps m (sizes_of m n) p k s)
run_more m lawful fits ready n opening acts s p k r = record {
  some = r.some;
  few = r.few;
  opens = r.opens;
  fit = fit_more fits acts (replicate k p) r.fit;
  start = r.start;
  begins = r.begins;
  leads = run_append m (sizes_of m n) acts (turns (replicate k p)) r.start ∙ ap (run m (sizes_of m n) (turns (replicate k p))) r.leads ∙ steps_run m (sizes_of m n) p k s;
}
