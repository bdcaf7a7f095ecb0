-- The scripts of an object's processes are those of the lines that were submitted.
use Rattle.std.proofs.Common.{◌≡◌, ℕ, zero, suc, ◌≤◌, Bool, List, [], ◌∷◌, ◌++◌, length, map, take, refl, sym, ap, ◌∙◌, arith, subst, inl, inr, cond, append_assoc, append-nil, eq-eqb, take_all}
use Rattle.std.specs.Prelude.{Option, Some, None, slice_get}
use Rattle.std.proofs.lemmas.Bool.{cases_eq, ne_eqb}
use Rattle.ob_interface.specs.Call.{ObjectCall}
use Rattle.ob_object_outcomes.specs.Scripts.{calls_by, scripts_by}
use Rattle.ob_text_words.specs.ScriptCalls.{ScriptCall, object_call}
use Rattle.wf_table.proofs.BoundPlaces.{put_at, still_at}
use Rattle.wf_table.proofs.HelpAndOrderSteps.{member}
use Rattle.wf_history.proofs.Positions.{take_next}
use Rattle.wf_play.specs.Played.{scripts_of}
use Rattle.wf_table.specs.declared.process.Sizes.{Sizes}
use Rattle.wf_table.specs.Meaning.{Meaning}
use Rattle.wf_table.specs.Object.{State, submit_by, submit_of}
use Rattle.wf_table.specs.Runs.{run, submissions}
use Rattle.wf_table.specs.StepTable.{Process}

map_push : {X Y : Type 0} (f : X → Y) (xs : List X) (x : X) → map f (xs ++ x ∷ []) ≡ map f xs ++ f x ∷ []
map_push f [] x = refl
map_push {X} {Y} f (y ∷ xs) x = ap (λ (ys : List Y). f y ∷ ys) (map_push f xs x)

module _ {Run : Type 0} where
  as_scripts : (ps : List (Process Run)) (calls : List ScriptCall) → ((p : ℕ) (q : Process Run) → slice_get ps p ≡ Some q → q.calls ≡ calls_by p calls) → (n : ℕ) → n ≤ length ps → map (λ q. q.calls) (take n ps) ≡ scripts_by n calls
  as_scripts ps calls each zero few = refl
  as_scripts ps calls each (suc n) few =
      let found = member ps n (omega (arith, few)) in
      ap (λ (xs : List (Process Run)). map (λ q. q.calls) xs) (take_next ps n found.0 found.1)
      ∙ map_push (λ (q : Process Run). q.calls) (take n ps) found.0
      ∙ ap (λ (xs : List (List ObjectCall)). xs ++ found.0.calls ∷ []) (as_scripts ps calls each n (omega (arith, few)))
      ∙ ap (λ (c : List ObjectCall). scripts_by n calls ++ c ∷ []) (each n found.0 found.1)

  pub all_scripts : (ps : List (Process Run)) (calls : List ScriptCall) (n : ℕ) → length ps ≡ n → ((p : ℕ) (q : Process Run) → slice_get ps p ≡ Some q → q.calls ≡ calls_by p calls) → map (λ q. q.calls) ps ≡ scripts_by n calls
  all_scripts ps calls n many each =
      ap (λ (xs : List (Process Run)). map (λ q. q.calls) xs) (sym (take_all n ps (omega (arith, many)))) ∙ as_scripts ps calls each n (omega (arith, many))

module _ {Run : Type 0} (m : Meaning Run) (z : Sizes) where
  -- a process with these calls stands there
  pub record Has (calls : List ObjectCall) (ps : List (Process Run)) (p : ℕ) : Type 0 where
    pub process : Process Run
    pub stands : slice_get ps p ≡ Some process
    pub calls_are : process.calls ≡ calls

  submit_apart : (s : State Run) (k p : ℕ) (call : ObjectCall) (q : Process Run) (o : Option (Process Run)) → (p ≡ k → ⊥) → slice_get s.processes p ≡ Some q → slice_get (submit_by s k call o).processes p ≡ Some q
  submit_apart s k p call q None apart at = at
  submit_apart s k p call q (Some r) apart at = still_at s.processes k (record r { calls = r.calls ++ call ∷ [] }) p q apart at

  submit_own : (s : State Run) (p : ℕ) (call : ObjectCall) (q : Process Run) → slice_get s.processes p ≡ Some q → slice_get (submit_of s p call).processes p ≡ Some (record q { calls = q.calls ++ call ∷ [] })
  submit_own s p call q at = subst (λ (o : Option (Process Run)). slice_get (submit_by s p call o).processes p ≡ Some (record q { calls = q.calls ++ call ∷ [] })) (sym at) (put_at s.processes p (record q { calls = q.calls ++ call ∷ [] }) q at)

  pub submitted_calls : (calls : List ScriptCall) (s : State Run) (p : ℕ) (q : Process Run) → slice_get s.processes p ≡ Some q → Has (q.calls ++ calls_by p calls) (run m z (submissions (scripts_of calls)) s).processes p
  submitted_calls [] s p q at = record { process = q; stands = at; calls_are = sym (append-nil q.calls) }
  submitted_calls (c ∷ calls) s p q at =
      let call = object_call c in
      let next = submit_of s c.process call in
      elim (cases_eq c.process p) [
        | inl own ↦ (let longer : Process Run = record q { calls = q.calls ++ call ∷ [] } in
            let here : slice_get next.processes p ≡ Some longer = subst (λ (k : ℕ). slice_get (submit_of s k call).processes p ≡ Some longer) (sym own) (submit_own s p call q at) in
            let rest = submitted_calls calls next p longer here in
            record {
              process = rest.process;
              stands = rest.stands;
              calls_are = rest.calls_are ∙ append_assoc q.calls (call ∷ []) (calls_by p calls) ∙ ap (λ (b : Bool). q.calls ++ cond b (call ∷ calls_by p calls) (calls_by p calls)) (sym (eq-eqb c.process p own));
            })
        | inr other ↦ (let rest = submitted_calls calls next p q (submit_apart s c.process p call q (slice_get s.processes c.process) (λ e. other (sym e)) at) in
            record {
              process = rest.process;
              stands = rest.stands;
              calls_are = rest.calls_are ∙ ap (λ (b : Bool). q.calls ++ cond b (call ∷ calls_by p calls) (calls_by p calls)) (sym (ne_eqb c.process p other));
            })
      ]
