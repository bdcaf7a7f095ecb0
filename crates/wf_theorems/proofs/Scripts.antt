-- Scripts grow, and a call that has begun is one of its process's script.
use Rattle.std.proofs.Common.{◌≡◌, ℕ, ◌-◌, ◌<◌, List, [], ◌∷◌, ◌++◌, set, refl, sym, ap, ◌∙◌, arith, subst, inl, inr, length-append}
use Rattle.std.specs.Prelude.{ℤ, Option, Some, None, slice_get}
use Rattle.std.proofs.lemmas.Bool.{cases_eq}
use Rattle.std.proofs.lemmas.List.{get_or_append_left}
use Rattle.std.proofs.lemmas.List.Elements.{All-contains}
use Rattle.std.proofs.lemmas.Option.{same_Some, slice_get_within, slice_get-get_or, get_or_from_slice_get}
use Rattle.ob_interface.specs.Call.{ObjectCall}
use Rattle.wf_history.specs.declared.event.CallId.{CallId}
use Rattle.wf_history.specs.History.{Begin}
use Rattle.wf_history.specs.Legal.{HasBegun}
use Rattle.wf_table.specs.declared.process.Sizes.{Sizes}
use Rattle.wf_table.specs.Meaning.{Meaning}
use Rattle.wf_table.specs.StepTable.{Process, row}
use Rattle.wf_table.specs.Object.{State, step_by, submit_by, script_of, script_by}
use Rattle.wf_table.specs.Runs.{Act, Steps, Submits, act_of, run}
use Rattle.wf_table.specs.Below.{EventBelow}
use Rattle.wf_table.specs.Sound.{IsSound}
use Rattle.wf_table.proofs.Moves.{same_calls}
use Rattle.wf_table.proofs.HelpAndOrderSteps.{member}
use Rattle.wf_table.specs.Ends.{IsCallOf}
use Rattle.wf_table.proofs.BoundPlaces.{put_at, still_at}
use Rattle.wf_table.proofs.Unique.{call_is, of_script}

-- what stands in the first list stands in the second one
abbrev Begins : List ObjectCall → List ObjectCall → Type 0
Begins calls more = (i : ℕ) (call : ObjectCall) → slice_get calls i ≡ Some call → slice_get more i ≡ Some call

begins_longer : (calls more : List ObjectCall) → Begins calls (calls ++ more)
begins_longer calls more i call e =
    let lt = slice_get_within calls i call e in
    slice_get-get_or (calls ++ more) i call (omega (arith, lt, length-append calls more)) ∙ ap (λ (c : ObjectCall). Some c) (get_or_append_left calls more call i lt ∙ get_or_from_slice_get calls i call call e)

module _ {Run : Type 0} (m : Meaning Run) (z : Sizes) where
  -- the process in this place, behind an act
  record Later (calls : List ObjectCall) (ps : List (Process Run)) (k : ℕ) : Type 0 where
    process : Process Run
    stands : slice_get ps k ≡ Some process
    begins : Begins calls process.calls

  put : (ps : List (Process Run)) (p k : ℕ) (q x o : Process Run) → slice_get ps p ≡ Some q → slice_get ps k ≡ Some o → Begins q.calls x.calls → Later o.calls (set ps p x) k
  put ps p k q x o at stands begins = elim (cases_eq k p) [
    | inl same ↦ (let here : slice_get ps p ≡ Some o = ap (slice_get ps) (sym same) ∙ stands in let is : q ≡ o = same_Some q o (sym at ∙ here) in
        record { process = x; stands = ap (slice_get (set ps p x)) same ∙ put_at ps p x q at; begins = subst (λ (y : Process Run). Begins y.calls x.calls) is begins })
    | inr apart ↦ record { process = o; stands = still_at ps p x k o apart stands; begins = λ i call e. e }
  ]

  step_later : (s : State Run) (p k : ℕ) (o : Process Run) (x : Option (Process Run)) → slice_get s.processes p ≡ x → slice_get s.processes k ≡ Some o → Later o.calls (step_by m z s p x).processes k
  step_later s p k o None at stands = record { process = o; stands = stands; begins = λ i call e. e }
  step_later s p k o (Some q) at stands =
      put s.processes p k q (row q.label m z s.cell p q).process o at stands (λ i call e. ap (λ (calls : List ObjectCall). slice_get calls i) (same_calls q.label m z s.cell p q) ∙ e)

  submit_later : (s : State Run) (p k : ℕ) (o : Process Run) (call : ObjectCall) (x : Option (Process Run)) → slice_get s.processes p ≡ x → slice_get s.processes k ≡ Some o → Later o.calls (submit_by s p call x).processes k
  submit_later s p k o call None at stands = record { process = o; stands = stands; begins = λ i c e. e }
  submit_later s p k o call (Some q) at stands = put s.processes p k q (record q { calls = q.calls ++ call ∷ [] }) o at stands (begins_longer q.calls (call ∷ []))

  act_later : (s : State Run) (act : Act) (k : ℕ) (o : Process Run) → slice_get s.processes k ≡ Some o → Later o.calls (act_of m z s act).processes k
  act_later s (Steps p) k o stands = step_later s p k o (slice_get s.processes p) refl stands
  act_later s (Submits p call) k o stands = submit_later s p k o call (slice_get s.processes p) refl stands

  -- a run lengthens scripts
  pub run_begins : (acts : List Act) (s : State Run) (k : ℕ) (o : Process Run) → slice_get s.processes k ≡ Some o → Begins o.calls (script_of (run m z acts s) k)
  run_begins [] s k o stands i call e = ap (λ (x : Option (Process Run)). slice_get (script_by x) i) stands ∙ e
  run_begins (act ∷ acts) s k o stands i call e =
      let later = act_later s act k o stands in
      run_begins acts (act_of m z s act) k later.process later.stands i call (later.begins i call e)

module _ {Run : Type 0} (m : Meaning Run) (lawful : List ℤ → Type 0) (fits : ObjectCall → Type 0) (ready : Run → Type 0) (z : Sizes) (opening : List ℤ) where
  -- a call that has begun is of the scripts that the run comes to
  pub begun_of_script : (acts : List Act) (s : State Run) → IsSound m lawful fits ready z opening s → (id : CallId) (call : ObjectCall) → HasBegun s.records.history id call → IsCallOf (script_of (run m z acts s)) id call
  begun_of_script acts s sound id call begun =
      let lt : id.process < z.processes = All-contains (EventBelow z.processes) s.records.history (Begin id call) sound.below.history begun in
      let found = member s.processes id.process (omega (arith, lt, sound.count)) in
      let q = found.0 in
      let is = of_script s.records.history sound.in_turn id call call q.begun q.calls (sound.own_calls id.process q found.1).calls begun in (
        (call_is s.records.history sound.in_turn id call call begun).0,
        run_begins m z acts s id.process q found.1 (id.number - 1) call (slice_get-get_or q.calls (id.number - 1) call is.0 ∙ ap (λ (c : ObjectCall). Some c) is.1),
      )
