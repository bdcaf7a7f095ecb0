-- Calls that are submitted before any step.
use Rattle.std.proofs.Common.{◌≡◌, ℕ, suc, ◌+◌, List, [], ◌∷◌, ◌++◌, map, take, refl, ap, ◌∙◌, sym, arith}
use Rattle.std.specs.Prelude.{Option, Some, None, slice_get}
use Rattle.std.specs.List.{All}
use Rattle.std.proofs.lemmas.List.Elements.{All-head, All-tail}
use Rattle.ob_interface.specs.Call.{ObjectCall}
use Rattle.ob_interface.specs.View.{call_of}
use Rattle.ob_interface.specs.declared.call.Call.{Call}
use Rattle.wf_history.proofs.Positions.{take_next}
use Rattle.wf_object.specs.View.{Object}
use Rattle.wf_table.specs.declared.process.Sizes.{Sizes}
use Rattle.wf_table.specs.Meaning.{Meaning}
use Rattle.wf_table.specs.Object.{State, submit_by, submit_of}
use Rattle.wf_table.specs.Runs.{ActsFit, run, submissions, turns}
use Rattle.wf_table.specs.StepTable.{Process}
use Rattle.ob_desk_floor.specs.Floor.{with_submissions}
use Rattle.ob_desk_floor.specs.Submission.{submission_of}
use Rattle.ob_desk_floor.specs.declared.submission.Submission.{Submission}

turns_fit : (fits : ObjectCall → Type 0) (ps : List ℕ) → ActsFit fits (turns ps)
turns_fit fits [] = tt
turns_fit fits (p ∷ ps) = (tt, turns_fit fits ps)

pub scripts_fit : (fits : ObjectCall → Type 0) (cs : List Submission) (ps : List ℕ) → All (λ c. fits (call_of c.call)) cs → ActsFit fits (submissions (map submission_of cs) ++ turns ps)
scripts_fit fits [] ps h = turns_fit fits ps
scripts_fit fits (c ∷ cs) ps h = (All-head (λ (x : Submission). fits (call_of x.call)) c cs h, scripts_fit fits cs ps (All-tail (λ (x : Submission). fits (call_of x.call)) c cs h))

module _ {Run : Type 0} (m : Meaning Run) (z : Sizes) where
  submitted_by : (s : State Run) (p : ℕ) (call : ObjectCall) (o : Option (Process Run)) → (submit_by s p call o).records ≡ s.records
  submitted_by s p call None = refl
  submitted_by s p call (Some q) = refl

  -- they show nothing
  pub submitted_records : (scripts : List (ℕ × ObjectCall)) (s : State Run) → (run m z (submissions scripts) s).records ≡ s.records
  submitted_records [] s = refl
  submitted_records (x ∷ xs) s = submitted_records xs (submit_of s x.0 x.1) ∙ submitted_by s x.0 x.1 (slice_get s.processes x.0)

  submitted_last : (cs : List Submission) (c : Submission) (s : State Run) → run m z (submissions (map submission_of (cs ++ c ∷ []))) s ≡ submit_of (run m z (submissions (map submission_of cs)) s) c.process (call_of c.call)
  submitted_last [] c s = refl
  submitted_last (d ∷ cs) c s = submitted_last cs c (submit_of s d.process (call_of d.call))

  -- the calls so far, and one more
  pub submitted_more : (cs : List Submission) (i : ℕ) (c : Submission) (s : State Run) → slice_get cs i ≡ Some c → run m z (submissions (map submission_of (take (i + 1) cs))) s ≡ submit_of (run m z (submissions (map submission_of (take i cs))) s) c.process (call_of c.call)
  submitted_more cs i c s at =
      let more : i + 1 ≡ suc i = omega arith in
      ap (λ (xs : List Submission). run m z (submissions (map submission_of xs)) s) (ap (λ (j : ℕ). take j cs) more ∙ take_next cs i c at) ∙ submitted_last (take i cs) c s

-- a machine with the calls so far, and with one more
pub one_submission_more : {E Run : Type 0} (m : Meaning Run) (a b next : Object E Run) (cs : List Submission) (i : ℕ) (c : Submission) (call : Call) → slice_get cs i ≡ Some c → call_of call ≡ call_of c.call →
    b ≡ with_submissions m (map submission_of (take i cs)) a → next ≡ record b { state = submit_of b.state c.process (call_of call) } → next ≡ with_submissions m (map submission_of (take (i + 1) cs)) a
one_submission_more {E} {Run} m a b next cs i c call at same so_far done =
    done
    ∙ ap (λ (x : ObjectCall). record b { state = submit_of b.state c.process x }) same
    ∙ ap (λ (o : Object E Run). record o { state = submit_of o.state c.process (call_of c.call) }) so_far
    ∙ ap (λ (s : State Run). record a { state = s }) (sym (submitted_more m a.sizes cs i c a.state at))
