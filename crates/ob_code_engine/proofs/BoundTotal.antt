-- What a call takes in all: bodies of compiled code end within what is paid for, so no body of a run takes a step behind that.
use Rattle.std.proofs.Common.{◌≡◌, ℕ, ℤ, List, [], Some, Option, None, refl, subst}
use Rattle.std.specs.Prelude.{slice_get}
use Rattle.std.proofs.lemmas.Option.{slice_get_within, get_or_from_slice_get}
use Rattle.ob_interface.specs.Call.{ObjectCall}
use Rattle.ob_typing.specs.Program.{Program}
use Rattle.ob_code_machine.specs.Body.{Run}
use Rattle.ob_code_scheme.specs.WellFormed.{IsWellFormed}
use Rattle.wf_table.specs.declared.process.Sizes.{Sizes}
use Rattle.wf_table.specs.Meaning.{Meaning}
use Rattle.wf_table.specs.Law.{IsLawful}
use Rattle.wf_table.specs.StepTable.{Process}
use Rattle.wf_table.specs.Object.{State, script_by, script_of}
use Rattle.wf_table.specs.Runs.{Act, ActsFit, IsRun, run}
use Rattle.wf_table.specs.Scripts.{CallsFit}
use Rattle.wf_table.specs.Sound.{IsSound}
use Rattle.wf_table.specs.Start.{sizes_of}
use Rattle.wf_table.proofs.TableRuns.{run_sound}
use Rattle.wf_table.specs.Counted.{counted_from, counted_run}
use Rattle.wf_table.specs.Limit.{AllWithinLimit}
use Rattle.wf_table.proofs.BoundRuns.{run_within}
use Rattle.wf_table.proofs.Limits.{run_limited}
use Rattle.wf_theorems.proofs.Ends.{run_ends}
use Rattle.ob_code_correct.specs.Compiled.{parts_of, engine_of, Fits, HasReserve, IsLawfulBlock, IsEffect, body_limit}
use Rattle.ob_code_correct.proofs.CodeLaw.{code_lawful, scripts_end}
use Rattle.ob_code_engine.specs.Bound.{CallsKeepTotal}

script_fits : {A : Type 0} (fits : ObjectCall → Type 0) (o : Option (Process A)) → ((q : Process A) → o ≡ Some q → CallsFit fits q) →
    (k : ℕ) (call : ObjectCall) → slice_get (script_by o) k ≡ Some call → fits call
script_fits fits None h k call is = absurd (cc)
script_fits fits (Some q) h k call is =
    subst fits (get_or_from_slice_get q.calls k call (record { export = 0; arguments = [] }) is) ((h q refl).fit k (slice_get_within q.calls k call is))

module _ (program : Program) (budget n : ℕ) (well : IsWellFormed program) (opening : List ℤ) where
  abbrev m : Meaning Run
  m = engine_of program budget

  abbrev z : Sizes
  z = sizes_of m n

  abbrev Runs : List Act → State Run → Type 0
  Runs acts s = IsRun m (IsLawfulBlock program) (Fits program) (HasReserve (parts_of program budget)) n opening acts s

  law : IsLawful m (IsLawfulBlock program) (Fits program) (HasReserve (parts_of program budget)) (IsEffect program budget)
  law = code_lawful program budget well

  sound : (acts : List Act) (s : State Run) → Runs acts s → IsSound m (IsLawfulBlock program) (Fits program) (HasReserve (parts_of program budget)) z opening s
  sound acts s r = run_sound m (IsLawfulBlock program) (Fits program) (HasReserve (parts_of program budget)) (IsEffect program budget) law n opening acts s r

  module _ (acts : List Act) (s : State Run) (r : Runs acts s) where
    begun : (more : List Act) → ActsFit (Fits program) more → Runs more (run m z more r.start)
    begun more fit = record { some = r.some; few = r.few; opens = r.opens; fit = fit; start = r.start; begins = r.begins; leads = refl }

    fit_at : (p k : ℕ) (call : ObjectCall) → slice_get (script_of s p) k ≡ Some call → Fits program call
    fit_at p k call is = script_fits (Fits program) (slice_get s.processes p) (λ q there. (sound acts s r).calls_fit p q there) k call is

    pub limited : AllWithinLimit z (body_limit program budget) (counted_run m z acts (counted_from r.start))
    limited =
        let all = scripts_end program budget well (script_of s) opening fit_at r.opens in
        let below = run_ends m (IsLawfulBlock program) (Fits program) (HasReserve (parts_of program budget)) (IsEffect program budget) law n (body_limit program budget) opening acts s r all in
        let idle = λ (p : ℕ) (q : Process Run) (at : slice_get r.start.processes p ≡ Some q). (r.begins.idle p q at).label in
        let within = run_within m z (Fits program) acts r.start (sound acts (run m z acts r.start) (begun acts r.fit)).sized (λ more fit. (sound more (run m z more r.start) (begun more fit)).in_range) r.fit idle in
        run_limited m z (body_limit program budget) acts r.start idle below within

pub calls_keep_total : CallsKeepTotal
calls_keep_total program budget n well opening acts s r = limited program budget n well opening acts s r
