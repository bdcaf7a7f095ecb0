-- Each merge is shown by a run of the machine.
use Rattle.std.proofs.Common.{◌≡◌, List, ◌++◌, sym, ap, ◌∙◌, subst, take}
use Rattle.std.specs.Prelude.{ℤ}
use Rattle.std.proofs.Math.Logic.{∥∥₁_elim, ∥∥₁_prop}
use Rattle.ll_cell.specs.Cell.{block_of}
use Rattle.ob_interface.specs.Call.{ObjectCall}
use Rattle.wf_history.specs.declared.event.CallId.{CallId}
use Rattle.wf_history.specs.Legal.{IsLegal}
use Rattle.wf_outcome_laws.specs.ScriptRuns.{IsRunOfScripts}
use Rattle.wf_table.specs.Law.{Effects, IsLawful}
use Rattle.wf_table.specs.Meaning.{Meaning}
use Rattle.wf_table.specs.Runs.{submissions, turns}
use Rattle.wf_table.proofs.TableBodies.{functional}
use Rattle.wf_outcome_laws.specs.Shown.{EveryMergeIsShown, scripts_in}
use Rattle.wf_outcome_laws.proofs.EveryRun.{laws_of}
use Rattle.wf_outcome_laws.proofs.Merged.{Shown, one_by_one, one_last, run_of_scripts}
use Rattle.wf_outcome_laws.proofs.Played.{play}
use Rattle.wf_outcome_laws.proofs.Showing.{Events}
use Rattle.wf_outcome_laws.proofs.Submitting.{calls_fit, first_stage, no_history, no_order}

pub every_merge : {Run : Type 0} (m : Meaning Run) (lawful : List ℤ → Type 0) (fits : ObjectCall → Type 0) (ready : Run → Type 0) (Effect : Effects) → IsLawful m lawful fits ready Effect → EveryMergeIsShown m lawful fits ready Effect
every_merge m lawful fits ready Effect law n limit opening last calls s order r all leads =
    let laws = laws_of m lawful fits ready Effect law in
    let scripts = scripts_in s in
    let acts = submissions calls in
    let played = play m lawful fits ready Effect laws n limit opening scripts leads acts s r (first_stage m lawful fits ready Effect n limit opening calls s r all) in
    let history = played.after.records.history in
    let root = take m.variables (block_of played.after.cell played.after.cell.root) in
    let same : history ≡ played.seen = played.history ∙ ap (λ (es : Events). es ++ played.seen) (no_history m lawful fits ready Effect n limit opening calls s r) in
    let same_order : played.after.records.order ≡ order = played.order ∙ ap (λ (xs : List CallId). xs ++ order) (no_order m lawful fits ready Effect n limit opening calls s r) in
    let shown : Shown Effect scripts leads history = subst (λ (es : Events). Shown Effect scripts leads es) (sym same) played.shown in
    let of_scripts : IsRunOfScripts scripts history = run_of_scripts Effect scripts opening last order leads history shown (laws.sound n opening (acts ++ turns played.steps) played.after played.run).in_turn in
    ∥∥₁_elim (laws.legal n opening (acts ++ turns played.steps) played.after played.run) ∥∥₁_prop (λ legal.
    let legal_order : IsLegal Effect opening history order root = subst (λ (xs : List CallId). IsLegal Effect opening history xs root) same_order legal in
    let ends : root ≡ last = one_last Effect scripts lawful fits
    (λ before after other call reply another ok fit does so. (functional m lawful fits ready Effect law before call after other reply another ok fit does so).0)
    (λ before after call reply ok fit does. law.effect_lawful before call after reply ok fit does)
    (calls_fit fits s (laws.sound n opening acts s r).calls_fit) opening last root order history r.opens leads of_scripts legal_order in
    ∣ record {
      steps = played.steps;
      after = played.after;
      items = played.items;
      run = played.run;
      alone = record { run = of_scripts; alone = one_by_one Effect scripts leads history shown; legal = subst (λ (b : List ℤ). IsLegal Effect opening history order b) ends legal_order };
      same_order = same_order;
      variables = ends;
    } ∣₁)
