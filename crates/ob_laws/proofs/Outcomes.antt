-- Each merge of the calls of a script is shown by a run of the object.
use Rattle.std.proofs.Common.{◌≡◌, ◌∙◌, ℕ, List, [], ◌++◌, length, refl, sym, ap, subst, arith}
use Rattle.std.specs.Prelude.{ℤ, Some, slice_get}
use Rattle.std.proofs.lemmas.Option.{same_Some, slice_get_within}
use Rattle.ob_code_correct.specs.Compiled.{parts_of, engine_of, Fits, HasReserve, IsLawfulBlock, IsEffect}
use Rattle.ob_code_correct.specs.Named.{CallMeans}
use Rattle.ob_code_correct.proofs.CodeLaw.{code_lawful}
use Rattle.ob_code_machine.specs.Body.{Run}
use Rattle.ob_code_scheme.specs.Layout.{encoded, IsEncoding}
use Rattle.ob_code_scheme.specs.WellFormed.{IsWellFormed}
use Rattle.ob_laws.specs.Meant.{CodeShowsMerges, IsCodeRun}
use Rattle.ob_interface.specs.Call.{ObjectCall}
use Rattle.ob_object_compile.specs.Compilation.{IsShort}
use Rattle.ob_object_compile.specs.Sound.{ObjectsAreSound}
use Rattle.ob_object_outcomes.specs.Scripts.{calls_by, scripts_by}
use Rattle.ob_text_words.specs.ScriptCalls.{ScriptCall}
use Rattle.ob_typing.specs.Program.{Program}
use Rattle.wf_table.proofs.HelpAndOrderSteps.{member}
use Rattle.wf_outcomes.specs.Merges.{Leads, start, full}
use Rattle.wf_play.specs.Played.{scripts_of}
use Rattle.wf_outcome_laws.specs.Shown.{scripts_in}
use Rattle.wf_table.specs.Object.{State}
use Rattle.wf_table.specs.Runs.{submissions}
use Rattle.wf_table.specs.Start.{sizes_of}
use Rattle.wf_table.specs.StepTable.{Process}
use Rattle.wf_table.proofs.TableRuns.{run_sound}
use Rattle.ob_laws.specs.Shown.{OutcomesAreShown}
use Rattle.ob_laws.proofs.Scripts.{all_scripts, submitted_calls}

module _ (program : Program) (budget n : ℕ) (well : IsWellFormed program) (block : List ℤ) (calls : List ScriptCall) (s : State Run) (r : IsCodeRun program budget n block (submissions (scripts_of calls)) s) where
  count : length s.processes ≡ n
  count = (run_sound (engine_of program budget) (IsLawfulBlock program) (Fits program) (HasReserve (parts_of program budget)) (IsEffect program budget) (code_lawful program budget well) n block (submissions (scripts_of calls)) s r).count

  own : (p : ℕ) (q : Process Run) → slice_get s.processes p ≡ Some q → q.calls ≡ calls_by p calls
  own p q at =
      let within = slice_get_within s.processes p q at in
      let many = r.begins.count in
      let old = member r.start.processes p (omega (arith, within, count, many)) in
      let none : old.0.calls ≡ [] = (r.begins.idle p old.0 old.1).calls in
      let now = submitted_calls (engine_of program budget) (sizes_of (engine_of program budget) n) calls r.start p old.0 old.1 in
      let same : q ≡ now.process = same_Some q now.process (sym at ∙ ap (λ (t : State Run). slice_get t.processes p) (sym r.leads) ∙ now.stands) in
      ap (λ (x : Process Run). x.calls) same ∙ now.calls_are ∙ ap (λ (cs : List ObjectCall). cs ++ calls_by p calls) none

  pub scripts_are : scripts_in s ≡ scripts_by n calls
  scripts_are = all_scripts s.processes calls n count own

pub outcomes_shown : CodeShowsMerges → ObjectsAreSound IsShort → OutcomesAreShown
outcomes_shown shows sound a script p i s order last r leads =
    let o = p.object in
    let opens = i.compiled.opens in
    let object = sound a o i.compiled in
    let encodes : IsEncoding o.program.variables o.opening (encoded o.opening) = record { typed = object.begins; words_are = refl } in
    let scripts : p.scripts ≡ scripts_in s = i.each ∙ sym (scripts_are o.program a.budget a.processes object.well (encoded o.opening) i.calls s r) in
    let means = CallMeans o.program a.budget in
    shows o.program a.budget a.processes object.well object.resolved opens.state last o.opening (encoded o.opening) (scripts_of i.calls) s order opens.same encodes r
    (subst (λ (x : List (List ObjectCall)). Leads means x (start means x opens.state) order (full means x last)) scripts leads)
