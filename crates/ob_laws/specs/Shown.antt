-- What is told of all merges of the calls of a script, from bytes, and the runs of the module's object that show them.
use Rattle.std.specs.Prelude.{ℕ, List}
use Rattle.ob_code_correct.specs.Named.{CallMeans}
use Rattle.ob_code_scheme.specs.Layout.{encoded}
use Rattle.ob_code_machine.specs.Body.{Run}
use Rattle.ob_laws.specs.Meant.{IsCodeRun, ShowsMeant}
use Rattle.ob_meaning.specs.ByNameObject as Named
use Rattle.ob_object_compile.specs.Asked.{Asked}
use Rattle.ob_object_outcomes.specs.Scripted.{IsScripted, ScriptedParts}
use Rattle.wf_history.specs.declared.event.CallId.{CallId}
use Rattle.wf_outcomes.specs.Merges.{Leads, start, full}
use Rattle.wf_play.specs.Played.{scripts_of}
use Rattle.wf_table.specs.Object.{State}
use Rattle.wf_table.specs.Runs.{submissions}

-- Of the object that is asked for, with the calls of a script: each merge of all calls, by what they mean by name with the budget, from
-- the state with which the object begins, is shown by a run of the object, to which the script's calls are submitted first
abbrev pub OutcomesAreShown : Type 0
OutcomesAreShown =
    (a : Asked) (script : List ℕ) (p : ScriptedParts) (i : IsScripted a script p) (s : State Run) (order : List CallId) (last : Named.State) →
    IsCodeRun p.object.program a.budget a.processes (encoded p.object.opening) (submissions (scripts_of i.calls)) s →
    Leads (CallMeans p.object.program a.budget) p.scripts (start (CallMeans p.object.program a.budget) p.scripts i.compiled.opens.state) order
    (full (CallMeans p.object.program a.budget) p.scripts last) →
    ∥ ShowsMeant p.object.program a.budget a.processes i.compiled.opens.state last (encoded p.object.opening) (submissions (scripts_of i.calls)) s order ∥₁
