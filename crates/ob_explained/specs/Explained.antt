-- What is shown of a fault that has a place in a text.
use Rattle.std.specs.Prelude.{◌≡◌, ℕ, List, ◌++◌, Option, None, Some, option_map}
use Rattle.ob_scan.specs.declared.fault.ScanFault.TheVariants as Scan
use Rattle.ob_explain_sentences.specs.Explanations.{explanation}
use Rattle.ob_explain_sentences.specs.Remarks.{Remark}
use Rattle.ob_explained.specs.NumberFaults.{budget_explanation, long_code_explanation, long_text_explanation, processes_explanation}
use Rattle.ob_explained.specs.CallRemarks.{IsScriptRemark}
use Rattle.ob_check.specs.declared.module_text.TextFault.{TextFault}
use Rattle.ob_check.specs.declared.module_text.TextFault.TheVariants as Texts
use Rattle.ob_slips.specs.Behind.{IsTold, own_stage}
use Rattle.ob_slips.specs.Remarks.{IsTextRemark}
use Rattle.ob_object_compile.specs.declared.compiling.CompileFault.{CompileFault}
use Rattle.ob_object_compile.specs.declared.compiling.CompileFault.TheVariants as Modules
use Rattle.ob_object_calls.specs.declared.sequential.SeqTextFault.{SeqTextFault}
use Rattle.ob_object_calls.specs.declared.sequential.SeqTextFault.TheVariants as Runs
use Rattle.ob_text_scripts.specs.declared.script.ScriptFault.{ScriptFault}
use Rattle.ob_explained.specs.Openings.{IsOpenExplanation}

-- What is shown of a remark on a fault of the text of this name: the fault at its place, as by itself, and what is told behind it where
-- it comes of a slip. Of none nothing is shown.
abbrev pub IsShownRemark : (name text : List ℕ) → Option Remark → Option (List ℕ) → Type 0
IsShownRemark name text None shown = shown ≡ None
IsShownRemark name text (Some remark) shown =
    (behind : List ℕ) × IsTold (own_stage name text) behind × (shown ≡ Some (explanation name text remark ++ behind))

-- at its place in the text of this name
pub record IsPlacedExplanation (name text : List ℕ) (fault : TextFault) (shown : Option (List ℕ)) : Type 0 where
  pub remark : Option Remark
  pub remarked : IsTextRemark text fault remark
  pub shows : IsShownRemark name text remark shown

-- of the text of this name; that it is too long is told without a place
abbrev pub IsTextExplanation : (name text : List ℕ) → TextFault → Option (List ℕ) → Type 0
IsTextExplanation name text (Texts.Scan Scan.TooLong) shown = shown ≡ Some long_text_explanation
IsTextExplanation name text fault shown = IsPlacedExplanation name text fault shown

-- of a script of this name, for the exports of a module's text
pub record IsScriptExplanation (text name script : List ℕ) (fault : ScriptFault) (shown : Option (List ℕ)) : Type 0 where
  pub remark : Option Remark
  pub remarked : IsScriptRemark text script fault remark
  pub shows : shown ≡ option_map (explanation name script) remark

-- of a module by itself; that its code is too long is told without a place, and of its opening the operation that traps
abbrev pub IsModuleExplanation : (name text : List ℕ) → CompileFault → Option (List ℕ) → Type 0
IsModuleExplanation name text (Modules.Text e) shown = IsTextExplanation name text e shown
IsModuleExplanation name text (Modules.Open e) shown = IsOpenExplanation name text e shown
IsModuleExplanation name text Modules.TooLong shown = shown ≡ Some long_code_explanation
IsModuleExplanation name text _ shown = shown ≡ None

-- of a module that so many processes share, each of whose calls has a budget: of a number that may not be which it may
abbrev pub IsObjectExplanation : (name text : List ℕ) (processes budget : ℕ) → CompileFault → Option (List ℕ) → Type 0
IsObjectExplanation name text processes budget Modules.Processes shown = shown ≡ Some (processes_explanation processes)
IsObjectExplanation name text processes budget Modules.Budget shown = shown ≡ Some (budget_explanation budget)
IsObjectExplanation name text processes budget fault shown = IsModuleExplanation name text fault shown

-- Of a module and a script, whose calls have a budget each: the fault of the one stands in the one, and that of the other in the
-- other. There is one process at a time.
abbrev pub IsCallsExplanation : (module_name text script_name script : List ℕ) (budget : ℕ) → SeqTextFault → Option (List ℕ) → Type 0
IsCallsExplanation module_name text script_name script budget (Runs.Compile e) shown = IsObjectExplanation module_name text 1 budget e shown
IsCallsExplanation module_name text script_name script budget (Runs.Script e) shown = IsScriptExplanation text script_name script e shown
IsCallsExplanation module_name text script_name script budget Runs.NoMemory shown = shown ≡ None
