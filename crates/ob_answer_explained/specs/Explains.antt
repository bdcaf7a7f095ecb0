-- What `explain` answers: a fault as people read it.
use Rattle.std.specs.Prelude.{ℕ, Bool, true, false, List, Option, None, Some, ◌++◌, codes, unwrap_or}
use Rattle.ob_answer_files.specs.declared.answered.Answer.{Answer}
use Rattle.ob_answer_explained.specs.CommandTexts.{CallsTexts, RunTexts, record_file, source}
use Rattle.ob_answer_files.specs.Printed.{IsPrinted, IsRefused}
use Rattle.ob_answer_explained.specs.Refusals.{RefusesCalls, RefusesObject, RefusesRecord, RefusesRun}
use Rattle.ob_answer_files.specs.ShownNames.{shown}
use Rattle.ob_carry.specs.declared.carrying.CarryFault.{CarryFault}
use Rattle.ob_command.specs.CommandLine.{Text}
use Rattle.ob_explained.specs.Explained.{IsCallsExplanation, IsModuleExplanation}
use Rattle.ob_explained.specs.ExplainedValues.{IsCarryExplanation, IsValuesExplanation}
use Rattle.ob_explained_records.specs.ExplainedRecords.{IsRecordExplanation}
use Rattle.ob_explained.specs.ExplainedRuns.{IsRunExplanation}
use Rattle.ob_explained.specs.Sources.{Source}
use Rattle.ob_explained_traps.specs.RecordTraps.{IsRecordTrapsText}
use Rattle.ob_explained_traps.specs.ScriptTraps.{IsTrapsText}
use Rattle.ob_fault_lines.specs.RunFaultLines.{run_fault_line}
use Rattle.ob_fault_lines.specs.ValuesFaultLines.{values_fault_line}
use Rattle.ob_fault_lines.specs.VerifyFaultLines.{verify_fault_line}
use Rattle.ob_fault_lines.specs.CompileFaultLines.{compile_line}
use Rattle.ob_fault_lines.specs.SequentialFaultLines.{seq_fault_line}
use Rattle.ob_object_compile.specs.Asked.{Asked, ByBody, by_body}
use Rattle.ob_object_compile.specs.Compilation.{default_budget}
use Rattle.ob_object_compile.specs.declared.compiling.CompileFault.{CompileFault}
use Rattle.ob_object_compile.specs.declared.compiling.CompileFault.TheVariants as Compile
use Rattle.ob_object_perform.specs.Printed.{HasPerformance}
use Rattle.ob_object_perform.specs.declared.performing.PerformFault.{PerformFault}
use Rattle.ob_object_perform.specs.declared.performing.PerformFault.TheVariants as Performs
use Rattle.ob_object_calls.specs.SequentialRun.{HasObject, IsSequentialRun}
use Rattle.ob_object_calls.specs.declared.sequential.SeqTextFault.{SeqTextFault}
use Rattle.ob_object_calls.specs.declared.sequential.SeqTextFault.TheVariants as Sequences
use Rattle.ob_object_calls.specs.Verified.{IsVerified}
use Rattle.ob_object_calls.specs.declared.verifying.VerifyFault.{VerifyFault}
use Rattle.ob_text_values_reading.specs.declared.value_reading.ValuesFault.{ValuesFault}

-- Where the files are right, `ok` is printed; else a fault by which they are refused is shown.
pub data IsExplained {Fault : Type 0} (IsRight : Type 0) (Refuses : Fault → Type 0) (IsShown : Fault → Answer → Type 0) (answer : Answer) : Type 0 where
  right : IsRight → IsPrinted answer (codes "ok\n") → IsExplained IsRight Refuses IsShown answer
  wrong : (e : Fault) → Refuses e → IsShown e answer → IsExplained IsRight Refuses IsShown answer

-- what is shown, or else a line
abbrev pub IsShownOr : (line : Text) → (told : Option Text) → Answer → Type 0
IsShownOr line told answer = IsRefused answer 1 (unwrap_or told (line ++ codes "\n"))

-- ---- the record with whose values an object begins

-- why it tells no values: by a line, or shown at its place in the record
abbrev pub IsValuesFaultTold : (is_shown : Bool) → (record_file : Source) → ValuesFault → Answer → Type 0
IsValuesFaultTold false record_file e answer = IsRefused answer 1 (values_fault_line e ++ codes "\n")
IsValuesFaultTold true record_file e answer =
    (told : Option Text) × IsValuesExplanation record_file e told × IsShownOr (values_fault_line e) told answer

-- a fault of such values
abbrev pub carry_fault_in : CompileFault → Option CarryFault
carry_fault_in (Compile.Carry e) = Some e
carry_fault_in _ = None

abbrev pub carry_fault_of_calls : SeqTextFault → Option CarryFault
carry_fault_of_calls (Sequences.Compile e) = carry_fault_in e
carry_fault_of_calls _ = None

abbrev pub carry_fault_of_run : PerformFault → Option CarryFault
carry_fault_of_run (Performs.Compile e) = carry_fault_in e
carry_fault_of_run _ = None

-- a fault of such values is shown at its place in the record, and each other one in the texts
abbrev pub IsExplanationOf : Option CarryFault → (record_file : Source) → (IsOfTexts : Option Text → Type 0) → (told : Option Text) → Type 0
IsExplanationOf (Some e) record_file IsOfTexts told = IsCarryExplanation record_file e told
IsExplanationOf None record_file IsOfTexts told = IsOfTexts told

-- ---- a module

-- a fault of a module: the place in its file where it has one, and else the line by which `check` tells it
abbrev pub IsModuleFaultShown : (name : Text) (bytes : List ℕ) → CompileFault → Answer → Type 0
IsModuleFaultShown name bytes e answer =
    (told : Option Text) × IsModuleExplanation (shown name) bytes e told × IsShownOr (compile_line ByBody e) told answer

-- to the name and the bytes of one module, which is right where `check` prints `ok`
abbrev pub IsModuleExplained : (name : Text) (bytes : List ℕ) → Answer → Type 0
IsModuleExplained name bytes =
    IsExplained (HasObject (by_body bytes 1 default_budget)) (RefusesObject (by_body bytes 1 default_budget)) (IsModuleFaultShown name bytes)

-- ---- calls made one at a time

-- what is told of a fault of calls in their texts, with the names by which their files are shown
abbrev pub IsOfCallsTexts : CallsTexts → SeqTextFault → Option Text → Type 0
IsOfCallsTexts t e told =
    IsCallsExplanation (shown t.calls.module_name) t.asked.text (shown t.calls.script_name) t.script t.asked.budget e told

-- the place in the file of the module, of the script or of the record
abbrev pub IsCallsTold : CallsTexts → SeqTextFault → Option Text → Type 0
IsCallsTold t e told = IsExplanationOf (carry_fault_of_calls e) (record_file t.calls t.record_text) (IsOfCallsTexts t e) told

-- or else the line by which `seq` tells the fault
abbrev pub IsCallsFaultShown : CallsTexts → SeqTextFault → Answer → Type 0
IsCallsFaultShown t e answer = (told : Option Text) × IsCallsTold t e told × IsShownOr (seq_fault_line t.asked.beginning e) told answer

-- the calls of a script have replies
abbrev pub HasRun : Asked → (script : List ℕ) → Type 0
HasRun a script = (output : List ℕ) × IsSequentialRun a script output

-- to the texts of calls, which are right where `seq` prints replies
abbrev pub IsCallsExplained : CallsTexts → Answer → Type 0
IsCallsExplained t = IsExplained (HasRun t.asked t.script) (RefusesCalls t.asked t.script) (IsCallsFaultShown t)

-- what is told of the calls that trap
abbrev pub TellsTraps : CallsTexts → Text → Type 0
TellsTraps t text = IsTrapsText (shown t.calls.module_name) t.asked (source t.calls.script_name t.script) text

-- To the texts of calls: what is told of those that trap; else a fault by which the calls are refused is shown.
pub data AreTrapsExplained (t : CallsTexts) (answer : Answer) : Type 0 where
  traps_told : (text : Text) → TellsTraps t text → IsPrinted answer text → AreTrapsExplained t answer
  traps_untold : (e : SeqTextFault) → RefusesCalls t.asked t.script e → IsCallsFaultShown t e answer → AreTrapsExplained t answer

-- ---- a run

-- what is told of a fault of a run in its texts, with the names by which their files are shown
abbrev pub IsOfRunTexts : RunTexts → PerformFault → Option Text → Type 0
IsOfRunTexts t e told =
    IsRunExplanation (source t.run.calls.module_name t.texts.asked.text) (source t.run.calls.script_name t.texts.scripts)
    (source t.run.schedule_name t.texts.schedule) t.texts.asked.processes t.texts.asked.budget e told

-- the place in the file of the module, of the script, of the schedule or of the record
abbrev pub IsRunTold : RunTexts → PerformFault → Option Text → Type 0
IsRunTold t e told = IsExplanationOf (carry_fault_of_run e) (record_file t.run.calls t.record_text) (IsOfRunTexts t e) told

-- or else the line by which `run` tells the fault
abbrev pub IsRunFaultShown : RunTexts → PerformFault → Answer → Type 0
IsRunFaultShown t e answer = (told : Option Text) × IsRunTold t e told × IsShownOr (run_fault_line t.texts.asked.beginning e) told answer

-- to the texts of a run, which are right where `run` prints a record
abbrev pub IsRunExplained : RunTexts → Answer → Type 0
IsRunExplained t = IsExplained (HasPerformance t.texts) (RefusesRun t.texts) (IsRunFaultShown t)

-- ---- a record

-- a fault of a record: the place in its file or in the module's, and else the line by which `verify` tells it
abbrev pub IsRecordFaultShown : (module_name : Text) (module_bytes : List ℕ) (record_name : Text) (record_bytes : List ℕ) → VerifyFault → Answer → Type 0
IsRecordFaultShown module_name module_bytes record_name record_bytes e answer =
    (told : Option Text) × IsRecordExplanation (source module_name module_bytes) (source record_name record_bytes) e told
    × IsShownOr (verify_fault_line e) told answer

-- to the names and the bytes of a module and of a record, which are right where `verify` prints `ok`
abbrev pub IsRecordExplained : (module_name : Text) (module_bytes : List ℕ) (record_name : Text) (record_bytes : List ℕ) → Answer → Type 0
IsRecordExplained module_name module_bytes record_name record_bytes =
    IsExplained (IsVerified module_bytes record_bytes) (RefusesRecord module_bytes record_bytes)
    (IsRecordFaultShown module_name module_bytes record_name record_bytes)

-- what is told of the calls of a record that trap is printed
abbrev pub TellsRecordTraps : (module_name : Text) (module_bytes record_bytes : List ℕ) → Answer → Type 0
TellsRecordTraps module_name module_bytes record_bytes answer =
    (text : Text) × IsRecordTrapsText (source module_name module_bytes) record_bytes text × IsPrinted answer text

-- To the names and the bytes of a module and of a record: where its order is legal, what is told of its calls that trap; else a fault by
-- which the record is refused is shown.
pub data AreRecordTrapsExplained (module_name : Text) (module_bytes : List ℕ) (record_name : Text) (record_bytes : List ℕ) (answer : Answer) : Type 0 where
  record_traps_told : IsVerified module_bytes record_bytes → TellsRecordTraps module_name module_bytes record_bytes answer
      → AreRecordTrapsExplained module_name module_bytes record_name record_bytes answer
  record_traps_untold : (e : VerifyFault) → RefusesRecord module_bytes record_bytes e → IsRecordFaultShown module_name module_bytes record_name record_bytes e answer
      → AreRecordTrapsExplained module_name module_bytes record_name record_bytes answer
