-- What the program answers to `live`, by what reads of files give and by what is heard and told.
use Rattle.std.specs.Prelude.{◌≡◌, ℕ, false, List, [], ◌∷◌, MatchBool, Result, option_to_list}
use Rattle.ob_answer.specs.Answers.{input_twice_text, reads_input_twice}
use Rattle.ob_answer_explained.specs.Beginnings.{WithBeginning}
use Rattle.ob_answer_explained.specs.CommandTexts.{asked_by, first_or_none, record_file}
use Rattle.ob_answer_explained.specs.Explains.{IsValuesFaultTold}
use Rattle.ob_answer_explained.specs.Refusals.{RefusesObject}
use Rattle.ob_answer_files.specs.Printed.{IsRefused, IsTextAnswer}
use Rattle.ob_answer_files.specs.Reads.{AreReadPart, IsOutcome, IsUnread, files_of_calls, record_in_calls}
use Rattle.ob_answer_files.specs.declared.answered.Answer.{Answer}
use Rattle.ob_answer_files.specs.declared.files.FileFault.{FileFault}
use Rattle.ob_answer_files.specs.declared.file_reading.CallsBytes.{CallsBytes}
use Rattle.ob_answer_files.specs.declared.file_reading.CallsFiles.{CallsFiles}
use Rattle.ob_answer_files.specs.declared.file_reading.CallsFiles.TheVariants.{Read, Unread}
use Rattle.ob_command.specs.CommandLine.{CallsRequest, Text}
use Rattle.ob_command.specs.Commands.{calls_request_of}
use Rattle.ob_command.specs.declared.command.CallsCommand.{CallsCommand}
use Rattle.ob_fault_lines.specs.CompileFaultLines.{compile_line}
use Rattle.ob_object_compile.specs.Asked.{Asked}
use Rattle.ob_object_live.specs.LiveRuns.{IsLiveRun}

-- the files, in the order of the words; that of the record is the last
abbrev pub files_of_live : CallsRequest → List Text
files_of_live calls = calls.module_name ∷ option_to_list calls.from_name

-- Of a conversation: what is heard and told, and the states between which the answer is made.
module _ {C : Type 0} (Hears Tells : C → List ℕ → C → Type 0) (start end : C) where
  -- where there is an object, each line that came was answered, and nothing is left to print
  abbrev pub SaysLive : Asked → Text → Type 0
  SaysLive a text = (text ≡ []) × IsLiveRun Hears Tells a start end

  abbrev pub IsLiveAnswer : Asked → Answer → Type 0
  IsLiveAnswer a = IsTextAnswer (SaysLive a) (RefusesObject a) (compile_line a.beginning)

  -- the answer that is made of the bytes of the files
  abbrev pub IsLiveMade : CallsRequest → List (List ℕ) → Answer → Type 0
  IsLiveMade calls (module_bytes ∷ record_bytes) answer =
      WithBeginning record_bytes (IsValuesFaultTold false (record_file calls (first_or_none record_bytes)))
      (λ beginning. IsLiveAnswer (asked_by calls module_bytes beginning)) answer
  IsLiveMade calls [] answer = ⊥

  -- the same of the bytes that were read, with the whole text of the module
  abbrev pub IsMadeOfLive : CallsCommand → CallsBytes → (whole : List ℕ) → Answer → Type 0
  IsMadeOfLive calls bytes whole = IsLiveMade (calls_request_of calls) (whole ∷ record_in_calls bytes)

module _ {F C : Type 0} (Reads : F → Text → Result (List ℕ) FileFault → F → Type 0) (Hears Tells : C → List ℕ → C → Type 0) (start end : C) where
  -- the outcome of the files
  abbrev pub IsLiveObeyed : CallsRequest → F → Answer → F → Type 0
  IsLiveObeyed calls = IsOutcome Reads (files_of_live calls) (IsLiveMade Hears Tells start end calls)

  -- the answer to words that ask for it: where they name standard input for a file too, they are a mistake, and nothing is read
  abbrev pub IsLiveAnswerTo : CallsRequest → F → Answer → F → Type 0
  IsLiveAnswerTo calls before answer after =
      MatchBool (reads_input_twice (files_of_calls calls)) (IsRefused answer 2 input_twice_text × (after ≡ before)) (IsLiveObeyed calls before answer after)

module _ {F : Type 0} (Reads : F → Text → Result (List ℕ) FileFault → F → Type 0) where
  -- what was read of the files; there is no script
  abbrev pub AreLiveRead : CallsRequest → F → CallsFiles → F → Type 0
  AreLiveRead calls before (Read bytes) after = AreReadPart Reads (files_of_live calls) before bytes.text.items (record_in_calls bytes) after
  AreLiveRead calls before (Unread answer) after = IsUnread Reads (files_of_live calls) before answer after

  -- the same where no record is named
  abbrev pub IsModuleRead : (module_name : Text) → F → CallsFiles → F → Type 0
  IsModuleRead module_name before (Read bytes) after = AreReadPart Reads (module_name ∷ []) before bytes.text.items (record_in_calls bytes) after
  IsModuleRead module_name before (Unread answer) after = IsUnread Reads (module_name ∷ []) before answer after
