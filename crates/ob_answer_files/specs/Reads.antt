-- Reads of files, and answers made of them.
use Rattle.std.specs.Prelude.{◌≡◌, ◌⊎◌, ℕ, List, [], ◌∷◌, suc, take, Option, option_map, option_to_list, Result, Ok, Err}
use Rattle.ob_command.specs.CommandLine.{CallsRequest, RunRequest, Text}
use Rattle.ob_answer_files.specs.declared.answered.Answer.{Answer}
use Rattle.ob_answer_files.specs.declared.files.FileFault.{FileFault}
use Rattle.ob_answer_files.specs.declared.files.FileFault.TheVariants.{Unreadable}
use Rattle.ob_answer_files.specs.declared.file_reading.CallsBytes.{CallsBytes}
use Rattle.ob_answer_files.specs.declared.file_reading.CallsFiles.{CallsFiles}
use Rattle.ob_answer_files.specs.declared.file_reading.CallsFiles.TheVariants as Calls
use Rattle.ob_answer_files.specs.declared.file_reading.RecordFile.{RecordFile}
use Rattle.ob_answer_files.specs.declared.file_reading.RecordFile.TheVariants as Record
use Rattle.ob_answer_files.specs.declared.file_reading.RunBytes.{RunBytes}
use Rattle.ob_answer_files.specs.declared.file_reading.RunFiles.{RunFiles}
use Rattle.ob_answer_files.specs.declared.file_reading.RunFiles.TheVariants as Run
use Rattle.ob_answer_files.specs.declared.file_reading.ThreeFiles.{ThreeFiles}
use Rattle.ob_answer_files.specs.declared.file_reading.ThreeFiles.TheVariants as Three
use Rattle.ob_answer_files.specs.declared.file_reading.TwoFiles.{TwoFiles}
use Rattle.ob_answer_files.specs.declared.file_reading.TwoFiles.TheVariants as Two
use Rattle.ob_answer_files.specs.Printed.{IsUnreadable}
use Rattle.ob_scan.specs.Limits.{longest_text}

-- the bytes of a module that are read: with one more than it may have it is known to be too long
abbrev pub IsBeginning : (part whole : List ℕ) → Type 0
IsBeginning part whole = part ≡ take (suc longest_text) whole

-- what is made of the whole text of a module, of which this was read
abbrev pub OfWhole : (part : List ℕ) → (List ℕ → Answer → Type 0) → Answer → Type 0
OfWhole part IsMade answer = (whole : List ℕ) → IsBeginning part whole → IsMade whole answer

-- ---- the files of a command, in the order of its words; the one of the record with whose values an object begins is the last

abbrev pub files_of_calls : CallsRequest → List Text
files_of_calls calls = calls.module_name ∷ calls.script_name ∷ option_to_list calls.from_name

abbrev pub files_of_run : RunRequest → List Text
files_of_run run = run.calls.module_name ∷ run.calls.script_name ∷ run.schedule_name ∷ option_to_list run.calls.from_name

-- the bytes of that record, where one is named
abbrev pub record_in_calls : CallsBytes → List (List ℕ)
record_in_calls bytes = option_to_list (option_map (λ record_bytes. record_bytes.items) bytes.from)

abbrev pub record_in_run : RunBytes → List (List ℕ)
record_in_run bytes = option_to_list (option_map (λ record_bytes. record_bytes.items) bytes.from)

-- Of a read: the state before, the file's name, what was answered, and the state after.
module _ {F : Type 0} (Reads : F → Text → Result (List ℕ) FileFault → F → Type 0) where
  -- what was read is the beginning, of at most so many bytes, of what a read gives
  abbrev pub ReadsBeginning : F → Text → (most : ℕ) → Result (List ℕ) FileFault → F → Type 0
  ReadsBeginning before name most (Ok bytes) after = (whole : List ℕ) × Reads before name (Ok whole) after × (bytes ≡ take most whole)
  ReadsBeginning before name most (Err fault) after = Reads before name (Err fault) after

  -- The files of these names are read in this order. The first that can't be read is the answer; where all can be, the
  -- answer is made of their bytes.
  abbrev pub IsOutcome : List Text → (List (List ℕ) → Answer → Type 0) → F → Answer → F → Type 0
  IsOutcome [] IsMade before answer after = IsMade [] answer × (after ≡ before)
  IsOutcome (name ∷ names) IsMade before answer after =
      (Reads before name (Err Unreadable) after × IsUnreadable answer name)
      ⊎ ((bytes : List ℕ) × (between : F) × Reads before name (Ok bytes) between
      × IsOutcome names (λ others. IsMade (bytes ∷ others)) between answer after)

  -- one of these files can't be read, and that is the answer
  abbrev pub IsUnread : List Text → F → Answer → F → Type 0
  IsUnread names = IsOutcome names (λ _ _. ⊥)

  -- these files are read in this order, and have these bytes
  abbrev pub AreRead : List Text → F → List (List ℕ) → F → Type 0
  AreRead [] before [] after = after ≡ before
  AreRead [] before (bytes ∷ others) after = ⊥
  AreRead (name ∷ names) before [] after = ⊥
  AreRead (name ∷ names) before (bytes ∷ others) after = (between : F) × Reads before name (Ok bytes) between × AreRead names between others after

  -- the same where of the first, a module's, no more was read than shows that it is too long
  abbrev pub AreReadPart : List Text → F → (part : List ℕ) → (others : List (List ℕ)) → F → Type 0
  AreReadPart names before part others after = (whole : List ℕ) × IsBeginning part whole × AreRead names before (whole ∷ others) after

  -- what was read of two files, of three, of the one of a record, where it is named, and of those of calls and of a run
  abbrev pub AreTwoRead : (module_name second_name : Text) → F → TwoFiles → F → Type 0
  AreTwoRead module_name second_name before (Two.Read part second) after =
      AreReadPart (module_name ∷ second_name ∷ []) before part.items (second.items ∷ []) after
  AreTwoRead module_name second_name before (Two.Unread answer) after = IsUnread (module_name ∷ second_name ∷ []) before answer after

  abbrev pub AreThreeRead : (module_name second_name third_name : Text) → F → ThreeFiles → F → Type 0
  AreThreeRead module_name second_name third_name before (Three.Read part second third) after =
      AreReadPart (module_name ∷ second_name ∷ third_name ∷ []) before part.items (second.items ∷ third.items ∷ []) after
  AreThreeRead module_name second_name third_name before (Three.Unread answer) after =
      IsUnread (module_name ∷ second_name ∷ third_name ∷ []) before answer after

  abbrev pub IsRecordRead : (name : Option Text) → F → RecordFile → F → Type 0
  IsRecordRead name before (Record.Read bytes) after =
      AreRead (option_to_list name) before (option_to_list (option_map (λ record_bytes. record_bytes.items) bytes)) after
  IsRecordRead name before (Record.Unread answer) after = IsUnread (option_to_list name) before answer after

  abbrev pub AreCallsRead : CallsRequest → F → CallsFiles → F → Type 0
  AreCallsRead calls before (Calls.Read bytes) after =
      AreReadPart (files_of_calls calls) before bytes.text.items (bytes.script.items ∷ record_in_calls bytes) after
  AreCallsRead calls before (Calls.Unread answer) after = IsUnread (files_of_calls calls) before answer after

  abbrev pub IsRunRead : RunRequest → F → RunFiles → F → Type 0
  IsRunRead run before (Run.Read bytes) after =
      AreReadPart (files_of_run run) before bytes.text.items (bytes.script.items ∷ bytes.schedule.items ∷ record_in_run bytes) after
  IsRunRead run before (Run.Unread answer) after = IsUnread (files_of_run run) before answer after
