-- Commands on calls and on runs, with the texts of their files and the object that is asked for.
use Rattle.std.specs.Prelude.{ℕ, List, [], ◌∷◌, Option, unwrap_or}
use Rattle.ob_answer_files.specs.Reads.{record_in_calls, record_in_run}
use Rattle.ob_answer_files.specs.ShownNames.{shown}
use Rattle.ob_answer_files.specs.declared.file_reading.CallsBytes.{CallsBytes}
use Rattle.ob_answer_files.specs.declared.file_reading.RunBytes.{RunBytes}
use Rattle.ob_answer_explained.specs.declared.asked_texts.Calls.{Calls}
use Rattle.ob_answer_explained.specs.declared.asked_texts.Run.{Run}
use Rattle.ob_command.specs.CommandLine.{CallsRequest, RunRequest, Text}
use Rattle.ob_command.specs.Commands.{calls_request_of, run_request_of}
use Rattle.ob_command.specs.declared.command.CallsCommand.{CallsCommand}
use Rattle.ob_command.specs.declared.command.RunCommand.{RunCommand}
use Rattle.ob_explained.specs.Sources.{Source}
use Rattle.ob_object_compile.specs.Asked.{Asked, Beginning}
use Rattle.ob_object_compile.specs.View.{asked_of}
use Rattle.ob_object_perform.specs.Texts.{Texts, run_texts, texts_of}

-- what is asked for of another text, and the texts of a run with another one of the module
abbrev pub of_text : Asked → List ℕ → Asked
of_text a text = record { text = text; processes = a.processes; budget = a.budget; beginning = a.beginning }

abbrev pub texts_of_text : Texts → List ℕ → Texts
texts_of_text t text = record { asked = of_text t.asked text; scripts = t.scripts; schedule = t.schedule }

-- a command on calls, the object that is asked for, and the texts of the script and of the record with whose values it begins, which is
-- empty where none is named
pub record CallsTexts : Type 0 where
  pub calls : CallsRequest
  pub asked : Asked
  pub script : List ℕ
  pub record_text : List ℕ

-- a command on a run, with its texts
pub record RunTexts : Type 0 where
  pub run : RunRequest
  pub texts : Texts
  pub record_text : List ℕ

abbrev pub calls_of_text : CallsTexts → List ℕ → CallsTexts
calls_of_text t text = record { calls = t.calls; asked = of_text t.asked text; script = t.script; record_text = t.record_text }

abbrev pub run_of_text : RunTexts → List ℕ → RunTexts
run_of_text t text = record { run = t.run; texts = texts_of_text t.texts text; record_text = t.record_text }

-- ---- of the bytes of the files of a command

abbrev pub first_or_none : List (List ℕ) → List ℕ
first_or_none [] = []
first_or_none (bytes ∷ others) = bytes

-- the object that a command asks for, of a module's bytes and how it begins
abbrev pub asked_by : CallsRequest → (module_bytes : List ℕ) → Beginning → Asked
asked_by calls module_bytes beginning = record { text = module_bytes; processes = calls.processes; budget = calls.budget; beginning = beginning }

abbrev pub calls_texts : CallsRequest → (module_bytes script_bytes : List ℕ) → (record_bytes : List (List ℕ)) → Beginning → CallsTexts
calls_texts calls module_bytes script_bytes record_bytes beginning = record {
  calls = calls;
  asked = asked_by calls module_bytes beginning;
  script = script_bytes;
  record_text = first_or_none record_bytes;
}

abbrev pub run_texts_by : RunRequest → (module_bytes script_bytes schedule_bytes : List ℕ) → (record_bytes : List (List ℕ)) → Beginning → RunTexts
run_texts_by run module_bytes script_bytes schedule_bytes record_bytes beginning = record {
  run = run;
  texts = run_texts (asked_by run.calls module_bytes beginning) script_bytes schedule_bytes;
  record_text = first_or_none record_bytes;
}

-- ---- as the code has them

abbrev pub calls_texts_of : Calls → CallsTexts
calls_texts_of t = record {
  calls = calls_request_of t.command;
  asked = asked_of t.asked;
  script = t.script.now;
  record_text = t.record_text.now;
}

abbrev pub run_texts_of : Run → RunTexts
run_texts_of t = record { run = run_request_of t.command; texts = texts_of t.texts; record_text = t.record_text.now }

-- of the bytes of its files, and of how the object begins
abbrev pub calls_begun_with : CallsCommand → CallsBytes → Beginning → CallsTexts
calls_begun_with command bytes beginning =
    calls_texts (calls_request_of command) bytes.text.items bytes.script.items (record_in_calls bytes) beginning

abbrev pub run_begun_with : RunCommand → RunBytes → Beginning → RunTexts
run_begun_with command bytes beginning =
    run_texts_by (run_request_of command) bytes.text.items bytes.script.items bytes.schedule.items (record_in_run bytes) beginning

-- ---- texts with the names by which their files are shown

abbrev pub source : (name : Text) (bytes : List ℕ) → Source
source name bytes = record { name = shown name; text = bytes }

-- of a file that may have no name
abbrev pub named_source : (name : Option Text) (bytes : List ℕ) → Source
named_source name bytes = source (unwrap_or name []) bytes

-- the file of the record
abbrev pub record_file : CallsRequest → (record_text : List ℕ) → Source
record_file calls record_text = named_source calls.from_name record_text
