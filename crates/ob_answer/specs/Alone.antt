-- What comes of words where no thread is started: an answer, but of `serve`.
use Rattle.std.specs.Prelude.{◌≡◌, ℕ, List, Result, false, string_bytes}
use Rattle.ob_answer.specs.Answers.{IsAnswer, IsAnswerTo, files_of, reads_input_twice, version_text}
use Rattle.ob_answer.specs.declared.answer.Alone.{Alone}
use Rattle.ob_answer.specs.declared.answer.Alone.TheVariants as Alones
use Rattle.ob_answer_files.specs.Printed.{IsPrinted, IsRefused}
use Rattle.ob_answer_files.specs.declared.answered.Answer.{Answer}
use Rattle.ob_answer_files.specs.declared.files.FileFault.{FileFault}
use Rattle.ob_command.specs.CommandLine.{Request, Text, Serve, request}
use Rattle.ob_command.specs.Commands.{calls_request_of}
use Rattle.ob_command.specs.declared.command.CallsCommand.{CallsCommand}
use Rattle.ob_command.specs.declared.command.Stop.{Stop}
use Rattle.ob_command.specs.declared.command.Stop.TheVariants as stops

-- a request that is not `serve`
abbrev pub IsNotServe : Request → Type 0
IsNotServe (Serve calls) = ⊥
IsNotServe _ = Unit {0}

-- a request is `serve`, of these calls, and its words are no mistake
abbrev pub AsksToServe : Request → CallsCommand → Type 0
AsksToServe request calls = (request ≡ Serve (calls_request_of calls)) × (reads_input_twice (files_of request) ≡ false)

-- the answer to words that ask for no command: the help or the version, or what is wrong with them
abbrev pub IsStopAnswer : Stop → Answer → Type 0
IsStopAnswer (stops.Help text) answer = IsPrinted answer (string_bytes text)
IsStopAnswer stops.Version answer = IsPrinted answer version_text
IsStopAnswer (stops.Unclear text) answer = IsRefused answer 2 (string_bytes text)
IsStopAnswer stops.NoMemory answer = ⊥

module _ {F : Type 0} (Reads : F → Text → Result (List ℕ) FileFault → F → Type 0) where
  -- what comes of a request: its answer, or its calls, where it is `serve`, with no file read
  abbrev pub IsAloneTo : Request → F → Alone → F → Type 0
  IsAloneTo request before (Alones.Answered answer) after = IsAnswerTo Reads request before answer after
  IsAloneTo request before (Alones.Serves calls) after = AsksToServe request calls × (after ≡ before)

  -- the same of words
  abbrev pub IsAlone : (words : List Text) → F → Alone → F → Type 0
  IsAlone words before (Alones.Answered answer) after = IsAnswer Reads words before answer after
  IsAlone words before (Alones.Serves calls) after = AsksToServe (request words) calls × (after ≡ before)
