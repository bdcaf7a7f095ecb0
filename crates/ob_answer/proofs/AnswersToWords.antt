-- Answers to words, by how they are read.
use Rattle.std.proofs.Common.{◌≡◌, ◌∙◌, ℕ, false, List, Option, None, Some, Result, Err, Global, String, string_bytes, subst, sym}
use Rattle.ob_answer.specs.Alone.{AsksToServe, IsStopAnswer}
use Rattle.ob_answer.specs.Answers.{IsAnswer, IsAnswerTo, IsObeyed, IsServeObeyed, files_of, reads_input_twice}
use Rattle.ob_answer_files.specs.Printed.{IsRefused}
use Rattle.ob_answer_files.specs.declared.answered.Answer.{Answer}
use Rattle.ob_answer_files.specs.declared.files.FileFault.{FileFault}
use Rattle.ob_command.specs.CommandLine.{Request, Text, Unclear, request}
use Rattle.ob_command_line.specs.HelpWords.{extra_of_help}
use Rattle.ob_command.specs.Commands.{IsMistakeBeside, IsMistakeOf, IsReading, IsTextBeside, calls_request_of}
use Rattle.ob_command.specs.declared.command.CallsCommand.{CallsCommand}
use Rattle.ob_command.specs.declared.command.Command.{Command}
use Rattle.ob_command.specs.declared.command.Stop.{Stop}
use Rattle.ob_command.specs.declared.command.Stop.TheVariants as stops

-- what is said of a mistake
says_beside : (extra : Option Text) (words : List Text) (said : String Global) → IsMistakeBeside extra words (Err (stops.Unclear said))
    → IsTextBeside extra words (string_bytes said)
says_beside None words said h = h
says_beside (Some word) words said h = h

module _ {F : Type 0} (Reads : F → Text → Result (List ℕ) FileFault → F → Type 0) (words : List Text) (before after : F) (answer : Answer) where
  pub mistake_told : (said : String Global) → request words ≡ Unclear → IsMistakeOf words (Err (stops.Unclear said)) → IsRefused answer 2 (string_bytes said)
      → after ≡ before → IsAnswer Reads words before answer after
  mistake_told said is mistake told same = (
    subst (λ (r : Request). IsAnswerTo Reads r before answer after) (sym is) ((string_bytes said, told), same),
    λ _. (string_bytes said, says_beside (extra_of_help words) words said mistake, told),
  )

  stop_told : (stop : Stop) → IsReading (request words) (Err stop) → IsMistakeOf words (Err stop) → IsStopAnswer stop answer → after ≡ before
      → IsAnswer Reads words before answer after
  stop_told (stops.Help text) is mistake told same = (
    subst (λ (r : Request). IsAnswerTo Reads r before answer after) (sym is) ((string_bytes text, told), same),
    λ unclear. let bad = sym is ∙ unclear in cc,
  )
  stop_told stops.Version is mistake told same = (
    subst (λ (r : Request). IsAnswerTo Reads r before answer after) (sym is) (told, same),
    λ unclear. let bad = sym is ∙ unclear in cc,
  )
  stop_told (stops.Unclear said) is mistake told same = mistake_told said is mistake told same
  stop_told stops.NoMemory is mistake told same = absurd told

  -- of words that ask for no command
  pub stopped : (result : Result Command Stop) (stop : Stop) → result ≡ Err stop → IsReading (request words) result → IsMistakeOf words result
      → IsStopAnswer stop answer → after ≡ before → IsAnswer Reads words before answer after
  stopped result stop is reading mistake told same =
      stop_told stop (subst (λ (r : Result Command Stop). IsReading (request words) r) is reading)
      (subst (λ (r : Result Command Stop). IsMistakeOf words r) is mistake) told same

  not_twice : (r : Request) → reads_input_twice (files_of r) ≡ false → IsObeyed Reads r before answer after → IsAnswerTo Reads r before answer after
  not_twice r is obeyed = rw is obeyed

  -- of words that ask for `serve`
  pub served_told : (calls : CallsCommand) (between : F) → AsksToServe (request words) calls → between ≡ before
      → IsServeObeyed Reads (calls_request_of calls) between answer after → IsAnswer Reads words before answer after
  served_told calls between asks same obeyed = (
    not_twice (request words) asks.1
        (subst (λ (f : F). IsObeyed Reads (request words) f answer after) same
        (subst (λ (r : Request). IsObeyed Reads r between answer after) (sym asks.0) obeyed)),
    λ unclear. let bad = sym asks.0 ∙ unclear in cc,
  )
