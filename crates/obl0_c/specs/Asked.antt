-- What is answered to words and files that are handed in.
use Rattle.std.specs.Prelude.{◌≡◌, ℕ, List, Option, None, Some, All, IsUtf8, codes}
use Rattle.ob_answer.specs.Alone.{AsksToServe}
use Rattle.ob_answer.specs.Answers.{IsAnswer}
use Rattle.ob_answer_files.specs.Printed.{IsRefused}
use Rattle.ob_answer_files.specs.Reads.{IsBeginning}
use Rattle.ob_answer_files.specs.declared.answered.Answer.{Answer}
use Rattle.ob_command.specs.CommandLine.{Text, request}
use Rattle.ob_command.specs.declared.command.CallsCommand.{CallsCommand}
use Rattle.ob_answer_files.specs.Files.{IsGivenRead, texts_of}
use Rattle.ob_answer_files.specs.Texts.{AreTexts}
use Rattle.ob_answer_files.specs.declared.handed_files.GivenFiles.{GivenFiles}
use Rattle.ob_object_compile.specs.Asked.{Asked, by_body}

-- the name of a module whose text is handed in
abbrev pub module_name : Text
module_name = codes "module"

-- what is said of lengths that are not those of the bytes, of words that are not UTF-8, and of `serve`
abbrev pub no_texts : Text
no_texts = codes "the lengths are not those of the bytes\n"

abbrev pub no_words : Text
no_words = codes "the words are not UTF-8\n"

abbrev pub no_threads : Text
no_threads = codes "`serve` starts threads, which this library does not\n"

-- the words of texts, or that one of them is not UTF-8
abbrev pub AreUtf8 : List Text → Type 0
AreUtf8 = All IsUtf8

abbrev pub AreWordsIn : (texts : List Text) → Option (List Text) → Type 0
AreWordsIn texts (Some words) = words ≡ texts
AreWordsIn texts None = AreUtf8 texts → ⊥

-- To words, of files that are at hand as names and what they hold, in turn: what the program answers to them where files hold this; of
-- `serve`, that there are no threads.
pub data IsWordsAnswer (words : List Text) (files : List (List ℕ)) (answer : Answer) : Type 0 where
  answered : (before after : GivenFiles) → texts_of before ≡ files → IsAnswer IsGivenRead words before answer after → IsWordsAnswer words files answer
  serves : (calls : CallsCommand) → AsksToServe (request words) calls → IsRefused answer 2 no_threads → IsWordsAnswer words files answer

-- to texts as words: where one is not UTF-8, this is said
pub data IsTextsAnswer (words : List Text) (files : List (List ℕ)) (answer : Answer) : Type 0 where
  asked : IsWordsAnswer words files answer → IsTextsAnswer words files answer
  unread : (AreUtf8 words → ⊥) → IsRefused answer 2 no_words → IsTextsAnswer words files answer

-- to the bytes and lengths of words and of files: where there are none of these lengths, this is said
pub data IsJoinedAnswer (words word_lengths files file_lengths : List ℕ) (answer : Answer) : Type 0 where
  apart : (word_texts file_texts : List (List ℕ)) → AreTexts words word_lengths word_texts → AreTexts files file_lengths file_texts
      → IsTextsAnswer word_texts file_texts answer → IsJoinedAnswer words word_lengths files file_lengths answer
  words_cut : ((texts : List (List ℕ)) → AreTexts words word_lengths texts → ⊥) → IsRefused answer 2 no_texts
      → IsJoinedAnswer words word_lengths files file_lengths answer
  files_cut : ((texts : List (List ℕ)) → AreTexts files file_lengths texts → ⊥) → IsRefused answer 2 no_texts
      → IsJoinedAnswer words word_lengths files file_lengths answer

-- an object is asked for that begins by its module's body, of the beginning of the module's text
pub record IsObjectOf (module_bytes : List ℕ) (processes budget : ℕ) (asked : Asked) : Type 0 where
  pub is : asked ≡ by_body asked.text processes budget
  pub beginning : IsBeginning asked.text module_bytes
