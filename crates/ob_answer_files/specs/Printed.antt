-- What an answer prints.
use Rattle.std.specs.Prelude.{◌≡◌, ℕ, [], ◌++◌, codes, string_bytes}
use Rattle.ob_command.specs.CommandLine.{Text}
use Rattle.ob_answer_files.specs.declared.answered.Answer.{Answer}
use Rattle.ob_answer_files.specs.ShownNames.{shown}

-- only text on standard output, and status 0
pub record IsPrinted (answer : Answer) (text : Text) : Type 0 where
  pub status : answer.status ≡ 0
  pub out : string_bytes answer.out ≡ text
  pub err : string_bytes answer.err ≡ []

-- text on standard output and text beside it on standard error, and status 0
pub record IsPrintedBeside (answer : Answer) (text beside : Text) : Type 0 where
  pub status : answer.status ≡ 0
  pub out : string_bytes answer.out ≡ text
  pub err : string_bytes answer.err ≡ beside

-- only text on standard error, and another status
pub record IsRefused (answer : Answer) (number : ℕ) (text : Text) : Type 0 where
  pub status : answer.status ≡ number
  pub out : string_bytes answer.out ≡ []
  pub err : string_bytes answer.err ≡ text

-- a file can't be read
abbrev pub IsUnreadable : Answer → Text → Type 0
IsUnreadable answer name = IsRefused answer 3 (codes "cannot read " ++ shown name ++ codes "\n")

-- To the bytes of files: what is said of them, or the line of a fault by which they are refused.
pub data IsTextAnswer {Fault : Type 0} (Says : Text → Type 0) (Refuses : Fault → Type 0) (line : Fault → Text) (answer : Answer) : Type 0 where
  said : (text : Text) → Says text → IsPrinted answer text → IsTextAnswer Says Refuses line answer
  refused : (e : Fault) → Refuses e → IsRefused answer 1 (line e ++ codes "\n") → IsTextAnswer Says Refuses line answer
