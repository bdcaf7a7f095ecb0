-- What the program makes of a refusal of the host.
use Rattle.std.specs.Prelude.{ℕ, List, codes}
use Rattle.std.specs.declared.io.ErrorKind.{ErrorKind}
use Rattle.std.specs.declared.io.ErrorKind.TheVariants as Kind
use Rattle.ob_answer_files.specs.declared.files.FileFault.{FileFault}
use Rattle.ob_answer_files.specs.declared.files.FileFault.TheVariants as FileFaults
use Rattle.obl0.specs.declared.refusal.Refusal.{Refusal}
use Rattle.obl0.specs.declared.refusal.Refusal.TheVariants as Refusals

-- only want of memory is told as such
abbrev pub file_fault : ErrorKind → FileFault
file_fault Kind.OutOfMemory = FileFaults.NoMemory
file_fault _ = FileFaults.Unreadable

abbrev pub refusal_of_words : ErrorKind → Refusal
refusal_of_words Kind.OutOfMemory = Refusals.NoMemory
refusal_of_words _ = Refusals.Words

-- the line on standard error
abbrev pub refusal_line : Refusal → List ℕ
refusal_line Refusals.Words = codes "the words are not UTF-8\n"
refusal_line Refusals.NoMemory = codes "NoMemory\n"
refusal_line Refusals.Output = codes "cannot write\n"

-- the exit status
abbrev pub refusal_status : Refusal → ℕ
refusal_status Refusals.Words = 2
refusal_status Refusals.NoMemory = 3
refusal_status Refusals.Output = 3
