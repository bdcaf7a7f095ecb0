-- Files that are at hand.
use Rattle.std.specs.Prelude.{◌≡◌, ℕ, List, [], ◌∷◌, Option, None, Some, Result, Ok, Err, map, if◌then◌else◌}
use Rattle.std.specs.Str.{bytes_eq}
use Rattle.ob_answer_files.specs.declared.files.FileFault.{FileFault}
use Rattle.ob_answer_files.specs.declared.files.FileFault.TheVariants.{NoMemory, Unreadable}
use Rattle.ob_answer_files.specs.declared.handed_files.GivenFiles.{GivenFiles}

-- Of names and what files hold, in turn: what the first file of a name holds. A last name with nothing behind it is that of no file.
abbrev pub bytes_named : (name : List ℕ) → (texts : List (List ℕ)) → Option (List ℕ)
bytes_named name [] = None
bytes_named name (first ∷ []) = None
bytes_named name (first ∷ bytes ∷ others) = if bytes_eq first name then Some bytes else bytes_named name others

abbrev pub texts_of : GivenFiles → List (List ℕ)
texts_of files = map (λ text. text.now) files.texts.now

-- A read of a file: what the file of this name holds, or that there is none. It may be that there is no memory for it.
abbrev pub IsFound : (found : Option (List ℕ)) → Result (List ℕ) FileFault → Type 0
IsFound found (Ok bytes) = found ≡ Some bytes
IsFound found (Err Unreadable) = found ≡ None
IsFound found (Err NoMemory) = Unit {0}

abbrev pub IsGivenRead : GivenFiles → (name : List ℕ) → Result (List ℕ) FileFault → GivenFiles → Type 0
IsGivenRead before name result after = IsFound (bytes_named name (texts_of before)) result × (after ≡ before)
