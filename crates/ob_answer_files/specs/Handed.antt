-- Answers that are put into a room.
use Rattle.std.specs.Prelude.{◌≡◌, ℕ, List, ◌++◌, length, take, drop, string_bytes, Result, Ok, Err}
use Rattle.ob_answer_files.specs.declared.answered.Answer.{Answer}
use Rattle.ob_interface.specs.declared.no_memory.NoMemory.{NoMemory}

-- all that an answer says, what goes to standard output first
abbrev pub said : Answer → List ℕ
said answer = string_bytes answer.out ++ string_bytes answer.err

-- of a text as much is put into a room as it has place for, and its length is told; behind it the room stays as it was
pub record IsFilled (text : List ℕ) (len : ℕ) (before after : List ℕ) : Type 0 where
  pub told : len ≡ length text
  pub filled : after ≡ take (length before) text ++ drop (length text) before

-- the status of an answer is told, the length of what goes to standard output, and all that it says
pub record IsTold (answer : Answer) (status output len : ℕ) (before after : List ℕ) : Type 0 where
  pub status_is : status ≡ answer.status
  pub output_is : output ≡ length (string_bytes answer.out)
  pub filled : IsFilled (said answer) len before after

-- it is told that there is no memory for an answer, and the room stays as it was
pub record IsNoneTold (status output len : ℕ) (before after : List ℕ) : Type 0 where
  pub status_is : status ≡ 4
  pub output_is : output ≡ 0
  pub len_is : len ≡ 0
  pub unchanged : after ≡ before

-- an answer of which this holds is handed over, or that there is no memory for one
pub data IsHanded (Is : Answer → Type 0) (status output len : ℕ) (before after : List ℕ) : Type 0 where
  handed : (answer : Answer) → Is answer → IsTold answer status output len before after → IsHanded Is status output len before after
  lacking : IsNoneTold status output len before after → IsHanded Is status output len before after

-- of what was made: an answer, or that there is no memory for one
abbrev pub IsMadeHanded : Result Answer NoMemory → (status output len : ℕ) → (before after : List ℕ) → Type 0
IsMadeHanded (Ok answer) = IsHanded (λ a. a ≡ answer)
IsMadeHanded (Err e) = IsNoneTold

-- the same where nobody asks how much of it goes to standard output
abbrev pub IsHandedWhole : (Answer → Type 0) → (status len : ℕ) → (before after : List ℕ) → Type 0
IsHandedWhole Is status len before after = (output : ℕ) × IsHanded Is status output len before after

abbrev pub IsMadeHandedWhole : Result Answer NoMemory → (status len : ℕ) → (before after : List ℕ) → Type 0
IsMadeHandedWhole made status len before after = (output : ℕ) × IsMadeHanded made status output len before after
