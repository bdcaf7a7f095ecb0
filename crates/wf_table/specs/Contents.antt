-- What a block holds behind a list of calls: their variables, of each process the words of its last call's reply, and the
-- parity of the number of its calls.
use Rattle.std.specs.Prelude.{◌≡◌, ℕ, ◌+◌, ◌<◌, ℤ, pos, List, [], ◌∷◌, take, replicate, if◌then◌else◌, nat_eq}
use Rattle.ll_cell.specs.Cell.{word_at}
use Rattle.ob_interface.specs.Call.{ObjectCall, Reply}
use Rattle.wf_history.specs.declared.event.CallId.{CallId}
use Rattle.wf_history.specs.History.{Event}
use Rattle.wf_history.specs.Legal.{NoRepeats, OneAtATime, HasBegun}
use Rattle.wf_table.specs.declared.process.Sizes.{Sizes}
use Rattle.wf_table.specs.Meaning.{Meaning}
use Rattle.wf_table.specs.StepTable.{part}
use Rattle.wf_table.specs.HelpAlone.{Alone}

-- the words of the last call of the process in a list; the first ones where it has none. Each call has its words in turn
abbrev pub last_words : List ℤ → ℕ → List CallId → List (List ℤ) → List ℤ
last_words first p [] words = first
last_words first p (id ∷ ids) [] = first
last_words first p (id ∷ ids) (w ∷ words) = last_words (if nat_eq id.process p then w else first) p ids words

-- of a process that has no call in the list
abbrev pub no_words : Sizes → List ℤ
no_words z = replicate (z.replies + 1) (pos 0)

-- a word of the reply that a block has of a process
abbrev pub reply_word : Sizes → List ℤ → ℕ → ℕ → ℤ
reply_word z block p i = word_at block (part z p + i)

-- calls of a history that end one after the other, each alone, from the opening on: none comes twice
pub record IsMade {Run : Type 0} (m : Meaning Run) (lawful : List ℤ → Type 0) (opening : List ℤ) (history : List (Event ObjectCall Reply)) (ids : List CallId) (words : List (List ℤ)) (last : List ℤ) : Type 0 where
  pub once : NoRepeats ids
  pub made : OneAtATime (HasBegun history) (Alone m) opening ids words last
  pub lawful_last : ∥ lawful last ∥₁

-- root content: the root holds what the order, made one at a time from the opening, leads to. Its toggles are parities
-- by the counts of the second commit
pub record RootHolds {Run : Type 0} (m : Meaning Run) (lawful : List ℤ → Type 0) (z : Sizes) (opening : List ℤ) (history : List (Event ObjectCall Reply)) (order : List CallId) (root : List ℤ) : Type 0 where
  pub words : List (List ℤ)
  pub last : List ℤ
  pub made : IsMade m lawful opening history order words last
  pub variables : take z.variables root ≡ last
  pub replies : (k i : ℕ) → k < z.processes → i < z.replies + 1 → reply_word z root k i ≡ word_at (last_words (no_words z) k order words) i
