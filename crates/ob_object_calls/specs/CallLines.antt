-- The lines that calls are told by, with their replies.
use Rattle.std.specs.Prelude.{ℕ, suc, ◌==◌, List, [], ◌∷◌, ◌++◌, length, filter}
use Rattle.ob_interface.specs.Call.{Reply}
use Rattle.ob_text_words.specs.ReplyLines.{reply_line}

-- how many of these calls a process made
abbrev pub count_of : ℕ → List ℕ → ℕ
count_of process before = length (filter (λ p. p == process) before)

-- the texts of calls behind others, by what there is of each: of each call its place among all, from 0, its process, the number of the call
-- and what there is of it; of the calls before them there are the processes, the last one first. The number of a call counts the calls of
-- its process from 1.
abbrev pub numbered : {A : Type 0} → (text : (place process number : ℕ) → A → List ℕ) → (before processes : List ℕ) → List A → List ℕ
numbered text before [] xs = []
numbered text before (p ∷ processes) [] = []
numbered text before (p ∷ processes) (x ∷ xs) =
    text (length before) p (suc (count_of p before)) x ++ numbered text (p ∷ before) processes xs

-- the E lines of calls behind others, by their replies
abbrev pub reply_lines : (before processes : List ℕ) → List Reply → List ℕ
reply_lines = numbered (λ place. reply_line)
