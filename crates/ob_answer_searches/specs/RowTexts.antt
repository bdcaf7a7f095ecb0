-- The lines of lists of replies, and of variables, that are made.
use Rattle.std.specs.Prelude.{◌≡◌, ℕ, List, [], Option, Some, String, Vec, get_or, map, slice_get, string_bytes}
use Rattle.std.specs.Global.{Global}
use Rattle.std.specs.Option.{ForSome}
use Rattle.ob_answer_searches.specs.WholeLines.{row_lines}
use Rattle.ob_interface.specs.Call.{Reply}
use Rattle.ob_store.specs.View.{state_of}
use Rattle.ob_store.specs.declared.state.State.{State}
use Rattle.ob_text_record.specs.Variables.{state_text}
use Rattle.ob_typing.specs.Program.{Variable}
use Rattle.wf_history.specs.View.{kept_reply}
use Rattle.wf_whole_outcomes.specs.Nodes.{lists_in}
use Rattle.wf_whole_outcomes.specs.View.{row_of, told_by}
use Rattle.wf_whole_outcomes.specs.declared.wholes.ToldWholes.{ToldWholes}

-- the replies of the list with a number
abbrev pub row_in : ToldWholes ℕ → (number : ℕ) → List Reply
row_in wholes number = row_of (map kept_reply wholes.replies.items) (lists_in wholes.front.lists) number

-- the replies of the lists of a node
abbrev pub rows_at : ToldWholes ℕ → (k : ℕ) → List (List Reply)
rows_at wholes k = map (row_in wholes) (get_or (told_by wholes.front) k [])

-- a text that is made has the lines of the replies to a process
abbrev pub AreProcessTexts : ToldWholes ℕ → (process : ℕ) → List (Option (String Global)) → Type 0
AreProcessTexts wholes process texts =
    (number : ℕ) (made : Option (String Global)) → slice_get texts number ≡ Some made →
    ForSome made (λ text. string_bytes text ≡ row_lines process 0 (row_in wholes number))

-- the same of each process
abbrev pub AreRowTexts : ToldWholes ℕ → List (Vec (Option (String Global)) Global) → Type 0
AreRowTexts wholes rows = (process : ℕ) (texts : Vec (Option (String Global)) Global) → slice_get rows process ≡ Some texts → AreProcessTexts wholes process texts.items

-- of each state the lines of the variables
abbrev pub AreEndTexts : List Variable → List State → List (String Global) → Type 0
AreEndTexts variables states ends = map (λ text. string_bytes text) ends ≡ map (λ state. state_text variables (state_of state)) states
