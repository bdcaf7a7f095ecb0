-- What is told of calls that are made one at a time beside their replies: the variables that each changed, and the turns that it took.
use Rattle.std.specs.Prelude.{ℕ, List, [], ◌∷◌, ◌++◌, codes, decimal, map, slice_get, if◌then◌else◌}
use Rattle.std.specs.Option.{option_map_or}
use Rattle.std.specs.Str.{bytes_eq}
use Rattle.ob_interface.specs.Call.{ObjectCall, Reply}
use Rattle.ob_meaning.specs.ByNameObject.{State, effect}
use Rattle.ob_object_calls.specs.CallLines.{numbered}
use Rattle.ob_meaning.specs.ByPositionObject as Positions
use Rattle.ob_meaning.specs.ByPositionStore.{Activation, value_held}
use Rattle.ob_text_words.specs.ReplyLines.{reply_line}
use Rattle.ob_text_record.specs.Named.{binding_line}
use Rattle.ob_text_record.specs.Variables.{variable_line}
use Rattle.ob_typing.specs.Program.{Program, Variable}

-- ---- the variables that a call changed

-- what there is of the first two, of the second two, and so on, as far as both go
abbrev pub of_both : {A B C : Type 0} → (A → B → List C) → List A → List B → List C
of_both f [] ys = []
of_both f (x ∷ xs) [] = []
of_both f (x ∷ xs) (y ∷ ys) = f x y ++ of_both f xs ys

-- a line where it is another than the one before
abbrev pub line_changed : (before after : List ℕ) → List ℕ
line_changed before after = if bytes_eq before after then [] else after

-- the lines that are others than those before
abbrev pub lines_changed : (before after : List (List ℕ)) → List ℕ
lines_changed = of_both line_changed

-- the V lines of the variables of a state, and those that a call changed
abbrev pub state_lines : State → List (List ℕ)
state_lines = map binding_line

abbrev pub changes : (before after : State) → List ℕ
changes before after = lines_changed (state_lines before) (state_lines after)

-- of each of the calls that are made one at a time from a state
abbrev pub all_changes : Program → (budget : ℕ) → State → List ObjectCall → List (List ℕ)
all_changes program budget state [] = []
all_changes program budget state (call ∷ calls) =
    changes state (effect program call budget state).state ∷ all_changes program budget (effect program call budget state).state calls

-- the same by position
abbrev pub lines_at : List Variable → Activation → List (List ℕ)
lines_at = of_both (λ variable held. variable_line variable (value_held held) ∷ [])

abbrev pub changes_at : Program → (before after : Activation) → List ℕ
changes_at program before after = lines_changed (lines_at program.variables before) (lines_at program.variables after)

abbrev pub all_changes_at : Program → (budget : ℕ) → Activation → List ObjectCall → List (List ℕ)
all_changes_at program budget state [] = []
all_changes_at program budget state (call ∷ calls) =
    changes_at program state (Positions.effect program call budget state).state
    ∷ all_changes_at program budget (Positions.effect program call budget state).state calls

-- ---- what is printed

-- T n: the turns that a call took
abbrev pub turns_line : ℕ → List ℕ
turns_line turns = codes "T " ++ decimal turns ++ codes "\n"

-- b n: the least budget with which all replies are the same
abbrev pub budget_line : ℕ → List ℕ
budget_line least = codes "b " ++ decimal least ++ codes "\n"

-- what there is at a place, as a text
abbrev pub text_at : {A : Type 0} → (A → List ℕ) → List A → (place : ℕ) → List ℕ
text_at text xs place = option_map_or text (slice_get xs place) []

-- of a call its E line, and behind it the turns that it took and the variables that it changed, as far as they are told
abbrev pub told_line : (turns : List ℕ) (changes : List (List ℕ)) → (place process number : ℕ) → Reply → List ℕ
told_line turns changes place process number reply =
    reply_line process number reply ++ text_at turns_line turns place ++ text_at (λ lines. lines) changes place

-- so of all
abbrev pub told_lines : (turns : List ℕ) (changes : List (List ℕ)) → (processes : List ℕ) → List Reply → List ℕ
told_lines turns changes processes replies = numbered (told_line turns changes) [] processes replies
