-- The lines of the module's variables.
use Rattle.std.specs.Prelude.{ℕ, List, [], ◌∷◌, ◌++◌, codes}
use Rattle.ob_typing.specs.Program.{Variable}
use Rattle.ob_meaning.specs.ByPositionStore.{Activation, value_held}
use Rattle.ob_meaning.specs.ByPositionValue.{Value}
use Rattle.ob_text_record.specs.Values.{value_text}

-- the name of a variable and a value, behind what the line begins with
abbrev pub line_behind : (mark : List ℕ) → Variable → Value → List ℕ
line_behind mark variable value = mark ++ variable.name ++ codes " " ++ value_text variable.type value ++ codes "\n"

-- the lines of variables with their values in a state, in text order
abbrev pub lines_behind : (mark : List ℕ) → List Variable → Activation → List ℕ
lines_behind mark [] state = []
lines_behind mark (variable ∷ variables) [] = []
lines_behind mark (variable ∷ variables) (h ∷ state) = line_behind mark variable (value_held h) ++ lines_behind mark variables state

-- V name value
abbrev pub variable_line : Variable → Value → List ℕ
variable_line = line_behind (codes "V ")

-- the lines of the variables at the end
abbrev pub state_text : List Variable → Activation → List ℕ
state_text = lines_behind (codes "V ")

-- I name value
abbrev pub opening_line : Variable → Value → List ℕ
opening_line = line_behind (codes "I ")

-- the lines of the variables at the beginning
abbrev pub opening_text : List Variable → Activation → List ℕ
opening_text = lines_behind (codes "I ")
