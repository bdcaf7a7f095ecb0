-- A sequential run of which more is told than the replies.
use Rattle.std.specs.Prelude.{◌≡◌, ℕ, Bool, true, false, List, [], ◌++◌, map, if◌then◌else◌}
use Rattle.ob_checked.specs.Exports.{signatures}
use Rattle.ob_interface.specs.Call.{ObjectCall, Reply}
use Rattle.ob_mean.specs.Sequences as Positions
use Rattle.ob_meaning.specs.ByNameObject.{State, replies_to}
use Rattle.ob_object_compile.specs.Asked.{Asked}
use Rattle.ob_object_compile.specs.Compilation.{ObjectParts, IsCompilation}
use Rattle.ob_object_calls.specs.declared.details.Details.{Details}
use Rattle.ob_object_calls.specs.DetailLines.{all_changes, all_changes_at, budget_line, told_lines}
use Rattle.ob_text_scripts.specs.Script.{IsScript}
use Rattle.ob_text_words.specs.ScriptCalls.{ScriptCall, object_call}
use Rattle.ob_mean.specs.Turns.{IsLeastBudget, all_turns_at, all_turns_of}
use Rattle.ob_typing.specs.Program.{Program}

-- what is told where it is asked for
abbrev pub told : {A : Type 0} → Bool → List A → List A
told asked xs = if asked then xs else []

-- what stands behind the lines of all calls: where turns are told, the least budget with which all replies are the same
abbrev pub IsEnd : (turns : Bool) → (replies_with : ℕ → List Reply) → (budget : ℕ) → (text : List ℕ) → Type 0
IsEnd false replies_with budget text = text ≡ []
IsEnd true replies_with budget text = (least : ℕ) × (IsLeastBudget replies_with budget least × (text ≡ budget_line least))

-- the output tells calls of these processes, with their replies, turns and changed variables, as far as they are asked for; the replies are
-- told with each budget
pub record Tells (d : Details) (replies_with : ℕ → List Reply) (budget : ℕ) (turns : List ℕ) (changes : List (List ℕ)) (processes : List ℕ)
    (output : List ℕ) : Type 0 where
  pub last : List ℕ
  pub ends : IsEnd d.turns replies_with budget last
  pub prints : output ≡ told_lines (told d.turns turns) (told d.state changes) processes (replies_with budget) ++ last

-- the printed bytes tell a script's calls, made one at a time in line order from a state, each with the budget
abbrev pub TellsCalls : Details → Program → (budget : ℕ) → State → List ScriptCall → (output : List ℕ) → Type 0
TellsCalls d program budget opening calls output =
    Tells d (λ b. replies_to program b opening (map object_call calls)) budget (all_turns_of program budget opening (map object_call calls))
    (all_changes program budget opening (map object_call calls)) (map (λ c. c.process) calls) output

-- the printed bytes tell what the meaning of the object's module says of the script's calls, from the state with which the object begins
pub record IsToldRun (d : Details) (a : Asked) (script output : List ℕ) : Type 0 where
  pub object : ObjectParts
  pub compiled : IsCompilation a object
  pub calls : List ScriptCall
  pub read : IsScript (signatures object.program) a.processes script calls
  pub tells : TellsCalls d object.program a.budget compiled.opens.state calls output

-- ---- the same by position

-- the replies of an object to calls with each budget, and which variables they change
abbrev pub replies_at : ObjectParts → List ObjectCall → (budget : ℕ) → List Reply
replies_at o calls budget = Positions.replies_to o.program budget o.opening calls

abbrev pub changes_told : Bool → ObjectParts → List ObjectCall → List (List ℕ)
changes_told asked o calls = told asked (all_changes_at o.program o.engine.budget o.opening calls)

abbrev pub TellsAt : Details → ObjectParts → List ObjectCall → (processes : List ℕ) → (output : List ℕ) → Type 0
TellsAt d o calls processes output =
    Tells d (replies_at o calls) o.engine.budget (all_turns_at o.program o.engine.budget o.opening calls)
    (all_changes_at o.program o.engine.budget o.opening calls) processes output

-- the turns are told, with the changes that are given
abbrev pub TellsTurns : ObjectParts → List ObjectCall → (processes : List ℕ) (changes : List (List ℕ)) → (output : List ℕ) → Type 0
TellsTurns o calls processes changes output =
    (least : ℕ) × (IsLeastBudget (replies_at o calls) o.engine.budget least
    × (output ≡ told_lines (all_turns_at o.program o.engine.budget o.opening calls) changes processes (replies_at o calls o.engine.budget) ++ budget_line least))
