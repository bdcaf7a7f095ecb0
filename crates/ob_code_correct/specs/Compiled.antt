-- The program whose code an engine runs, and what a call means to the engine: what it comes to in that program, with the budget.
use Rattle.std.specs.Prelude.{◌≡◌, ℕ, suc, ◌*◌, ℤ, List, [], ◌∷◌, length, slice_get, Some, if◌then◌else◌}
use Rattle.std.specs.List.{All}
use Rattle.ob_interface.specs.Call.{ObjectCall, Reply}
use Rattle.ob_interface.specs.Export.{ArgumentsFit}
use Rattle.ob_typing.specs.Program.{Procedure, Program}
use Rattle.ob_meaning.specs.ByPositionStore.{Activation}
use Rattle.ob_meaning.specs.ByPositionObject.{effect}
use Rattle.ob_code_machine.specs.Body.{Run}
use Rattle.ob_code_scheme.specs.Temporaries.{stack_words}
use Rattle.ob_code_scheme.specs.Layout.{variable_words, IsEncoding}
use Rattle.ob_code_scheme.specs.Scheme.{code_of}
use Rattle.ob_code_scheme.specs.Correct.{formals_of, IsInRange}
use Rattle.wf_table.specs.Meaning.{Meaning}
use Rattle.ob_code_correct.specs.CodeMeaning.{Entrance, EngineParts, code_meaning}

-- ---- what an engine for a program holds

-- the exported ones of procedures that are numbered from n
abbrev pub entrances_from : ℕ → List Procedure → List Entrance
entrances_from n [] = []
entrances_from n (p ∷ procedures) =
    if p.is_exported then record { procedure = n; parameters = formals_of p.parameters } ∷ entrances_from (suc n) procedures
    else entrances_from (suc n) procedures

-- with a budget of turns for each body
abbrev pub parts_of : Program → ℕ → EngineParts
parts_of program budget = record {
  variables = variable_words program.variables;
  exports = entrances_from 0 program.procedures;
  code = code_of program;
  reserve = stack_words program.procedures;
  budget = budget;
}

abbrev pub engine_of : Program → ℕ → Meaning Run
engine_of program budget = code_meaning (parts_of program budget)

-- ---- calls, runs and blocks

-- a call of an export, with an argument for each value parameter, of its type and in its range
pub record IsFitting (exports : List Entrance) (call : ObjectCall) : Type 0 where
  pub entrance : Entrance
  pub there : slice_get exports call.export ≡ Some entrance
  pub typed : ArgumentsFit entrance.parameters call.arguments
  pub ranged : All IsInRange call.arguments

-- a call that fits the program
abbrev pub Fits : Program → ObjectCall → Type 0
Fits program = IsFitting (entrances_from 0 program.procedures)

-- a run with a stack of the engine's words
abbrev pub HasReserve : EngineParts → Run → Type 0
HasReserve parts run = run.reserve ≡ parts.reserve

-- a block that is the encoding of a state of the program's variables
pub record IsLawfulBlock (program : Program) (block : List ℤ) : Type 0 where
  pub state : Activation
  pub encodes : IsEncoding program.variables state block

-- a call with the budget, on this state, leads to that one, with this reply
abbrev pub CallEnds : Program → (budget : ℕ) → ObjectCall → Activation → Activation → Reply → Type 0
CallEnds program budget call before after reply =
    effect program call budget before ≡ record { state = after; reply = reply }

-- the call leads from the state of one block to the state of another, with this reply
pub record IsEffect (program : Program) (budget : ℕ) (call : ObjectCall) (block after : List ℤ) (reply : Reply) : Type 0 where
  pub before : Activation
  pub next : Activation
  pub ends : CallEnds program budget call before next reply
  pub block_is : IsEncoding program.variables before block
  pub after_is : IsEncoding program.variables next after

-- the most instructions that a body takes: each turn, and the call itself, pays for as many as the code has
abbrev pub body_limit : Program → (budget : ℕ) → ℕ
body_limit program budget = suc budget * length (code_of program).instructions
