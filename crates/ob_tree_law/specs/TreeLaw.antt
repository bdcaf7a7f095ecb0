-- What the engine over the tree of a well-formed program meets, with every budget: what the engine over its code meets.
use Rattle.std.specs.Prelude.{◌≡◌, ℕ, ◌≤◌, ℤ, List, slice_get, Some}
use Rattle.ob_interface.specs.Call.{ObjectCall}
use Rattle.ob_typing.specs.Program.{Program}
use Rattle.ob_code_machine.specs.Body.{Run}
use Rattle.ob_code_scheme.specs.WellFormed.{IsWellFormed}
use Rattle.wf_table.specs.Meaning.{Turned, body}
use Rattle.wf_table.specs.Law.{IsLawful}
use Rattle.wf_table.specs.Ends.{EndsWithin, AllEndWithin}
use Rattle.ob_code_correct.specs.Compiled.{parts_of, engine_of, Fits, IsLawfulBlock, IsEffect, body_limit}
use Rattle.ob_code_correct.specs.Parts.{IsLawfulFor, IsEffectOf}
use Rattle.ob_tree_law.specs.TreeEngine.{TreeRun, tree_engine, IsTreeReady}

-- the same answer, block and words of results
pub record Shows (t : Turned TreeRun) (o : Turned Run) : Type 0 where
  pub turn : t.turn ≡ o.turn
  pub block : t.block ≡ o.block
  pub stack : t.run.body.stack ≡ o.run.body.stack

-- after every number of steps the body of each call on each block shows what the body over the code shows, for each program, well formed
-- or not, whatever the length of its code
abbrev pub BodiesShowTheSame : Type 0
BodiesShowTheSame =
    (program : Program) (budget count : ℕ) (block : List ℤ) (call : ObjectCall) → Shows (body (tree_engine program budget) count block call) (body (engine_of program budget) count block call)

-- it is lawful, and its effect is the very same
abbrev pub TreeIsLawful : Type 0
TreeIsLawful =
    (program : Program) (budget : ℕ) → IsWellFormed program →
    IsLawful (tree_engine program budget) (IsLawfulBlock program) (Fits program) (IsTreeReady program) (IsEffect program budget)

-- so it is where it is only told that the program is well formed: its blocks and its effect are those of the engine over the parts of its
-- code
abbrev pub TreePartsAreLawful : Type 0
TreePartsAreLawful =
    (program : Program) (budget : ℕ) → ∥ IsWellFormed program ∥₁ →
    IsLawful (tree_engine program budget) (IsLawfulFor (parts_of program budget)) (Fits program) (IsTreeReady program) (IsEffectOf (parts_of program budget))

-- a body is over after the steps that are paid for
abbrev pub TreeBodiesEnd : Type 0
TreeBodiesEnd =
    (program : Program) (budget : ℕ) → IsWellFormed program → (call : ObjectCall) (block : List ℤ) → IsLawfulBlock program block → Fits program call →
    (n : ℕ) → body_limit program budget ≤ n → EndsWithin (tree_engine program budget) n block call

-- so the calls of scripts end within them, whatever they are
abbrev pub TreeScriptsEnd : Type 0
TreeScriptsEnd =
    (program : Program) (budget : ℕ) → IsWellFormed program → (scripts : ℕ → List ObjectCall) (opening : List ℤ) →
    ((p k : ℕ) (call : ObjectCall) → slice_get (scripts p) k ≡ Some call → Fits program call) → IsLawfulBlock program opening →
    AllEndWithin (tree_engine program budget) (IsEffect program budget) scripts opening (body_limit program budget)
