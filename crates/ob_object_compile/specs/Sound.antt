-- What a run needs of an object.
use Rattle.std.specs.Prelude.{◌≡◌}
use Rattle.ob_meaning.specs.Resolved.{IsResolved}
use Rattle.ob_code_correct.specs.Compiled.{parts_of}
use Rattle.ob_layout.specs.Layout.{layout_of}
use Rattle.ob_code_scheme.specs.Types.{IsStateOf}
use Rattle.ob_code_scheme.specs.WellFormed.{IsWellFormed}
use Rattle.ob_object_compile.specs.Asked.{Asked}
use Rattle.ob_object_compile.specs.Compilation.{IsObjectOf, ObjectParts}
use Rattle.ob_typing.specs.Program.{Program}

-- the layout and the engine are those of its program, which is well formed and whose names stand for its declarations; and it begins
-- with a state of the program: its variables, with values of their types
pub record IsSoundObject (o : ObjectParts) : Type 0 where
  pub layout_is : o.layout ≡ layout_of o.program
  pub well : IsWellFormed o.program
  pub resolved : IsResolved o.program
  pub engine_is : o.engine ≡ parts_of o.program o.engine.budget
  pub begins : IsStateOf o.program.variables o.opening

-- what is asked for is sound, whatever programs are allowed
abbrev pub ObjectsAreSound : (Program → Type 0) → Type 0
ObjectsAreSound Allowed = (a : Asked) (o : ObjectParts) → IsObjectOf Allowed a o → IsSoundObject o
