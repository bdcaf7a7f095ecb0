-- What a type consists of, as the program reads it from its table.
use Rattle.std.specs.Prelude.{List}
use Rattle.ob_typing.specs.Program as Programs
use Rattle.ob_checked.specs.Types.{Entry, types_of, entry_by}
use Rattle.ob_scopes.specs.declared.same_types.Shape.{Shape}
use Rattle.ob_scopes.specs.declared.same_types.Shape.TheVariants.{Simple, Occurrence}

abbrev pub type_of_shape : List Entry → Shape → Programs.DataType
type_of_shape types (Simple t) = Programs.Simple t
type_of_shape types (Occurrence e) = entry_by (types_of types) e.now
