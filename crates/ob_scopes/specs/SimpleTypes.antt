-- The scalar type that a type is.
use Rattle.std.specs.Prelude.{Option, Some, None}
use Rattle.ob_interface.specs.declared.scalar.ScalarType.{ScalarType}
use Rattle.ob_typing.specs.Program.{DataType, Simple}

abbrev pub simple_type : DataType → Option ScalarType
simple_type (Simple t) = Some t
simple_type _ = None
