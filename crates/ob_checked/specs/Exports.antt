-- The exports of a checked program, as a caller knows them: its exported procedures in text order, numbered from 0.
use Rattle.std.specs.Prelude.{List, map}
use Rattle.ob_interface.specs.declared.export.Formal.{Formal}
use Rattle.ob_interface.specs.declared.scalar.ScalarType.{ScalarType}
use Rattle.ob_interface.specs.declared.scalar.ScalarType.TheVariants.{Integer}
use Rattle.ob_interface.specs.Export.{Signature}
use Rattle.ob_typing.specs.Program.{DataType, Simple, Parameter, Procedure, Program, exports}

-- the scalar type that a type is; no parameter of an export has any other
abbrev pub scalar_type_of : DataType → ScalarType
scalar_type_of (Simple t) = t
scalar_type_of _ = Integer

abbrev pub formal_of : Parameter → Formal
formal_of p = record { is_var = p.is_var; scalar_type = scalar_type_of p.type }

-- what a caller knows of a procedure: its name, and of each parameter the mode and the type
abbrev pub signature_in : Procedure → Signature
signature_in p = record { name = p.name; formals = map formal_of p.parameters }

abbrev pub signatures : Program → List Signature
signatures program = map signature_in (exports program)
