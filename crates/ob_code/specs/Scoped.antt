-- The scopes of a procedure, as the generator knows them.
use Rattle.ob_typing.specs.Program as Program
use Rattle.ob_code_scheme.specs.Types.{Scope, Space, scope_of}
use Rattle.ob_checked.specs.Types.{type_by}
use Rattle.ob_checked.specs.declared.types.DataType.{DataType}
use Rattle.ob_layout.specs.declared.frames.Space as Spaces
use Rattle.ob_layout.specs.Layout as Laid
use Rattle.ob_code.specs.declared.scopes.Scopes.{Scopes}

-- the type that a number stands for
abbrev pub type_in : Scopes → DataType → Program.DataType
type_in s t = type_by (Laid.types_in s.layout.now) t

-- what lies at a position
abbrev pub space_in : Scopes → Spaces.Space → Space
space_in s x = Laid.space_in s.layout.now x

-- the scope of the module
abbrev pub globals_in : Scopes → Scope
globals_in s = Laid.block_in s.layout.now

-- the scope of the procedure
abbrev pub own_in : Scopes → Scope
own_in s = Laid.frame_in s.layout.now s.procedure

-- the scope that a variable's owner has
abbrev pub scope_in : Scopes → Program.Owner → Scope
scope_in s owner = scope_of (globals_in s) (own_in s) owner
