-- The scopes of a module and of one of its procedures, as the engine over the tree knows them.
use Rattle.ob_typing.specs.Program as Program
use Rattle.ob_code_scheme.specs.Types.{Scope}
use Rattle.ob_checked.specs.Types.{type_by}
use Rattle.ob_checked.specs.declared.types.DataType.{DataType}
use Rattle.ob_layout.specs.declared.layout.Layout.{Layout}
use Rattle.ob_layout.specs.Layout as Laid
use Rattle.ob_tree_tasks.specs.declared.scopes.Scopes.{Scopes}

-- the type that a number stands for
abbrev pub type_in : Layout → DataType → Program.DataType
type_in l t = type_by (Laid.types_in l) t

-- the scope of the module
abbrev pub globals_in : Scopes → Scope
globals_in s = Laid.block_in s.layout.now

-- the scope of the procedure
abbrev pub own_in : Scopes → Scope
own_in s = Laid.frame_in s.layout.now s.procedure
