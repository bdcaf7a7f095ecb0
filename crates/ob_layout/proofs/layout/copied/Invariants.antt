use Rattle.std.proofs.Common.{◌≡◌, List, map, take}
use Rattle.ob_typing.specs.Program as Program
use Rattle.ob_layout.specs.Frames.{variable_by}
use Rattle.ob_layout.proofs.layout.copied.Given as goal

abbrev pub invariant-loop-variable : goal.invariant-loop-variable
invariant-loop-variable l = (types : List Program.DataType) → map (variable_by types) l.copies.items ≡ map (variable_by types) (take l.variable-index l.variables)
