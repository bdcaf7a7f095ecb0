use Rattle.std.proofs.Common.{◌≡◌, drop}
use Rattle.std.specs.Prelude.{max}
use Rattle.ob_typing.specs.Scopes.{depth_of_fields}
use Rattle.ob_checked.specs.Types.{types_of, fields_by}
use Rattle.ob_checked.specs.View.{table_of}
use Rattle.ob_checked.proofs.types.Types.depth_of_fields.Given as goal

-- the depth so far, or that of the fields that are left, is the depth of all
abbrev pub invariant-loop-data_type : goal.invariant-loop-data_type
invariant-loop-data_type l =
    max l.depth (depth_of_fields (fields_by (types_of (table_of l.self)) (drop l.data_type-index l.entries)))
    ≡ depth_of_fields (fields_by (types_of (table_of l.self)) l.entries)
