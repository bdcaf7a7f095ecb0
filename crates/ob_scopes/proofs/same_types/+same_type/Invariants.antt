use Rattle.std.proofs.Common.{◌≡◌, ◌+◌, ◌*◌, drop}
use Rattle.ob_typing.specs.Scopes.{same_fields, depth, depth_of_fields}
use Rattle.ob_checked.specs.Types.{type_in, types_of, fields_by}
use Rattle.ob_checked.specs.View.{table_of}
use Rattle.ob_scopes.proofs.SameTypes.{inner_depth}
use Rattle.ob_scopes.proofs.same_types.+same_type.Given as goal

-- what stands within is less deep

abbrev pub decreases-same_type : goal.decreases-same_type
decreases-same_type l = 3 * depth (type_in (table_of l.types.now) l.left)

abbrev pub decreases-same_structure : goal.decreases-same_structure
decreases-same_structure l = 3 * inner_depth (types_of (table_of l.types.now)) l.left.now + 2

abbrev pub decreases-same_fields : goal.decreases-same_fields
decreases-same_fields l = 3 * depth_of_fields (fields_by (types_of (table_of l.types.now)) l.left.now) + 1

-- the fields that were passed are the same
abbrev pub invariant-same_fields-loop-position : goal.invariant-same_fields-loop-position
invariant-same_fields-loop-position l =
    same_fields (fields_by (types_of (table_of l.types)) l.left) (fields_by (types_of (table_of l.types)) l.right)
    ≡ same_fields (fields_by (types_of (table_of l.types)) (drop l.position l.left)) (fields_by (types_of (table_of l.types)) (drop l.position l.right))
