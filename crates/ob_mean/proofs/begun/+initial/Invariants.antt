use Rattle.std.proofs.Common.{◌≡◌, ◌+◌, ◌*◌, take}
use Rattle.ob_store.specs.View.{values_in}
use Rattle.ob_checked.specs.Types.{fields_by, types_of}
use Rattle.ob_checked.specs.View.{table_of}
use Rattle.ob_meaning.specs.ByPositionValue as Values
use Rattle.ob_mean.proofs.InitialValues.{rank, most}
use Rattle.ob_mean.proofs.begun.+initial.Given as goal

abbrev pub decreases-initial_parts : goal.decreases-initial_parts
decreases-initial_parts l = 2 * rank l.data_type

abbrev pub decreases-initial_fields : goal.decreases-initial_fields
decreases-initial_fields l = 2 * most l.fields.now + 1

-- the fields so far
abbrev pub invariant-initial_fields-loop-field : goal.invariant-initial_fields-loop-field
invariant-initial_fields-loop-field l =
    values_in l.parts.items ≡ Values.initial_fields (fields_by (types_of (table_of l.types)) (take l.field-index l.fields))
