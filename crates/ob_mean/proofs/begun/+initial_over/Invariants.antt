use Rattle.std.proofs.Common.{◌≡◌, ◌+◌, ◌*◌, take}
use Rattle.ob_store.specs.View.{values_in}
use Rattle.ob_checked.specs.Types.{fields_by, types_of}
use Rattle.ob_checked.specs.View.{table_of}
use Rattle.ob_meaning.specs.ByPositionValue as Values
use Rattle.ob_mean.proofs.InitialValues.{rank, most}
use Rattle.ob_mean.proofs.begun.+initial_over.Given as goal

abbrev pub decreases-initial_over : goal.decreases-initial_over
decreases-initial_over l = 2 * rank l.data_type

abbrev pub decreases-elements_over : goal.decreases-elements_over
decreases-elements_over l = 2 * rank l.element + 1

abbrev pub decreases-fields_over : goal.decreases-fields_over
decreases-fields_over l = 2 * most l.fields.now + 1

-- the fields so far
abbrev pub invariant-fields_over-loop-field : goal.invariant-fields_over-loop-field
invariant-fields_over-loop-field l =
    values_in l.parts.items ≡ Values.initial_fields (fields_by (types_of (table_of l.types)) (take l.field-index l.fields))
