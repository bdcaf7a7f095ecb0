use Rattle.std.proofs.Common.{◌+◌, ◌*◌, length}
use Rattle.ob_text_values_reading.proofs.Taken.{ElementsTo, FieldsTo}
use Rattle.ob_text_values_reading.proofs.value_texts.+taking.Given as goal

abbrev pub decreases-take_value : goal.decreases-take_value
decreases-take_value l = 5 * l.limit + 4

abbrev pub decreases-take_array : goal.decreases-take_array
decreases-take_array l = 5 * l.limit + 3

abbrev pub decreases-take_record : goal.decreases-take_record
decreases-take_record l = 5 * l.limit + 3

abbrev pub decreases-take_elements : goal.decreases-take_elements
decreases-take_elements l = 5 * l.limit + 5

abbrev pub decreases-take_some_fields : goal.decreases-take_some_fields
decreases-take_some_fields l = 5 * l.limit + 7

abbrev pub decreases-take_fields : goal.decreases-take_fields
decreases-take_fields l = 5 * l.limit + 6

abbrev pub decreases-take_field : goal.decreases-take_field
decreases-take_field l = 5 * l.limit + 5

-- the elements so far
abbrev pub invariant-take_elements-loop-value : goal.invariant-take_elements-loop-value
invariant-take_elements-loop-value l = ElementsTo l.limit l.text l.left l.elements.items

abbrev pub decreases-take_elements-loop-value : goal.decreases-take_elements-loop-value
decreases-take_elements-loop-value l = length l.left

-- the fields so far
abbrev pub invariant-take_fields-loop-field : goal.invariant-take_fields-loop-field
invariant-take_fields-loop-field l = FieldsTo l.limit l.text l.left l.fields.items

abbrev pub decreases-take_fields-loop-field : goal.decreases-take_fields-loop-field
decreases-take_fields-loop-field l = length l.left
