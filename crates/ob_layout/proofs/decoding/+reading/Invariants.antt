use Rattle.std.proofs.Common.{◌≡◌, ◌+◌, ◌-◌, ◌*◌, drop}
use Rattle.ob_code_scheme.specs.Layout as Words
use Rattle.ob_layout.specs.Shapes.{type_in, types_of, fields_by}
use Rattle.ob_layout.specs.View.{shapes_of}
use Rattle.ob_layout.proofs.Decoded.{rank, most, prefixed}
use Rattle.ob_layout.proofs.decoding.+reading.Given as goal

abbrev pub decreases-read_value : goal.decreases-read_value
decreases-read_value l = 2 * rank l.data_type

abbrev pub decreases-read_elements : goal.decreases-read_elements
decreases-read_elements l = 2 * rank l.element + 1

abbrev pub decreases-read_fields : goal.decreases-read_fields
decreases-read_fields l = 2 * most l.fields.now + 1

-- the elements so far, and those that are left
abbrev pub invariant-read_elements-loop-made : goal.invariant-read_elements-loop-made
invariant-read_elements-loop-made l =
    prefixed l.parts.items (Words.parts_in (Words.value_in (type_in (shapes_of l.shapes) l.element)) (l.length - l.made) (drop l.at l.words))
    ≡ Words.parts_in (Words.value_in (type_in (shapes_of l.shapes) l.element)) l.length (drop l.from l.words)

-- the fields so far, and those that are left
abbrev pub invariant-read_fields-loop-field : goal.invariant-read_fields-loop-field
invariant-read_fields-loop-field l =
    prefixed l.parts.items (Words.fields_in (fields_by (types_of (shapes_of l.shapes)) (drop l.field-index l.fields)) (drop l.at l.words))
    ≡ Words.fields_in (fields_by (types_of (shapes_of l.shapes)) l.fields) (drop l.from l.words)
