use Rattle.std.proofs.Common.{◌≡◌, ◌+◌, ◌++◌, map, drop}
use Rattle.ob_code_scheme.specs.Types.{words_of_fields}
use Rattle.ob_checked.specs.Types as Given
use Rattle.ob_layout.specs.Shapes.{types_of, fields_by, bare, bare_entry, AreOffsets}
use Rattle.ob_layout.specs.View.{shapes_of}
use Rattle.ob_layout.proofs.shapes.Shapes.record.Given as goal

-- the fields so far and those that are left are all; the words so far, and those that are left
abbrev pub invariant-loop-name : goal.invariant-loop-name
invariant-loop-name l =
    (map bare l.laid.items ++ map bare_entry (drop l.name-index l.entries) ≡ map bare_entry l.entries)
    × ((l.words ≡ words_of_fields (fields_by (types_of (shapes_of l.self)) l.laid.items))
    × ((l.words + words_of_fields (Given.fields_by (types_of (shapes_of l.self)) (drop l.name-index l.entries))
    ≡ words_of_fields (Given.fields_by (types_of (shapes_of l.self)) l.entries))
    × AreOffsets (types_of (shapes_of l.self)) l.laid.items))
