use Rattle.std.proofs.Common.{◌≡◌, ◌+◌, drop}
use Rattle.ob_typing.specs.Scopes.{words_of_fields}
use Rattle.ob_checked.specs.Types.{types_of, fields_by}
use Rattle.ob_checked.specs.View.{table_of}
use Rattle.ob_checked.proofs.types.Types.words_of_fields.Given as goal

-- the words so far, and those of the fields that are left, are the words of all
abbrev pub invariant-loop-data_type : goal.invariant-loop-data_type
invariant-loop-data_type l =
    l.words + words_of_fields (fields_by (types_of (table_of l.self)) (drop l.data_type-index l.entries))
    ≡ words_of_fields (fields_by (types_of (table_of l.self)) l.entries)
