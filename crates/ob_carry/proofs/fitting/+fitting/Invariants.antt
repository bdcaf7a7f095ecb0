use Rattle.std.proofs.Common.{Some, take}
use Rattle.ob_checked.specs.Types.{fields_by, type_in, types_of}
use Rattle.ob_checked.specs.View.{table_of}
use Rattle.ob_store.specs.View.{values_in}
use Rattle.ob_carry.specs.Values.{AreFittedElements, AreFittedFields}
use Rattle.ob_carry.specs.View.{elements_of, fields_of}
use Rattle.ob_carry.proofs.fitting.+fitting.Given as goal

-- the elements so far are fitted
abbrev pub invariant-elements_fitted-loop-value : goal.invariant-elements_fitted-loop-value
invariant-elements_fitted-loop-value l =
    AreFittedElements (type_in (table_of l.types) l.element) l.value-index (elements_of (take l.value-index l.elements)) (Some (values_in l.parts.items))

-- so are the fields so far
abbrev pub invariant-fields_fitted-loop-position : goal.invariant-fields_fitted-loop-position
invariant-fields_fitted-loop-position l =
    AreFittedFields (fields_by (types_of (table_of l.types)) (take l.position l.declared)) (fields_of (take l.position l.fields)) (Some (values_in l.parts.items))
