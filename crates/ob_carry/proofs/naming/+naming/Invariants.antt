use Rattle.std.proofs.Common.{take}
use Rattle.ob_checked.specs.Types.{type_in, types_of}
use Rattle.ob_checked.specs.View.{table_of}
use Rattle.ob_carry.proofs.NamedParts.{AllFields, AllNamed}
use Rattle.ob_carry.proofs.naming.+naming.Given as goal

-- the elements so far are named
abbrev pub invariant-elements_named-loop-part : goal.invariant-elements_named-loop-part
invariant-elements_named-loop-part l = AllNamed (type_in (table_of l.types) l.element) l.elements.items (take l.part-index l.parts)

-- so are the fields so far
abbrev pub invariant-fields_named-loop-position : goal.invariant-fields_named-loop-position
invariant-fields_named-loop-position l = AllFields (types_of (table_of l.types)) (take l.position l.declared) l.fields.items (take l.position l.parts)
