use Rattle.std.proofs.Common.{◌≡◌, ℕ, List, None, map, drop, true}
use Rattle.ob_grammar.specs.View.{name_of}
use Rattle.ob_typing.specs.Program.{DataType, Fields}
use Rattle.ob_typing.specs.Types.{second, and_all_taken, with_fields}
use Rattle.ob_checked.specs.Types.{type_by, fields_in, is_below, all_below}
use Rattle.ob_scopes.specs.TakenNames.{taken_by}
use Rattle.ob_rules.specs.CheckingTypes.{fields_before}
use Rattle.ob_rules.proofs.type_expressions.add_fields.Given as goal

-- what is left completes what is done, and is new
abbrev pub invariant-loop-name : goal.invariant-loop-name
invariant-loop-name l = record {
  new : second (taken_by l.fields) (map name_of (drop l.name-index l.names)) ≡ None;
  fields : (types : List DataType) (rest : Fields) →
      fields_before types (fields_in l.fields) (with_fields (map name_of (drop l.name-index l.names)) (type_by types l.data_type) rest)
      ≡ fields_before types (fields_in l.initial.fields) (with_fields (map name_of l.names) (type_by types l.data_type) rest);
  taken : and_all_taken (taken_by l.fields) (map name_of (drop l.name-index l.names)) ≡ and_all_taken (taken_by l.initial.fields) (map name_of l.names);
  known : (n : ℕ) → all_below n (fields_in l.initial.fields) ≡ true → is_below n l.data_type ≡ true → all_below n (fields_in l.fields) ≡ true;
}
