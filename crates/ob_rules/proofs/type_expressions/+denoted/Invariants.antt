use Rattle.std.proofs.Common.{◌≡◌, drop, true, length}
use Rattle.ob_grammar.specs.View as Trees
use Rattle.ob_typing.specs.Types.{none_taken}
use Rattle.ob_typing.specs.TypeVerdicts.{denoted_fields}
use Rattle.ob_checked.specs.Types.{fields_in, all_below, Extends}
use Rattle.ob_scopes.specs.Names.{types_in, env_of}
use Rattle.ob_scopes.specs.TakenNames.{taken_by}
use Rattle.ob_rules.specs.Checking.{and_then}
use Rattle.ob_rules.specs.CheckingTypes.{behind_fields}
use Rattle.ob_rules.proofs.type_expressions.+denoted.Given as goal

-- what is left completes what is done
abbrev pub invariant-record_fields-loop-list : goal.invariant-record_fields-loop-list
invariant-record_fields-loop-list l = record {
  names : env_of l.scopes ≡ env_of l.initial.scopes;
  extends : Extends (types_in l.initial.scopes) (types_in l.scopes);
  known : all_below (length (types_in l.scopes)) (fields_in l.fields) ≡ true;
  left : denoted_fields (env_of l.initial.scopes) (Trees.fields_in l.lists) none_taken
      ≡ and_then (denoted_fields (env_of l.initial.scopes) (Trees.fields_in (drop l.list-index l.lists)) (taken_by l.fields)) (behind_fields (types_in l.scopes) (fields_in l.fields));
}
