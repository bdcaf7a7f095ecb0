use Rattle.std.proofs.Common.{◌≡◌, map, drop, ◌++◌, length, true}
use Rattle.ob_grammar.specs.View.{name_of}
use Rattle.ob_typing.specs.Declarations.{with_parameters, parameters_of}
use Rattle.ob_checked.specs.Types.{type_in}
use Rattle.ob_checked.specs.View.{parameter_of}
use Rattle.ob_scopes.specs.Objects.{known_parameters}
use Rattle.ob_scopes.specs.Names.{types_in, env_of}
use Rattle.ob_rules.proofs.parameters.add_parameters.Given as goal

-- what is left completes what is done
abbrev pub invariant-loop-name : goal.invariant-loop-name
invariant-loop-name l =
    let types = types_in l.initial.scopes in
    let t = type_in types l.data_type in
    record {
      table : types_in l.scopes ≡ types;
      names : with_parameters (env_of l.initial.scopes) (length l.initial.parameters.items) t (map name_of l.names)
          ≡ with_parameters (env_of l.scopes) (length l.parameters.items) t (map name_of (drop l.name-index l.names));
      parameters : map (parameter_of types) l.parameters.items ++ parameters_of l.is_var t (map name_of (drop l.name-index l.names))
          ≡ map (parameter_of types) l.initial.parameters.items ++ parameters_of l.is_var t (map name_of l.names);
      known : known_parameters (length types) l.initial.parameters.items ≡ true → known_parameters (length types) l.parameters.items ≡ true;
    }
