use Rattle.std.proofs.Common.{◌≡◌, map, drop, ◌++◌, length, true}
use Rattle.ob_grammar.specs.View.{name_of}
use Rattle.ob_typing.specs.Scopes.{words}
use Rattle.ob_typing.specs.Declarations.{first_beyond, with_variables, room_behind, variables_of}
use Rattle.ob_checked.specs.Types.{type_in}
use Rattle.ob_checked.specs.View.{variable_of}
use Rattle.ob_scopes.specs.Names.{types_in, env_of}
use Rattle.ob_rules.specs.CheckingVariables.{room_of, known_variables}
use Rattle.ob_rules.proofs.declarations.declare_names.Given as goal

-- what is left completes what is done
abbrev pub invariant-loop-name : goal.invariant-loop-name
invariant-loop-name l =
    let types = types_in l.initial.scopes in
    let t = type_in types l.data_type in
    record {
      table : types_in l.scopes ≡ types;
      fits : first_beyond (room_of l.fn.room) (words t) (map name_of l.names) ≡ first_beyond (room_of l.left) (words t) (map name_of (drop l.name-index l.names));
      names : with_variables (env_of l.initial.scopes) (room_of l.fn.room) t (map name_of l.names)
          ≡ with_variables (env_of l.scopes) (room_of l.left) t (map name_of (drop l.name-index l.names));
      room : room_behind (room_of l.fn.room) t (map name_of l.names) ≡ room_behind (room_of l.left) t (map name_of (drop l.name-index l.names));
      variables : map (variable_of types) l.variables.items ++ variables_of t (map name_of (drop l.name-index l.names))
          ≡ map (variable_of types) l.initial.variables.items ++ variables_of t (map name_of l.names);
      known : known_variables (length types) l.initial.variables.items ≡ true → known_variables (length types) l.variables.items ≡ true;
    }
