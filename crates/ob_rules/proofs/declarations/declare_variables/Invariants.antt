use Rattle.std.proofs.Common.{◌≡◌, map, drop, length, true}
use Rattle.ob_grammar.specs.View.{var_decl_of}
use Rattle.ob_typing.specs.ModuleVerdicts.{variables}
use Rattle.ob_checked.specs.Types.{Extends}
use Rattle.ob_scopes.specs.Names.{types_in, env_of}
use Rattle.ob_rules.specs.Checking.{and_then}
use Rattle.ob_rules.specs.CheckingVariables.{room_of, known_variables, behind_variables}
use Rattle.ob_rules.proofs.declarations.declare_variables.Given as goal

-- what is left, under what is declared, completes what is done
abbrev pub invariant-loop-declaration : goal.invariant-loop-declaration
invariant-loop-declaration l = record {
  left : variables (map var_decl_of l.declarations) (env_of l.initial.scopes) (room_of l.fn.room)
      ≡ and_then (variables (map var_decl_of (drop l.declaration-index l.declarations)) (env_of l.scopes) (room_of l.left)) (behind_variables (types_in l.scopes) l.variables.items);
  known : known_variables (length (types_in l.scopes)) l.variables.items ≡ true;
  extends : Extends (types_in l.initial.scopes) (types_in l.scopes);
}
