use Rattle.std.proofs.Common.{◌≡◌, map, drop, length, true}
use Rattle.ob_grammar.specs.View.{section_of}
use Rattle.ob_typing.specs.ModuleVerdicts.{parameters}
use Rattle.ob_checked.specs.Types.{Extends}
use Rattle.ob_scopes.specs.Objects.{known_parameters}
use Rattle.ob_scopes.specs.Names.{types_in, env_of}
use Rattle.ob_rules.specs.Checking.{and_then}
use Rattle.ob_rules.specs.CheckingVariables.{behind_parameters}
use Rattle.ob_rules.proofs.parameters.declare_parameters.Given as goal

-- what is left, under what is declared, completes what is done
abbrev pub invariant-loop-section : goal.invariant-loop-section
invariant-loop-section l = record {
  left : parameters (map section_of l.sections) (env_of l.initial.scopes) 0
      ≡ and_then (parameters (map section_of (drop l.section-index l.sections)) (env_of l.scopes) (length l.parameters.items)) (behind_parameters (types_in l.scopes) l.parameters.items);
  known : known_parameters (length (types_in l.scopes)) l.parameters.items ≡ true;
  extends : Extends (types_in l.initial.scopes) (types_in l.scopes);
}
