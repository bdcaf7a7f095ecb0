use Rattle.std.proofs.Common.{◌≡◌, ◌+◌, drop, length, true}
use Rattle.ob_grammar.specs.View.{procedures_in}
use Rattle.ob_typing.specs.ModuleVerdicts.{procedures}
use Rattle.ob_checked.specs.Types.{Extends}
use Rattle.ob_scopes.specs.Names.{types_in, env_of}
use Rattle.ob_rules.specs.Checking.{and_then}
use Rattle.ob_check.specs.CheckingProcedures.{known_procedures, behind_procedures}
use Rattle.ob_check.proofs.procedures.+declarations.Given as goal

-- what is left, under what is declared, completes what is done
abbrev pub invariant-declare_procedures-loop-tree : goal.invariant-declare_procedures-loop-tree
invariant-declare_procedures-loop-tree l = record {
  left : procedures (procedures_in l.trees) (env_of l.initial.scopes) l.first 0
      ≡ and_then (procedures (procedures_in (drop l.tree-index l.trees)) (env_of l.scopes) (l.first + length l.procedures.items) l.exported) (behind_procedures (types_in l.scopes) l.procedures.items);
  known : known_procedures (length (types_in l.scopes)) l.procedures.items ≡ true;
  extends : Extends (types_in l.initial.scopes) (types_in l.scopes);
}
