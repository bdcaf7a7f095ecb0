use Rattle.std.proofs.Common.{◌≡◌, map, drop}
use Rattle.ob_grammar.specs.View.{const_decl_of}
use Rattle.ob_typing.specs.ModuleVerdicts.{constants}
use Rattle.ob_scopes.specs.Names.{types_in, env_of}
use Rattle.ob_rules.proofs.declarations.declare_constants.Given as goal

-- what is left, under what is declared, is what was to do
abbrev pub invariant-loop-declaration : goal.invariant-loop-declaration
invariant-loop-declaration l = record {
  left : constants (map const_decl_of l.constants) (env_of l.initial.scopes)
      ≡ constants (map const_decl_of (drop l.declaration-index l.constants)) (env_of l.scopes);
  types : types_in l.scopes ≡ types_in l.initial.scopes;
}
