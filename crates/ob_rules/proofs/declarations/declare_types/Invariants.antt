use Rattle.std.proofs.Common.{◌≡◌, map, drop}
use Rattle.ob_grammar.specs.View.{type_decl_of}
use Rattle.ob_typing.specs.ModuleVerdicts.{types}
use Rattle.ob_checked.specs.Types.{Extends}
use Rattle.ob_scopes.specs.Names.{types_in, env_of}
use Rattle.ob_rules.proofs.declarations.declare_types.Given as goal

-- what is left, under what is declared, is what was to do
abbrev pub invariant-loop-declaration : goal.invariant-loop-declaration
invariant-loop-declaration l = record {
  left : types (map type_decl_of l.types) (env_of l.initial.scopes)
      ≡ types (map type_decl_of (drop l.declaration-index l.types)) (env_of l.scopes);
  extends : Extends (types_in l.initial.scopes) (types_in l.scopes);
}
