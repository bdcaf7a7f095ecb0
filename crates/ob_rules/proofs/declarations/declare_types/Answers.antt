use Rattle.std.proofs.Common.{◌+◌, map, drop, ap, ◌∙◌}
use Rattle.ob_grammar.proofs.Exits.{passed_on}
use Rattle.ob_grammar.specs.View.{type_decl_of}
use Rattle.ob_typing.specs.ModuleVerdicts.{types}
use Rattle.ob_scopes.specs.Names.{env_of}
use Rattle.ob_rules.proofs.Steps.{fails_as}
use Rattle.ob_scopes.proofs.Lists.{next_left}
use Rattle.ob_rules.proofs.declarations.declare_types.Goals as goal

pub returns-in_err-declare_type-clause-fault : goal.returns-in_err-declare_type-clause-fault
returns-in_err-declare_type-clause-fault c =
    let l = c.loop-declaration in
    let next = next_left c.args.types.now l.declaration-index c.declaration-item.result c.loop-declaration-test.true c.declaration-item.is in
    passed_on _ _ _ c.from_residual.ensures.1
    (fails_as _ _ _ (l.invariant.left ∙ ap (λ xs. types (map type_decl_of xs) (env_of l.scopes)) next)
    (c.in_err-declare_type.ensures.fault (map type_decl_of (drop (l.declaration-index + 1) c.args.types.now))))
