use Rattle.std.proofs.Common.{◌+◌, arith, map, drop, ap, ◌∙◌}
use Rattle.std.proofs.lemmas.List.{at_drop_all}
use Rattle.ob_grammar.proofs.Exits.{passed_on}
use Rattle.ob_grammar.specs.View.{const_decl_of}
use Rattle.ob_typing.specs.ModuleVerdicts.{constants}
use Rattle.ob_scopes.specs.Names.{env_of}
use Rattle.ob_rules.proofs.Steps.{fails_as}
use Rattle.ob_scopes.proofs.Lists.{next_left}
use Rattle.ob_rules.proofs.declarations.declare_constants.Goals as goal

pub returns-in_err-declare_constant-clause-fault : goal.returns-in_err-declare_constant-clause-fault
returns-in_err-declare_constant-clause-fault c =
    let l = c.loop-declaration in
    let next = next_left c.args.constants.now l.declaration-index c.declaration-item.result c.loop-declaration-test.true c.declaration-item.is in
    passed_on _ _ _ c.from_residual.ensures.1
    (fails_as _ _ _ (l.invariant.left ∙ ap (λ xs. constants (map const_decl_of xs) (env_of l.scopes)) next)
    (c.in_err-declare_constant.ensures.fault (map const_decl_of (drop (l.declaration-index + 1) c.args.constants.now))))

pub loop-declaration-preserved : goal.loop-declaration-preserved
loop-declaration-preserved c =
    let l = c.loop-declaration in
    let next = next_left c.args.constants.now l.declaration-index c.declaration-item.result c.loop-declaration-test.true c.declaration-item.is in
    record {
      left =
          l.invariant.left ∙ ap (λ xs. constants (map const_decl_of xs) (env_of l.scopes)) next
          ∙ c.in_ok-declare_constant.ensures.ok (map const_decl_of (drop (l.declaration-index + 1) c.args.constants.now));
      types = c.in_ok-declare_constant.ensures.types ∙ l.invariant.types;
    }

pub returns-clause-ok : goal.returns-clause-ok
returns-clause-ok c =
    let l = c.loop-declaration in
    l.invariant.left ∙ at_drop_all (λ xs. constants (map const_decl_of xs) (env_of l.scopes)) c.args.constants.now l.declaration-index (omega arith)
