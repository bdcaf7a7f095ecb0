use Rattle.std.proofs.Common.{◌+◌, arith, length, map, drop, sym, ap, ◌∙◌}
use Rattle.std.proofs.lemmas.List.{at_drop_all, append-nil}
use Rattle.ob_grammar.proofs.Exits.{passed_on}
use Rattle.ob_grammar.specs.View.{var_decl_of}
use Rattle.ob_typing.specs.Verdict.{Right}
use Rattle.ob_typing.specs.ModuleVerdicts.{variables}
use Rattle.ob_checked.specs.View.{variable_of}
use Rattle.ob_scopes.specs.Names.{types_in, env_of}
use Rattle.ob_rules.specs.Checking.{and_then}
use Rattle.ob_rules.specs.CheckingVariables.{room_of, known_variables, behind_variables}
use Rattle.ob_rules.proofs.Steps.{bind_right, fails_as, fails_on}
use Rattle.ob_scopes.proofs.Kept.{extends_itself, extends_further}
use Rattle.ob_scopes.proofs.Lists.{next_left}
use Rattle.ob_rules.proofs.declarations.declare_variables.Goals as goal

pub loop-declaration-init : goal.loop-declaration-init
loop-declaration-init c =
    let types = types_in c.args.scopes.now in
    let v = variables (map var_decl_of c.args.declarations.now) (env_of c.args.scopes.now) (room_of c.args.room) in
    record {
      left = bind_right v ∙ ap (λ vs. and_then v (behind_variables types vs)) (sym c.new-variables.ensures.items);
      known = ap (known_variables (length types)) c.new-variables.ensures.items;
      extends = extends_itself types;
    }

pub returns-in_err-left-clause-fault : goal.returns-in_err-left-clause-fault
returns-in_err-left-clause-fault c =
    let l = c.loop-declaration in
    let behind = behind_variables (types_in l.scopes) l.variables.items in
    let next = next_left c.args.declarations.now l.declaration-index c.declaration-item.result c.loop-declaration-test.true c.declaration-item.is in
    passed_on _ _ _ c.from_residual.ensures.1
    (fails_as _ _ _ (l.invariant.left ∙ ap (λ xs. and_then (variables (map var_decl_of xs) (env_of l.scopes) (room_of l.left)) behind) next)
    (fails_on _ _ _ (c.in_err-left.ensures.fault (map var_decl_of (drop (l.declaration-index + 1) c.args.declarations.now)))))

pub loop-declaration-preserved : goal.loop-declaration-preserved
loop-declaration-preserved c =
    let l = c.loop-declaration in
    let behind = behind_variables (types_in l.scopes) l.variables.items in
    let next = next_left c.args.declarations.now l.declaration-index c.declaration-item.result c.loop-declaration-test.true c.declaration-item.is in
    record {
      left =
          l.invariant.left ∙ ap (λ xs. and_then (variables (map var_decl_of xs) (env_of l.scopes) (room_of l.left)) behind) next
          ∙ c.in_ok-left.ensures.typed (map var_decl_of (drop (l.declaration-index + 1) c.args.declarations.now));
      known = c.in_ok-left.ensures.known;
      extends = extends_further _ _ _ l.invariant.extends c.in_ok-left.ensures.extends;
    }

pub returns-clause-typed : goal.returns-clause-typed
returns-clause-typed c =
    let l = c.loop-declaration in
    let types = types_in l.scopes in
    let env = env_of l.scopes in
    l.invariant.left
    ∙ at_drop_all (λ xs. and_then (variables (map var_decl_of xs) env (room_of l.left)) (behind_variables types l.variables.items)) c.args.declarations.now l.declaration-index (omega arith)
    ∙ ap (λ vs. Right (record { env = env; variables = vs })) (append-nil (map (variable_of types) l.variables.items))
