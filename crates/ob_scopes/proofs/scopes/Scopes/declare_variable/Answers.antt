use Rattle.std.proofs.Common.{◌≡◌, arith, [], ◌∷◌, length, ap, ◌∙◌}
use Rattle.std.proofs.lemmas.Result.{on_ok_weaker, on_err_weaker}
use Rattle.ob_typing.specs.Scopes.{Scope, with_name, variable_in}
use Rattle.ob_checked.specs.Types.{type_in}
use Rattle.ob_scopes.specs.Objects.{object_of, scope_of, env_behind}
use Rattle.ob_scopes.specs.Names.{types_in, env_of}
use Rattle.ob_scopes.proofs.Looked.{of_module, of_procedure}
use Rattle.ob_scopes.proofs.scopes.Scopes.declare_variable.Goals as goal
use Rattle.ob_scopes.proofs.scopes.Scopes.declare_variable.Goals.{then-level-eq-MODULE_LEVEL, else-level-eq-MODULE_LEVEL}

pub returns-clause-ok : goal.returns-clause-ok
returns-clause-ok c =
    let s = c.args.self.now in
    let types = types_in s in
    let own = scope_of types s.own in
    let outer = env_behind types s.around.items [] in
    let t = type_in types c.args.data_type in
    let is : object_of types c.if-level-eq-MODULE_LEVEL.variable ≡ variable_in (env_of s) c.args.position t =
    elim c.if-level-eq-MODULE_LEVEL.branch [
      | then-level-eq-MODULE_LEVEL w ↦
          let one : length outer ≡ 1 = omega (arith, w.if-level-eq-MODULE_LEVEL.true, c.level-level.ensures) in
          ap (object_of types) w.variable-is ∙ of_module own outer c.args.position t one
      | else-level-eq-MODULE_LEVEL w ↦
          ap (object_of types) w.variable-is ∙ of_procedure own outer c.args.position t c.level-level.result c.level-level.ensures w.if-level-eq-MODULE_LEVEL.false
    ] in
    on_ok_weaker c.add.result (λ h. ap (λ (x : Scope). x ∷ outer) (h types ∙ ap (with_name own c.args.name.now) is)) c.add.ensures.ok

pub returns-clause-unchanged : goal.returns-clause-unchanged
returns-clause-unchanged c =
    let types = types_in c.args.self.now in
    on_err_weaker c.add.result (λ h. ap (λ (s : Scope). s ∷ env_behind types c.args.self.now.around.items []) (h types)) c.add.ensures.unchanged
