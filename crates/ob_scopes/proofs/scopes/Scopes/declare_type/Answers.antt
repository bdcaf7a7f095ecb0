use Rattle.std.proofs.Common.{[], ◌∷◌, ap}
use Rattle.std.proofs.lemmas.Result.{on_ok_weaker, on_err_weaker}
use Rattle.ob_typing.specs.Scopes.{Scope}
use Rattle.ob_scopes.specs.Objects.{env_behind}
use Rattle.ob_scopes.specs.Names.{types_in}
use Rattle.ob_scopes.proofs.scopes.Scopes.declare_type.Goals as goal

pub returns-clause-ok : goal.returns-clause-ok
returns-clause-ok c =
    let types = types_in c.args.self.now in
    on_ok_weaker c.add.result (λ h. ap (λ (s : Scope). s ∷ env_behind types c.args.self.now.around.items []) (h types)) c.add.ensures.ok

pub returns-clause-unchanged : goal.returns-clause-unchanged
returns-clause-unchanged c =
    let types = types_in c.args.self.now in
    on_err_weaker c.add.result (λ h. ap (λ (s : Scope). s ∷ env_behind types c.args.self.now.around.items []) (h types)) c.add.ensures.unchanged
