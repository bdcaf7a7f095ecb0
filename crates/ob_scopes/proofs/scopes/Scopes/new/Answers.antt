use Rattle.std.proofs.Common.{[], ◌∷◌, ◌++◌, ap, ◌∙◌}
use Rattle.ob_typing.specs.Scopes.{Scope, no_names}
use Rattle.ob_checked.specs.View.{table_of}
use Rattle.ob_scopes.specs.Objects.{env_behind}
use Rattle.ob_scopes.proofs.Declared.{scope_of-empty}
use Rattle.ob_scopes.proofs.scopes.Scopes.new.Goals as goal

pub returns-clause-opening : goal.returns-clause-opening
returns-clause-opening c =
    let types = table_of c.new.result in
    let own = scope_of-empty types c.new-2.result c.new-2.ensures.empty in
    let around = c.in_ok-push.ensures.items ∙ ap (λ ss. ss ++ c.in_ok-outermost.outermost ∷ []) c.new-around.ensures.items in
    ap (λ (s : Scope). s ∷ env_behind types c.push.new.self.items []) own
    ∙ ap (λ ss. no_names ∷ env_behind types ss []) around
    ∙ ap (λ (s : Scope). no_names ∷ s ∷ []) (c.in_ok-outermost.ensures.names types)
