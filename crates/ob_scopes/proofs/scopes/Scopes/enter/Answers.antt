use Rattle.std.proofs.Common.{[], ◌∷◌, ◌++◌, length, is_ok, if◌then◌else◌, ap, ◌∙◌}
use Rattle.ob_scopes.specs.Objects.{scope_of, env_behind}
use Rattle.ob_scopes.specs.Names.{types_in}
use Rattle.ob_scopes.proofs.Kept.{entered}
use Rattle.ob_scopes.proofs.Looked.{env_behind-push}
use Rattle.ob_scopes.proofs.scopes.Scopes.enter.Goals as goal

pub invariant_of-self : goal.invariant_of-self
invariant_of-self c =
    let s = c.args.self.now in
    record {
      known =
          entered (length (types_in s)) s.own c.args.scope s.around.items s.known c.requires.known (is_ok c.push.result) _ c.replace-outer.result _
          c.replace-outer.ensures.value c.replace-outer.ensures.after c.push.ensures.items;
    }

pub returns-in-Ok-clause-ok : goal.returns-in-Ok-clause-ok
returns-in-Ok-clause-ok c =
    let s = c.args.self.now in
    let types = types_in s in
    let pushed = c.push.ensures.items ∙ ap (λ r. if is_ok r then s.around.items ++ c.replace-outer.result ∷ [] else s.around.items) c.in-Ok.is in
    ap (λ x. scope_of types x ∷ env_behind types c.push.new.self.items []) c.replace-outer.ensures.after
    ∙ ap (λ ss. scope_of types c.args.scope ∷ env_behind types ss []) (pushed ∙ ap (λ x. s.around.items ++ x ∷ []) c.replace-outer.ensures.value)
    ∙ ap (λ env. scope_of types c.args.scope ∷ env) (env_behind-push types s.around.items s.own [])
