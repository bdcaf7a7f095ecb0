use Rattle.std.proofs.Common.{◌≡◌, ◌∷◌, map, sym, ap, ◌∙◌}
use Rattle.ob_grammar.specs.View.{heading_of}
use Rattle.ob_typing.specs.Scopes.{ProcedureName, declared}
use Rattle.ob_typing.specs.Declarations.{inner_scope, with_procedure}
use Rattle.ob_checked.specs.View.{parameter_of}
use Rattle.ob_scopes.specs.Objects.{scope_of}
use Rattle.ob_scopes.specs.Names.{types_in, env_of}
use Rattle.ob_check.specs.CheckingProcedures.{around}
use Rattle.ob_check.proofs.headings.declare_around.Goals as goal

pub returns-clause-names : goal.returns-clause-names
returns-clause-names c =
    let n = c.args.number in
    let heading = heading_of c.args.tree.now in
    let types = types_in c.args.scopes.now in
    let env = around (env_of c.args.scopes.now) in
    let ps = c.args.parameters.now in
    let left : env_of c.leave-own.new.self ≡ env = sym (ap around c.leave-own.ensures.scope) in
    let copied : map (parameter_of (types_in c.leave-own.new.self)) c.in_ok-copied.copied.items ≡ map (parameter_of types) ps =
    c.in_ok-copied.ensures.same (types_in c.leave-own.new.self) ∙ ap (λ es. map (parameter_of es) ps) c.leave-own.ensures.types in
    let outside : env_of c.declare_procedure.new.self ≡ with_procedure env n heading (map (parameter_of types) ps) =
    c.in_ok-declare_procedure.ensures.ok
    ∙ ap (λ text. declared (env_of c.leave-own.new.self) text (ProcedureName n (map (parameter_of (types_in c.leave-own.new.self)) c.in_ok-copied.copied.items))) c.deref.ensures
    ∙ ap (λ e. declared e heading.name.text (ProcedureName n (map (parameter_of (types_in c.leave-own.new.self)) c.in_ok-copied.copied.items))) left
    ∙ ap (λ us. declared env heading.name.text (ProcedureName n us)) copied in
    c.in_ok-enter.ensures.ok
    ∙ ap (λ es. scope_of es c.leave-own.result ∷ env_of c.declare_procedure.new.self) (c.declare_procedure.ensures.types ∙ c.leave-own.ensures.types)
    ∙ ap (λ e. scope_of types c.leave-own.result ∷ e) outside
    ∙ ap (λ e. inner_scope e (with_procedure env n heading (map (parameter_of types) ps))) (sym c.leave-own.ensures.scope)
