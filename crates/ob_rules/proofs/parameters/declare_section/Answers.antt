use Rattle.std.proofs.Common.{rules, ◌≡◌, ◌-◌, ◌++◌, arith, length, map, true, None, sym, ap, ◌∙◌}
use Rattle.std.specs.Prelude.{◌||◌}
use Rattle.ob_grammar.specs.View.{name_of, section_of}
use Rattle.ob_typing.specs.Scopes.{is_declared, is_simple}
use Rattle.ob_typing.specs.Declarations.{most_parameters, with_parameters, parameters_of}
use Rattle.ob_typing.specs.DeclarationFaults.{parameter_broken}
use Rattle.ob_typing.specs.ModuleVerdicts.{parameters}
use Rattle.ob_checked.specs.Types.{type_in}
use Rattle.ob_checked.specs.View.{parameter_of}
use Rattle.ob_scopes.specs.Objects.{known_parameters}
use Rattle.ob_scopes.specs.Names.{types_in, env_of}
use Rattle.ob_rules.specs.Checking.{and_then}
use Rattle.ob_rules.specs.CheckingVariables.{behind_parameters}
use Rattle.ob_scopes.proofs.Kept.{parameters_more}
use Rattle.ob_rules.proofs.ParameterSteps.{section_step, counted}
use Rattle.ob_rules.proofs.parameters.declare_section.Goals as goal

pub returns-clause-ok : goal.returns-clause-ok
returns-clause-ok c =
    let env = env_of c.args.scopes.now in
    let old = types_in c.args.scopes.now in
    let mid = types_in c.formal_type.new.scopes in
    let ps = c.args.parameters.now.items in
    let qs = c.add_parameters.new.parameters.items in
    let x = section_of c.args.section.now in
    let t = type_in mid c.in_ok-data_type.data_type in
    let after = env_of c.add_parameters.new.scopes in
    let read = c.deref-2.ensures.value in
    let count : c.len.result ≡ length ps = omega (arith, c.len.ensures) in
    let new : parameter_broken (is_declared env) (most_parameters - length ps) x.names ≡ None =
    ap (λ k. parameter_broken (is_declared env) (most_parameters - k) x.names) (sym count)
    ∙ ap (λ ns. parameter_broken (is_declared env) (most_parameters - c.len.result) (map name_of ns)) (sym c.deref.ensures.value) ∙ c.in_ok-test_names.ensures.ok in
    let simple : (x.is_var || is_simple t) ≡ true = search rules in
    let grown : map (parameter_of mid) qs ≡ map (parameter_of mid) ps ++ parameters_of x.is_var t x.names =
    c.in_ok-add_parameters.ensures.parameters ∙ ap (λ ns. map (parameter_of mid) ps ++ parameters_of x.is_var t (map name_of ns)) read in
    let is : after ≡ with_parameters env (length ps) t x.names =
    c.in_ok-add_parameters.ensures.names ∙ ap (λ ns. with_parameters (env_of c.formal_type.new.scopes) (length ps) t (map name_of ns)) read
    ∙ ap (λ e. with_parameters e (length ps) t x.names) c.in_ok-data_type.ensures.names in
    λ rest.
    section_step env (length ps) x rest t new c.in_ok-data_type.ensures.typed simple old mid c.in_ok-data_type.ensures.extends ps qs c.requires.known grown after is
    (length qs) (counted (parameter_of mid) (λ n. record { name = n.text; is_var = x.is_var; type = t }) ps qs x.names grown)
    ∙ ap (λ es. and_then (parameters rest after (length qs)) (behind_parameters es qs)) (sym c.in_ok-add_parameters.ensures.types)

pub returns-clause-known : goal.returns-clause-known
returns-clause-known c =
    let n = length (types_in c.args.scopes.now) in
    let m = length (types_in c.formal_type.new.scopes) in
    ap (λ es. known_parameters (length es) c.add_parameters.new.parameters.items) c.in_ok-add_parameters.ensures.types
    ∙ c.in_ok-add_parameters.ensures.known (parameters_more n m c.in_ok-data_type.ensures.extends.longer c.args.parameters.now.items c.requires.known)
