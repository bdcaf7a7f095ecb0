use Rattle.std.proofs.Common.{◌≡◌, ◌+◌, suc, ◌∷◌, ◌++◌, [], arith, length, map, drop, sym, ap, ◌∙◌}
use Rattle.std.proofs.lemmas.List.{at_drop_all, append-nil, length-append}
use Rattle.ob_grammar.specs.View.{name_of}
use Rattle.ob_grammar.proofs.Loops.{map-push}
use Rattle.ob_typing.specs.Scopes.{declared, variable_in}
use Rattle.ob_typing.specs.Declarations.{with_parameters, parameters_of}
use Rattle.ob_checked.specs.Types.{type_in, is_below}
use Rattle.ob_checked.specs.View.{parameter_of}
use Rattle.ob_scopes.specs.Objects.{known_parameters}
use Rattle.ob_scopes.specs.Names.{types_in, env_of}
use Rattle.ob_scopes.proofs.Lists.{next_left}
use Rattle.ob_rules.proofs.ParameterSteps.{parameter_pushed}
use Rattle.ob_rules.proofs.parameters.add_parameters.Goals as goal

pub declare_variable-requires : goal.declare_variable-requires
declare_variable-requires c = record { known = ap (λ es. is_below (length es) c.args.data_type) c.loop-name.invariant.table ∙ c.requires.known }

pub loop-name-preserved : goal.loop-name-preserved
loop-name-preserved c =
    let l = c.loop-name in
    let types = types_in c.args.scopes.now in
    let t = type_in types c.args.data_type in
    let name = name_of c.name-item.result in
    let rest = map name_of (drop (l.name-index + 1) c.args.names.now) in
    let next = next_left c.args.names.now l.name-index c.name-item.result c.loop-name-test.true c.name-item.is in
    let count : c.len.result ≡ length l.parameters.items = omega (arith, c.len.ensures) in
    let env : env_of c.declare_variable.new.self ≡ declared (env_of l.scopes) name.text (variable_in (env_of l.scopes) (length l.parameters.items) t) =
    c.in_ok-declare_variable.ensures.ok
    ∙ ap (λ text. declared (env_of l.scopes) text (variable_in (env_of l.scopes) c.len.result (type_in (types_in l.scopes) c.args.data_type))) c.deref.ensures
    ∙ ap (λ k. declared (env_of l.scopes) name.text (variable_in (env_of l.scopes) k (type_in (types_in l.scopes) c.args.data_type))) count
    ∙ ap (λ es. declared (env_of l.scopes) name.text (variable_in (env_of l.scopes) (length l.parameters.items) (type_in es c.args.data_type))) l.invariant.table in
    let longer : suc (length l.parameters.items) ≡ length c.push.new.self.items =
    omega (arith, ap length c.in_ok-push.ensures.items, length-append l.parameters.items (record { name = c.in_ok-name.name; is_var = c.args.is_var; data_type = c.args.data_type } ∷ [])) in
    record {
      table = c.in_ok-declare_variable.ensures.types ∙ l.invariant.table;
      names =
          l.invariant.names ∙ ap (λ xs. with_parameters (env_of l.scopes) (length l.parameters.items) t (map name_of xs)) next
          ∙ ap (λ e. with_parameters e (suc (length l.parameters.items)) t rest) (sym env)
          ∙ ap (λ k. with_parameters (env_of c.declare_variable.new.self) k t rest) longer;
      parameters =
          ap (λ ps. map (parameter_of types) ps ++ parameters_of c.args.is_var t rest) c.in_ok-push.ensures.items
          ∙ sym (map-push (parameter_of types) l.parameters.items (record { name = c.in_ok-name.name; is_var = c.args.is_var; data_type = c.args.data_type }) (parameters_of c.args.is_var t rest))
          ∙ ap (λ text. map (parameter_of types) l.parameters.items ++ record { name = text; is_var = c.args.is_var; type = t } ∷ parameters_of c.args.is_var t rest) c.in_ok-name.ensures.cases
          ∙ ap (λ xs. map (parameter_of types) l.parameters.items ++ parameters_of c.args.is_var t (map name_of xs)) (sym next)
          ∙ l.invariant.parameters;
      known = λ h. ap (known_parameters (length types)) c.in_ok-push.ensures.items ∙ parameter_pushed (length types) l.parameters.items _ (l.invariant.known h) c.requires.known;
    }

pub returns-clause-names : goal.returns-clause-names
returns-clause-names c =
    let l = c.loop-name in
    sym (l.invariant.names
    ∙ at_drop_all (λ xs. with_parameters (env_of l.scopes) (length l.parameters.items) (type_in (types_in c.args.scopes.now) c.args.data_type) (map name_of xs)) c.args.names.now l.name-index (omega arith))

pub returns-clause-parameters : goal.returns-clause-parameters
returns-clause-parameters c =
    let l = c.loop-name in
    let types = types_in c.args.scopes.now in
    let done = map (parameter_of types) l.parameters.items in
    sym (append-nil done) ∙ sym (at_drop_all (λ xs. done ++ parameters_of c.args.is_var (type_in types c.args.data_type) (map name_of xs)) c.args.names.now l.name-index (omega arith))
    ∙ l.invariant.parameters
