use Rattle.std.proofs.Common.{rules, ◌≡◌, ◌++◌, length, map, None, sym, ap, ◌∙◌}
use Rattle.std.proofs.lemmas.Result.{on_ok_weaker}
use Rattle.ob_grammar.specs.View.{name_of, var_decl_of}
use Rattle.ob_typing.specs.Scopes.{is_declared, words}
use Rattle.ob_typing.specs.Types.{second}
use Rattle.ob_typing.specs.Declarations.{first_beyond, with_variables, room_behind, variables_of}
use Rattle.ob_typing.specs.ModuleVerdicts.{variables}
use Rattle.ob_checked.specs.Types.{type_in}
use Rattle.ob_checked.specs.View.{variable_of}
use Rattle.ob_scopes.specs.Names.{types_in, env_of}
use Rattle.ob_rules.specs.Checking.{and_then}
use Rattle.ob_rules.specs.CheckingVariables.{room_of, known_variables, behind_variables}
use Rattle.ob_rules.proofs.Steps.{on_ok_both, if_ok_with}
use Rattle.ob_rules.proofs.DeclarationSteps.{variable_step, variables_more}
use Rattle.ob_rules.proofs.declarations.declare_of_type.Goals as goal

pub returns-clause-typed : goal.returns-clause-typed
returns-clause-typed c =
    let env = env_of c.args.scopes.now in
    let old = types_in c.args.scopes.now in
    let mid = types_in c.denoted.new.scopes in
    let vs = c.args.variables.now.items in
    let ws = c.declare_names.new.variables.items in
    let room = room_of c.args.room in
    let x = var_decl_of c.args.declaration.now in
    let t = type_in mid c.in_ok-data_type.data_type in
    let read = c.deref-2.ensures.value in
    let after = env_of c.declare_names.new.scopes in
    let free : second (is_declared env) x.names ≡ None = search rules in
    if_ok_with _ _ _ c.declare_names.result
    (on_ok_both _ _ c.declare_names.result c.declare_names.ensures.fits
    (on_ok_both _ _ c.declare_names.result c.declare_names.ensures.names (on_ok_both _ _ c.declare_names.result c.declare_names.ensures.variables c.declare_names.ensures.types)))
    c.declare_names.ensures.room
    (λ r a there rest.
    variable_step env room x rest t free c.in_ok-data_type.ensures.typed
    (ap (λ ns. first_beyond room (words t) (map name_of ns)) (sym read) ∙ a.0) old mid c.in_ok-data_type.ensures.extends vs ws c.requires.known
    (a.1.1.0 ∙ ap (λ ns. map (variable_of mid) vs ++ variables_of t (map name_of ns)) read)
    after (a.1.0 ∙ ap (λ ns. with_variables (env_of c.denoted.new.scopes) room t (map name_of ns)) read ∙ ap (λ e. with_variables e room t x.names) c.in_ok-data_type.ensures.names)
    (room_of r) (there ∙ ap (λ ns. room_behind room t (map name_of ns)) read)
    ∙ ap (λ es. and_then (variables rest after (room_of r)) (behind_variables es ws)) (sym a.1.1.1))

pub returns-clause-known : goal.returns-clause-known
returns-clause-known c =
    let n = length (types_in c.args.scopes.now) in
    let m = length (types_in c.denoted.new.scopes) in
    on_ok_weaker c.declare_names.result
    (λ h. ap (λ es. known_variables (length es) c.declare_names.new.variables.items) h.1
    ∙ h.0 (variables_more n m c.in_ok-data_type.ensures.extends.longer c.args.variables.now.items c.requires.known))
    (on_ok_both _ _ c.declare_names.result c.declare_names.ensures.known c.declare_names.ensures.types)
