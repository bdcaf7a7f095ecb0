use Rattle.std.proofs.Common.{refl, ◌≡◌, length, Some, None, map, option_map, sym, ap, ◌∙◌}
use Rattle.std.specs.Prelude.{slice_get}
use Rattle.std.proofs.lemmas.Option.{slice_get_read}
use Rattle.ob_grammar.specs.View.{name_of}
use Rattle.ob_typing.specs.Scopes.{is_declared}
use Rattle.ob_typing.specs.DeclarationFaults.{parameter_broken}
use Rattle.ob_typing.specs.Verdict.{unless_broken}
use Rattle.ob_scopes.specs.Names.{env_of}
use Rattle.ob_rules.proofs.Steps.{fails_when}
use Rattle.ob_rules.proofs.ParameterSteps.{first_bad, names_tested, got_past}
use Rattle.ob_rules.proofs.parameters.test_names.Goals as goal

pub returns-in-Some-clause-fault : goal.returns-in-Some-clause-fault
returns-in-Some-clause-fault c =
    let taken = is_declared (env_of c.args.scopes.now) in
    let found = sym (ap (option_map (λ n. name_of n.now)) c.in-Some.is) ∙ c.in_ok-name.ensures.second in
    let broken = names_tested taken c.args.names.now c.saturating_sub-left.result c.min-tested.result c.min-tested.ensures (Some (name_of c.in-Some.name.now)) found in
    let left = ap (λ n. parameter_broken taken n (map name_of c.args.names.now)) (sym c.saturating_sub-left.ensures) in
    fails_when c.broken.result _ c.broken.ensures _ (ap unless_broken (left ∙ broken))

pub returns-in-Some-get-clause-fault : goal.returns-in-Some-get-clause-fault
returns-in-Some-get-clause-fault c =
    let taken = is_declared (env_of c.args.scopes.now) in
    let found = sym (ap (option_map (λ n. name_of n.now)) c.in_default.is) ∙ c.in_ok-name.ensures.second in
    let next : slice_get c.args.names.now c.saturating_sub-left.result ≡ Some c.in-Some-get.name.now =
    slice_get_read c.args.names.now (length c.args.names.now) c.saturating_sub-left.result c.in-Some-get.name.now refl c.in-Some-get.ensures.lookup.3.0 c.in-Some-get.ensures.lookup.1 in
    let broken = names_tested taken c.args.names.now c.saturating_sub-left.result c.min-tested.result c.min-tested.ensures None found in
    let left = ap (λ n. parameter_broken taken n (map name_of c.args.names.now)) (sym c.saturating_sub-left.ensures) in
    fails_when c.broken-in-Some-get.result _ c.broken-in-Some-get.ensures _ (ap unless_broken (left ∙ broken ∙ ap (λ o. first_bad None (option_map name_of o)) next))

pub returns-in-None-clause-ok : goal.returns-in-None-clause-ok
returns-in-None-clause-ok c =
    let taken = is_declared (env_of c.args.scopes.now) in
    let found = sym (ap (option_map (λ n. name_of n.now)) c.in_default.is) ∙ c.in_ok-name.ensures.second in
    let next : slice_get c.args.names.now c.saturating_sub-left.result ≡ None =
    got_past c.args.names.now c.saturating_sub-left.result c.in-None.ensures.lookup.3 in
    ap (λ n. parameter_broken taken n (map name_of c.args.names.now)) (sym c.saturating_sub-left.ensures)
    ∙ names_tested taken c.args.names.now c.saturating_sub-left.result c.min-tested.result c.min-tested.ensures None found
    ∙ ap (λ o. first_bad None (option_map name_of o)) next
