use Rattle.std.proofs.Common.{◌+◌, arith, length, map, drop, sym, ap, ◌∙◌}
use Rattle.std.proofs.lemmas.List.{at_drop_all, append-nil}
use Rattle.ob_grammar.proofs.Exits.{passed_on}
use Rattle.ob_grammar.specs.View.{section_of}
use Rattle.ob_typing.specs.Verdict.{Right}
use Rattle.ob_typing.specs.ModuleVerdicts.{parameters}
use Rattle.ob_checked.specs.View.{parameter_of}
use Rattle.ob_scopes.specs.Objects.{known_parameters}
use Rattle.ob_scopes.specs.Names.{types_in, env_of}
use Rattle.ob_rules.specs.Checking.{and_then}
use Rattle.ob_rules.specs.CheckingVariables.{behind_parameters}
use Rattle.ob_rules.proofs.Steps.{bind_right, fails_as, fails_on}
use Rattle.ob_scopes.proofs.Kept.{extends_itself, extends_further}
use Rattle.ob_scopes.proofs.Lists.{next_left}
use Rattle.ob_rules.proofs.parameters.declare_parameters.Goals as goal

pub loop-section-init : goal.loop-section-init
loop-section-init c =
    let types = types_in c.args.scopes.now in
    let env = env_of c.args.scopes.now in
    let xs = map section_of c.args.sections.now in
    record {
      left = bind_right (parameters xs env 0) ∙ ap (λ ps. and_then (parameters xs env (length ps)) (behind_parameters types ps)) (sym c.new-parameters.ensures.items);
      known = ap (known_parameters (length types)) c.new-parameters.ensures.items;
      extends = extends_itself types;
    }

pub returns-in_err-declare_section-clause-fault : goal.returns-in_err-declare_section-clause-fault
returns-in_err-declare_section-clause-fault c =
    let l = c.loop-section in
    let behind = behind_parameters (types_in l.scopes) l.parameters.items in
    let next = next_left c.args.sections.now l.section-index c.section-item.result c.loop-section-test.true c.section-item.is in
    passed_on _ _ _ c.from_residual.ensures.1
    (fails_as _ _ _ (l.invariant.left ∙ ap (λ xs. and_then (parameters (map section_of xs) (env_of l.scopes) (length l.parameters.items)) behind) next)
    (fails_on _ _ _ (c.in_err-declare_section.ensures.fault (map section_of (drop (l.section-index + 1) c.args.sections.now)))))

pub loop-section-preserved : goal.loop-section-preserved
loop-section-preserved c =
    let l = c.loop-section in
    let behind = behind_parameters (types_in l.scopes) l.parameters.items in
    let next = next_left c.args.sections.now l.section-index c.section-item.result c.loop-section-test.true c.section-item.is in
    record {
      left =
          l.invariant.left ∙ ap (λ xs. and_then (parameters (map section_of xs) (env_of l.scopes) (length l.parameters.items)) behind) next
          ∙ c.in_ok-declare_section.ensures.ok (map section_of (drop (l.section-index + 1) c.args.sections.now));
      known = c.in_ok-declare_section.ensures.known;
      extends = extends_further _ _ _ l.invariant.extends c.in_ok-declare_section.ensures.extends;
    }

pub returns-clause-typed : goal.returns-clause-typed
returns-clause-typed c =
    let l = c.loop-section in
    let types = types_in l.scopes in
    let env = env_of l.scopes in
    let ps = l.parameters.items in
    l.invariant.left
    ∙ at_drop_all (λ xs. and_then (parameters (map section_of xs) env (length ps)) (behind_parameters types ps)) c.args.sections.now l.section-index (omega arith)
    ∙ ap (λ qs. Right (record { env = env; parameters = qs })) (append-nil (map (parameter_of types) ps))
