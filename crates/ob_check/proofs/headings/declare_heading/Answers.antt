use Rattle.std.proofs.Common.{◌≡◌, arith, suc, [], length, map, true, false, sym, ap, ◌∙◌}
use Rattle.std.specs.Prelude.{◌||◌, not}
use Rattle.ob_grammar.proofs.Exits.{passed_on}
use Rattle.ob_grammar.specs.View.{heading_of}
use Rattle.ob_typing.specs.Declarations.{all_simple, inner_scope, with_procedure}
use Rattle.ob_typing.specs.Verdict.{Right}
use Rattle.ob_checked.specs.View.{table_of, parameter_of}
use Rattle.ob_scopes.specs.Objects.{env_behind}
use Rattle.ob_scopes.specs.Names.{types_in, env_of}
use Rattle.ob_rules.proofs.Steps.{fails_on, fails_when}
use Rattle.ob_check.specs.CheckingProcedures.{around}
use Rattle.ob_check.proofs.HeadingSteps.{headed_right, headed_wrong, structured_export, simple_export, no_export}
use Rattle.ob_check.proofs.headings.declare_heading.Goals as goal
use Rattle.ob_check.proofs.headings.declare_heading.Goals.{else-tree-via-then-tree+else-not-all_simple, else-tree-via-else-tree}

pub returns-in_err-parameters-clause-fault : goal.returns-in_err-parameters-clause-fault
returns-in_err-parameters-clause-fault c = passed_on _ _ _ c.from_residual.ensures.1 (fails_on _ _ _ c.in_err-parameters.ensures.fault)

pub returns-then-not-all_simple-clause-fault : goal.returns-then-not-all_simple-clause-fault
returns-then-not-all_simple-clause-fault c =
    let heading = heading_of c.args.tree.now in
    let inside = env_of c.enter_parameters.new.scopes in
    let ps = c.in_ok-parameters.parameters.items in
    let formal = map (parameter_of (types_in c.enter_parameters.new.scopes)) ps in
    let structured : all_simple formal ≡ false =
    ap (λ es. all_simple (map (parameter_of es) ps)) (sym c.types.ensures)
    ∙ ap (λ qs. all_simple (map (parameter_of (table_of c.types.result.now)) qs)) (sym c.deref.ensures.value) ∙ sym c.all_simple.ensures ∙ c.if-not-all_simple.true in
    fails_when c.broken.result _ c.broken.ensures _
    (headed_wrong (env_of c.args.scopes.now) c.args.number heading inside formal c.in_ok-parameters.ensures.typed (structured_export heading.is_exported (all_simple formal) c.if-tree.true structured))

pub declare_around-requires : goal.declare_around-requires
declare_around-requires c =
    let s = c.enter_parameters.new.scopes in
    let before = c.args.scopes.now in
    let count : length (env_behind (types_in s) s.around.items []) ≡ suc (length (env_behind (types_in before) before.around.items [])) = ap length c.in_ok-parameters.ensures.around in
    record {
      within = omega (arith, count);
      known = rw c.deref-2.ensures.value c.in_ok-parameters.ensures.known;
    }

-- the names under which the rest of the procedure stands

pub returns-clause-typed : goal.returns-clause-typed
returns-clause-typed c =
    let env = env_of c.args.scopes.now in
    let heading = heading_of c.args.tree.now in
    let inside = env_of c.enter_parameters.new.scopes in
    let types = types_in c.enter_parameters.new.scopes in
    let ps = c.in_ok-parameters.parameters.items in
    let formal = map (parameter_of types) ps in
    let after = env_of c.declare_around.new.scopes in
    let is : after ≡ inner_scope inside (with_procedure env c.args.number heading formal) =
    c.in_ok-declare_around.ensures.names
    ∙ ap (λ qs. inner_scope inside (with_procedure (around inside) c.args.number heading (map (parameter_of types) qs))) c.deref-2.ensures.value
    ∙ ap (λ e. inner_scope inside (with_procedure e c.args.number heading formal)) c.in_ok-parameters.ensures.around in
    let simple : (not heading.is_exported || all_simple formal) ≡ true =
    elim c.else-tree.branch [
      | else-tree-via-then-tree+else-not-all_simple w ↦
          simple_export heading.is_exported (all_simple formal)
          (ap (λ es. all_simple (map (parameter_of es) ps)) (sym w.types.ensures)
          ∙ ap (λ qs. all_simple (map (parameter_of (table_of w.types.result.now)) qs)) (sym w.deref.ensures.value) ∙ sym w.all_simple.ensures ∙ w.if-not-all_simple.false)
      | else-tree-via-else-tree w ↦ no_export heading.is_exported (all_simple formal) w.if-tree.false
    ] in
    headed_right env c.args.number heading inside formal c.in_ok-parameters.ensures.typed simple after is
    ∙ ap (λ es. Right (record { env = after; parameters = map (parameter_of es) ps })) (sym c.in_ok-declare_around.ensures.types)

pub returns-clause-around : goal.returns-clause-around
returns-clause-around c =
    let n = c.args.number in
    let heading = heading_of c.args.tree.now in
    let inside = env_of c.enter_parameters.new.scopes in
    let types = types_in c.enter_parameters.new.scopes in
    let ps = c.in_ok-parameters.parameters.items in
    ap around c.in_ok-declare_around.ensures.names
    ∙ ap (λ qs. with_procedure (around inside) n heading (map (parameter_of types) qs)) c.deref-2.ensures.value
    ∙ ap (λ e. with_procedure e n heading (map (parameter_of types) ps)) c.in_ok-parameters.ensures.around
    ∙ ap (λ es. with_procedure (env_of c.args.scopes.now) n heading (map (parameter_of es) ps)) (sym c.in_ok-declare_around.ensures.types)
