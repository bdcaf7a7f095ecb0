use Rattle.std.proofs.Common.{List, ℕ, None, ap, sym, ◌∙◌}
use Rattle.std.specs.Prelude.{string_bytes}
use Rattle.ob_typing.specs.Program as Programs
use Rattle.ob_typing.specs.Verdict.{Right}
use Rattle.ob_typing.specs.ExpressionVerdicts as Verdicts
use Rattle.ob_checked.specs.View.{table_of, owner_of, selectors_in}
use Rattle.ob_checked.specs.Types.{type_in}
use Rattle.ob_scopes.specs.Usages.{use_of}
use Rattle.ob_scopes.specs.Names.{value_of}
use Rattle.ob_rules.specs.Checking.{path_of}
use Rattle.ob_checked.proofs.Rows.{expression_of-value}
use Rattle.ob_rules.proofs.Tails.{variable_right}
use Rattle.ob_rules.proofs.expressions.value_at.Goals as goal

pub returns-in_ok-name-in-Variable-clause-typed : goal.returns-in_ok-name-in-Variable-clause-typed
returns-in_ok-name-in-Variable-clause-typed c =
    let types = table_of c.args.types.now in
    let t = c.in-Some.data_type in
    let v = c.in-Variable in
    let selectors = selectors_in c.args.path.selectors.items in
    let named : List ℕ → Programs.Slot = λ text. record { owner = owner_of v.owner; position = v.position; name = text } in
    let valued : Programs.Expression → Verdicts.Typed = λ e. record { type = t; code = e; value = None } in
    ap (λ x. Verdicts.named_value (use_of c.args.usage) c.args.name.now.place (value_of types (string_bytes c.args.name.now.text) x) (path_of types c.args.path)) v.is
    ∙ variable_right (use_of c.args.usage) c.args.name.now.place (named (string_bytes c.args.name.now.text)) (type_in types v.data_type) selectors t (type_in types c.args.path.data_type) c.in-Some.ensures
    ∙ ap (λ text. Right (valued (Programs.ValueOf t (Programs.Designated (named text) selectors)))) (sym c.in_ok-name-in-Variable.ensures.cases)
    ∙ ap (λ e. Right (valued e)) (sym (expression_of-value t
    (record { slot = record { owner = v.owner; position = v.position; name = c.in_ok-name-in-Variable.name }; selectors = c.args.path.selectors })))
