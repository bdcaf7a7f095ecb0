use Rattle.std.proofs.Common.{map, ap, ◌∙◌}
use Rattle.std.proofs.lemmas.Result.{IfOk-weaker}
use Rattle.ob_grammar.specs.View.{name_of}
use Rattle.ob_typing.specs.Types.{second}
use Rattle.ob_scopes.proofs.Seconds.{taken_by-positions}
use Rattle.ob_rules.proofs.type_expressions.second_field.Goals as goal

pub returns-clause-second : goal.returns-clause-second
returns-clause-second c =
    IfOk-weaker c.second.result _ _
    (λ r h. h ∙ ap (λ t. second t (map name_of c.args.names.now)) (taken_by-positions c.args.fields.now c.positions.result.now c.positions.ensures))
    c.second.ensures.second
