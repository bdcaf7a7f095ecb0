use Rattle.std.proofs.Common.{map, ap, ◌∙◌}
use Rattle.ob_code_scheme.specs.Types.{Holding, space_at, variables_scope}
use Rattle.ob_checked.specs.Types.{type_by}
use Rattle.ob_layout.specs.Frames.{variable_by}
use Rattle.ob_layout.specs.Shapes.{types_of}
use Rattle.ob_layout.specs.View.{shapes_of}
use Rattle.ob_layout.proofs.Counted.{variable_space, variable_past}
use Rattle.ob_layout.proofs.layout.Layout.variable.Goals.{in-Some, in-None}
use Rattle.ob_layout.proofs.layout.Layout.variable.Goals as goal

pub returns-clause-space : goal.returns-clause-space
returns-clause-space c =
    let ts = types_of (shapes_of c.args.self.now.shapes) in
    let here = ap (λ vs. space_at (variables_scope (map (variable_by ts) vs)) c.args.position) c.deref.ensures.value in
    elim c.match-get.branch [
      | in-Some w ↦
          ap (λ t. Holding (type_by ts t)) w.data_type-is
          ∙ variable_space ts c.deref.result.now c.args.position w.in-Some.variable.now w.in-Some.ensures.lookup.3.0 w.in-Some.ensures.lookup.1 ∙ here
      | in-None w ↦ ap (λ t. Holding (type_by ts t)) w.data_type-is ∙ variable_past ts c.deref.result.now c.args.position w.in-None.ensures.lookup.3 ∙ here
    ]
