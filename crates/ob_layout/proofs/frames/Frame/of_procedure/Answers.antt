use Rattle.std.proofs.Common.{map, ap, ◌++◌, ◌∙◌, arith}
use Rattle.ob_code_scheme.specs.Types.{extent}
use Rattle.ob_layout.specs.Frames.{space_by, variables_by, parameters_by}
use Rattle.ob_layout.specs.Shapes.{types_of}
use Rattle.ob_layout.specs.View.{shapes_of}
use Rattle.ob_code_scheme.proofs.Fine.{extent-append}
use Rattle.ob_layout.proofs.frames.Frame.of_procedure.Goals as goal

pub add_parameters-requires-clause-small : goal.add_parameters-requires-clause-small
add_parameters-requires-clause-small c =
    let ts = types_of (shapes_of c.args.shapes.now) in
    let both = extent-append (parameters_by ts c.args.procedure.now.parameters.items) (variables_by ts c.args.procedure.now.variables.items) in
    let none = ap (λ ss. extent (map (space_by ts) ss)) c.new-frame.ensures.spaces in
    let here = ap (λ ps. extent (parameters_by ts ps)) c.as_slice.ensures.value in
    omega (arith, both, none, here, c.requires)

pub add_variables-requires-clause-small : goal.add_variables-requires-clause-small
add_variables-requires-clause-small c =
    let ts = types_of (shapes_of c.args.shapes.now) in
    let both = extent-append (parameters_by ts c.args.procedure.now.parameters.items) (variables_by ts c.args.procedure.now.variables.items) in
    let first = ap extent (c.in_ok-add_parameters.ensures.scope ∙ ap (λ ss. map (space_by ts) ss ++ parameters_by ts c.as_slice.result.now) c.new-frame.ensures.spaces) in
    let here = ap (λ ps. extent (parameters_by ts ps)) c.as_slice.ensures.value in
    let behind = ap (λ vs. extent (variables_by ts vs)) c.as_slice-2.ensures.value in
    omega (arith, both, first, here, behind, c.requires)
