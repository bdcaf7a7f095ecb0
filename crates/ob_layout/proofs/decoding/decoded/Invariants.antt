use Rattle.std.proofs.Common.{◌≡◌, ◌++◌, map, drop, option_map}
use Rattle.ob_code_scheme.specs.Layout as Words
use Rattle.ob_store.specs.View.{variables_in}
use Rattle.ob_layout.specs.Frames.{variable_by}
use Rattle.ob_layout.specs.Shapes.{types_of}
use Rattle.ob_layout.specs.View.{shapes_of}
use Rattle.ob_layout.proofs.decoding.decoded.Given as goal

-- the values so far, and those of the variables that are left
abbrev pub invariant-loop-variable : goal.invariant-loop-variable
invariant-loop-variable l =
    option_map (λ s. variables_in l.values.items ++ s) (Words.decoded (map (variable_by (types_of (shapes_of l.shapes))) (drop l.variable-index l.variables)) (drop l.at l.words))
    ≡ Words.decoded (map (variable_by (types_of (shapes_of l.shapes))) l.variables) l.words
