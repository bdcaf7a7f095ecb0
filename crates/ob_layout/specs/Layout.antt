-- What a layout knows of a program.
use Rattle.std.specs.Prelude.{ℕ, List, map}
use Rattle.ob_typing.specs.Program as Program
use Rattle.ob_code_scheme.specs.Types.{Scope, Space, variables_scope, frame_scope, scope_at}
use Rattle.ob_code_scheme.specs.Temporaries.{stack_words}
use Rattle.ob_layout.specs.declared.frames.Space as Spaces
use Rattle.ob_layout.specs.declared.layout.Layout.{Layout}
use Rattle.ob_layout.specs.Counted.{counted}
use Rattle.ob_layout.specs.Frames.{space_of, variable_by, scope_by}
use Rattle.ob_layout.specs.Shapes.{types_of}
use Rattle.ob_layout.specs.View.{shapes_of}

pub record LayoutParts : Type 0 where
  pub variables : List Program.Variable
  pub frames : List Scope  -- of each procedure the scope of its frame
  pub stack_words : ℕ  -- for any call; the greatest number where they are more

abbrev pub layout_of : Program.Program → LayoutParts
layout_of program = record {
  variables = program.variables;
  frames = map frame_scope program.procedures;
  stack_words = counted (stack_words program.procedures);
}

-- the types that the numbers of arrays and records stand for
abbrev pub types_in : Layout → List Program.DataType
types_in l = types_of (shapes_of l.shapes)

abbrev pub parts_of : Layout → LayoutParts
parts_of l = record {
  variables = map (variable_by (types_in l)) l.variables.items;
  frames = map (scope_by (types_in l)) l.frames.items;
  stack_words = l.stack_words;
}

-- the scope of the module's variables
abbrev pub block_in : Layout → Scope
block_in l = variables_scope (parts_of l).variables

-- the scope of the frame of the procedure of a number
abbrev pub frame_in : Layout → ℕ → Scope
frame_in l procedure = scope_at (parts_of l).frames procedure

-- what lies at a position
abbrev pub space_in : Layout → Spaces.Space → Space
space_in l s = space_of (types_in l) s.is_var s.data_type
