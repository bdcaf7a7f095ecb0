-- The scopes that frames stand for, where the numbers of types stand for these.
use Rattle.std.specs.Prelude.{◌≡◌, ℕ, ◌<◌, ◌^◌, Bool, false, List, ◌++◌, map, Some, slice_get, string_bytes, if◌then◌else◌}
use Rattle.ob_typing.specs.Program as Program
use Rattle.ob_code_scheme.specs.Types.{Space, Holding, Referring, Scope, extent, word_in, variables_scope, parameters_scope}
use Rattle.ob_checked.specs.Types.{type_by}
use Rattle.ob_interface.specs.declared.scalar.ScalarType.TheVariants.{Integer}
use Rattle.ob_checked.specs.declared.types.DataType.{DataType}
use Rattle.ob_checked.specs.declared.types.DataType.TheVariants.{Simple}
use Rattle.ob_checked.specs.declared.program.Parameter.{Parameter}
use Rattle.ob_checked.specs.declared.program.Variable.{Variable}
use Rattle.ob_checked.specs.declared.program.Procedure.{Procedure}
use Rattle.ob_layout.specs.declared.frames.Space as Spaces
use Rattle.ob_layout.specs.declared.frames.Frame.{Frame}

abbrev pub spaces_of : Frame → List Spaces.Space
spaces_of f = f.spaces.items

abbrev pub frame_words_of : Frame → ℕ
frame_words_of f = f.words

-- an INTEGER behind so many words
pub record IsEnd (count : ℕ) (s : Spaces.Space) : Type 0 where
  pub is_value : s.is_var ≡ false
  pub type : s.data_type ≡ Simple Integer
  pub word : s.word ≡ count

module _ (ts : List Program.DataType) where
  abbrev pub space_of : Bool → DataType → Space
  space_of is_var t = if is_var then Referring (type_by ts t) else Holding (type_by ts t)

  abbrev pub space_by : Spaces.Space → Space
  space_by s = space_of s.is_var s.data_type

  abbrev pub scope_by : Frame → Scope
  scope_by f = map space_by f.spaces.items

  -- the second frame has the positions of the first one, and these behind them
  abbrev pub AddsBehind : (old new : Frame) → Scope → Type 0
  AddsBehind old new more = scope_by new ≡ scope_by old ++ more

  abbrev pub variable_by : Variable → Program.Variable
  variable_by v = record { name = string_bytes v.name; type = type_by ts v.data_type }

  abbrev pub variables_by : List Variable → Scope
  variables_by vs = variables_scope (map variable_by vs)

  abbrev pub parameter_by : Parameter → Program.Parameter
  parameter_by p = record { name = string_bytes p.name; is_var = p.is_var; type = type_by ts p.data_type }

  abbrev pub parameters_by : List Parameter → Scope
  parameters_by ps = parameters_scope (map parameter_by ps)

  abbrev pub frame_by : Procedure → Scope
  frame_by p = parameters_by p.parameters.items ++ variables_by p.variables.items

  -- each position has the words of those before it
  pub record IsFrame (f : Frame) : Type 0 where
    pub words : f.words ≡ extent (scope_by f)
    pub small : f.words < 2 ^ 63
    pub each : (i : ℕ) (s : Spaces.Space) → slice_get f.spaces.items i ≡ Some s → s.word ≡ word_in (scope_by f) i

  abbrev pub AreFrames : List Frame → Type 0
  AreFrames fs = (i : ℕ) (f : Frame) → slice_get fs i ≡ Some f → IsFrame f

  -- of each procedure the words of its frame
  abbrev pub extents_by : List Procedure → List ℕ
  extents_by ps = map (λ p. extent (frame_by p)) ps
