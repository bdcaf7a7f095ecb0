-- The exports of an object, and which arguments and replies fit them. The counts are exact: one value for each parameter.
use Rattle.std.specs.Prelude.{◌≡◌, ℕ, List, map, filter, not, slice_get, Some}
use Rattle.ob_interface.specs.declared.scalar.Scalar.{Scalar}
use Rattle.ob_interface.specs.declared.scalar.Scalar.TheVariants.{Int, Bool as Truth}
use Rattle.ob_interface.specs.declared.scalar.ScalarType.{ScalarType}
use Rattle.ob_interface.specs.declared.scalar.ScalarType.TheVariants.{Integer, Boolean}
use Rattle.ob_interface.specs.declared.export.Formal.{Formal}
use Rattle.ob_interface.specs.Call.{ObjectCall, Reply, Answers, Trapped}

-- what a caller knows of an exported procedure: its name, and of each parameter the mode and the type
pub record Signature : Type 0 where
  pub name : List ℕ
  pub formals : List Formal

abbrev pub type_of : Scalar → ScalarType
type_of (Int n) = Integer
type_of (Truth b) = Boolean

-- the types of the value parameters, in text order
abbrev pub value_types : List Formal → List ScalarType
value_types formals = map (λ f. f.scalar_type) (filter (λ f. not f.is_var) formals)

-- the types of the VAR parameters, in text order
abbrev pub var_types : List Formal → List ScalarType
var_types formals = map (λ f. f.scalar_type) (filter (λ f. f.is_var) formals)

-- for each value parameter one argument, of its type
abbrev pub ArgumentsFit : List Formal → List Scalar → Type 0
ArgumentsFit formals arguments = map type_of arguments ≡ value_types formals

-- for each VAR parameter one value, of its type, where the call ends
abbrev pub ReplyFits : List Formal → Reply → Type 0
ReplyFits formals (Answers values) = map type_of values ≡ var_types formals
ReplyFits formals (Trapped k) = Unit {0}

-- the call is of one of these exports, and its arguments fit
pub record CallFits (signatures : List Signature) (call : ObjectCall) : Type 0 where
  pub signature : Signature
  pub here : slice_get signatures call.export ≡ Some signature
  pub fit : ArgumentsFit signature.formals call.arguments
