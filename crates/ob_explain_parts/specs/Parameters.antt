-- The parameter to which an actual is handed, by the tokens before it.
use Rattle.std.specs.Prelude.{ℕ, suc, zero, ◌+◌, ◌&&◌, not, Bool, true, false, List, [], ◌∷◌, Option, Some, None, if◌then◌else◌}
use Rattle.ob_scan.specs.declared.token.Kind.{Kind}
use Rattle.ob_scan.specs.declared.token.Kind.TheVariants as Kinds
use Rattle.ob_scan.specs.declared.token.Token.{Token}
use Rattle.ob_explain_names.specs.Lookup.{name_at}
use Rattle.ob_explain_names.specs.declared.known.Known.{Known}
use Rattle.ob_explain_names.specs.declared.known.Sort.{Sort}
use Rattle.ob_explain_names.specs.declared.known.Sort.TheVariants as Sorts
use Rattle.ob_explain_tokens.specs.Around as Tokens
use Rattle.ob_explain_names.specs.Declarations.{declared_as}
use Rattle.ob_explain_parts.specs.Forms.{form_of_type}
use Rattle.ob_explain_tokens.specs.Kinds.{is_colon, is_name, is_right, is_semicolon}
use Rattle.ob_explain_parts.specs.Types.{declared_type}
use Rattle.ob_explain_parts.specs.declared.operand_types.Form.{Form}
use Rattle.ob_explain_parts.specs.declared.operand_types.Form.TheVariants as Forms
use Rattle.ob_explain_parts.specs.declared.handed_parameter.Handed.{Handed}
use Rattle.ob_explain_parts.specs.declared.declared_types.Standing.{Standing}

-- a token that stands in no call: the call is what stands behind it
abbrev pub is_outside : Kind → Bool
is_outside Kinds.Semicolon = true
is_outside Kinds.Begin = true
is_outside Kinds.Then = true
is_outside Kinds.Else = true
is_outside Kinds.Do = true
is_outside Kinds.Repeat = true
is_outside Kinds.If = true
is_outside Kinds.Elsif = true
is_outside Kinds.While = true
is_outside Kinds.Until = true
is_outside Kinds.End = true
is_outside Kinds.Assign = true
is_outside _ = false

abbrev pub comma : Kind → ℕ
comma Kinds.Comma = 1
comma _ = 0

-- The first token of the call in which the tokens before an actual stand, the last one of them first, and how many actuals stand
-- before it. Within an actual there is no comma.
unfoldable pub handed_at : (first : Option Token) → (commas : ℕ) → (before : List Token) → Handed
handed_at first commas [] = record { first = None; number = commas }
handed_at first commas (t ∷ rest) =
    if is_outside t.kind then record { first = first; number = commas } else handed_at (Some t) (commas + comma t.kind) rest

-- a name behind a `:` is one of a type, up to the `;`
abbrev pub still_in_type : (in_type : Bool) → Kind → Bool
still_in_type in_type kind = if is_colon kind then true else if is_semicolon kind then false else in_type

abbrev pub is_parameter : (in_type : Bool) → Kind → Bool
is_parameter in_type kind = is_name kind && not in_type

-- the name of the parameter of a number, counted from 0, of the tokens behind the name of a procedure
unfoldable pub parameter_named : (number : ℕ) → (in_type : Bool) → (behind : List Token) → Option Token
parameter_named number in_type [] = None
parameter_named zero in_type (t ∷ rest) =
    if is_right t.kind then None
    else if is_parameter in_type t.kind then Some t
    else parameter_named zero (still_in_type in_type t.kind) rest
parameter_named (suc number) in_type (t ∷ rest) =
    if is_right t.kind then None
    else if is_parameter in_type t.kind then parameter_named number in_type rest
    else parameter_named (suc number) (still_in_type in_type t.kind) rest

abbrev pub parameter_type : List Token → Option Token → Option Standing
parameter_type tokens None = None
parameter_type tokens (Some t) = declared_type tokens t.start

abbrev pub form_by_sort : Sort → (text : List ℕ) → List Known → List Token → (place number : ℕ) → Form
form_by_sort (Sorts.Procedure parameters) text known tokens place number =
    form_of_type text known tokens (parameter_type tokens (parameter_named number false (Tokens.behind place tokens)))
form_by_sort _ text known tokens place number = Forms.Unknown

abbrev pub form_in_procedure : (text : List ℕ) → List Known → List Token → Option Known → (number : ℕ) → Form
form_in_procedure text known tokens None number = Forms.Unknown
form_in_procedure text known tokens (Some name) number = form_by_sort name.sort text known tokens name.place number

abbrev pub form_in_call : (text : List ℕ) → List Known → List Token → (first : Option Token) → (number : ℕ) → Form
form_in_call text known tokens None number = Forms.Unknown
form_in_call text known tokens (Some t) number = form_in_procedure text known tokens (declared_as text known (name_at text t.start)) number

-- of the parameter, by the tokens before an actual, the last one first
abbrev pub parameter_form : (text : List ℕ) → List Known → List Token → (before : List Token) → Form
parameter_form text known tokens before =
    form_in_call text known tokens (handed_at None 0 before).first (handed_at None 0 before).number

-- the name that the first token of a call is
abbrev pub called_by : (text : List ℕ) → List Known → (first : Option Token) → Option Known
called_by text known None = None
called_by text known (Some t) = declared_as text known (name_at text t.start)

-- the name that is called where an actual stands, by the tokens before it, the last one first
abbrev pub called_name : (text : List ℕ) → List Known → (before : List Token) → Option Known
called_name text known before = called_by text known (handed_at None 0 before).first
