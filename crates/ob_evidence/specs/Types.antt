-- Which type is wanted at a place, and which one stands there.
use Rattle.std.specs.Prelude.{◌-◌, ◌++◌, Bool, true, false, List, [], ◌∷◌, reverse, Option, Some, None, if◌then◌else◌}
use Rattle.ob_scan.specs.declared.token.Kind.{Kind}
use Rattle.ob_scan.specs.declared.token.Kind.TheVariants as Kinds
use Rattle.ob_scan.specs.declared.token.Token.{Token}
use Rattle.ob_explain_tokens.specs.Kinds.{ends_operand}
use Rattle.ob_explain_parts.specs.Forms.{form_before, form_behind, form_instead, other, role_of}
use Rattle.ob_explain_parts.specs.Parameters.{parameter_form}
use Rattle.ob_explain_parts.specs.declared.operand_types.Form.{Form}
use Rattle.ob_explain_parts.specs.declared.operand_types.Form.TheVariants as Forms
use Rattle.ob_explain_tokens.specs.Around as Tokens
use Rattle.ob_explain_sentences.specs.declared.table_rows.Fact.{Fact}
use Rattle.ob_explain_sentences.specs.declared.table_rows.Fact.TheVariants as Facts
use Rattle.ob_explain_sentences.specs.declared.table_rows.Type.{«Type»}
use Rattle.ob_explain_sentences.specs.declared.table_rows.Type.TheVariants as Shown
use Rattle.ob_evidence.specs.Sites.{Scene, here, last}
use Rattle.ob_evidence.specs.declared.needed_types.Operator.{Operator}
use Rattle.ob_evidence.specs.declared.needed_types.Operator.TheVariants as Operators
use Rattle.ob_evidence.specs.declared.needed_types.Types.{Types}

-- ---- what stands at the place

-- a sign, or behind an operand an operator
abbrev pub sign_behind : Option Token → Operator
sign_behind None = Operators.Sign Forms.Integer
sign_behind (Some t) = if ends_operand t.kind then Operators.Numbers else Operators.Sign Forms.Integer

-- an operator between operands of one type, one that compares, a sign or `~` with the type that it takes, or none
abbrev pub operator_by : Kind → (last : Option Token) → Operator
operator_by Kinds.Times last = Operators.Numbers
operator_by Kinds.Less last = Operators.Numbers
operator_by Kinds.LessOrEqual last = Operators.Numbers
operator_by Kinds.Greater last = Operators.Numbers
operator_by Kinds.GreaterOrEqual last = Operators.Numbers
operator_by Kinds.Div last = Operators.Numbers
operator_by Kinds.Mod last = Operators.Numbers
operator_by Kinds.And last = Operators.Truths
operator_by Kinds.Or last = Operators.Truths
operator_by Kinds.Equal last = Operators.Relation
operator_by Kinds.NotEqual last = Operators.Relation
operator_by Kinds.Not last = Operators.Sign Forms.Boolean
operator_by Kinds.Plus last = sign_behind last
operator_by Kinds.Minus last = sign_behind last
operator_by other last = Operators.None

abbrev pub operator_of : (here last : Option Token) → Operator
operator_of None last = Operators.None
operator_of (Some t) last = operator_by t.kind last

abbrev pub operator_at : Scene → Operator
operator_at s = operator_of (here s) (last s)

-- ---- an expression

-- The type that an expression behind these tokens, the last one first, has to be of: behind `:=` that of the variable before it, behind a
-- `(` or `,` that of the parameter; a condition is a BOOLEAN, a length and an index are INTEGERs.
abbrev pub wanted_by : Scene → Kind → (rest : List Token) → Form
wanted_by s Kinds.Assign rest = form_before s.text s.known s.tokens rest
wanted_by s Kinds.LeftParen rest = parameter_form s.text s.known s.tokens s.before
wanted_by s Kinds.Comma rest = parameter_form s.text s.known s.tokens s.before
wanted_by s Kinds.If rest = Forms.Boolean
wanted_by s Kinds.Elsif rest = Forms.Boolean
wanted_by s Kinds.While rest = Forms.Boolean
wanted_by s Kinds.Until rest = Forms.Boolean
wanted_by s Kinds.Array rest = Forms.Integer
wanted_by s Kinds.LeftBracket rest = Forms.Integer
wanted_by s other rest = Forms.Unknown

abbrev pub wanted_behind : Scene → (before : List Token) → Form
wanted_behind s [] = Forms.Unknown
wanted_behind s (t ∷ rest) = wanted_by s t.kind rest

abbrev pub wanted_there : Scene → Form
wanted_there s = wanted_behind s s.before

-- the type of the expression that begins with these tokens, in place of the wanted one
abbrev pub found_from : Scene → (from : List Token) → Form
found_from s from =
    form_instead s.text s.known s.tokens (wanted_there s) (role_of s.text s.known s.tokens s.before from) from

abbrev pub found_there : Scene → Form
found_there s = found_from s (Tokens.behind (s.place - 1) s.tokens)

-- of what is not known it is told that it is of another type
abbrev pub or_other : (wanted found : Form) → Form
or_other wanted Forms.Unknown = other wanted
or_other wanted found = found

-- ---- what stands before the place

-- the type of what ends before the place, by the tokens up to there: at the `.` of `a[i].f` that of `a[i]`
abbrev pub form_ended : Scene → Form
form_ended s = form_before s.text s.known (reverse s.before) s.before

-- facts, and behind them that a whole array or a whole record is there
abbrev pub with_whole : List Fact → Form → List Fact
with_whole facts Forms.Array = facts ++ Facts.ArrayBefore ∷ []
with_whole facts Forms.Record = facts ++ Facts.RecordBefore ∷ []
with_whole facts other = facts

-- ---- how it is told

abbrev pub type_of : Form → «Type»
type_of Forms.Integer = Shown.Integer
type_of Forms.Boolean = Shown.Boolean
type_of Forms.Single = Shown.Single
type_of Forms.Array = Shown.Array
type_of Forms.Record = Shown.Record
type_of Forms.Unknown = Shown.Unknown

abbrev pub told : (wanted found : Form) → Types
told wanted found = record { wanted = type_of wanted; found = type_of found }

abbrev pub of_expression : Scene → Types
of_expression s = told (wanted_there s) (or_other (wanted_there s) (found_there s))

-- whether a type is this one of single values
abbrev pub is_same : (single form : Form) → Bool
is_same Forms.Integer Forms.Integer = true
is_same Forms.Boolean Forms.Boolean = true
is_same _ _ = false

-- a sign before what it takes begins an expression
abbrev pub of_sign : Scene → (taken behind : Form) → Types
of_sign s taken behind = if is_same taken behind then of_expression s else told taken behind

abbrev pub types_by : Operator → Scene → (before behind : Form) → Types
types_by Operators.Numbers s before behind = told Forms.Integer (other Forms.Integer)
types_by Operators.Truths s before behind = told Forms.Boolean (other Forms.Boolean)
types_by Operators.Relation s before behind = told before behind
types_by (Operators.Sign taken) s before behind = of_sign s taken behind
types_by Operators.None s before behind = of_expression s

-- At an operator the type of its operands and the other one; at one that compares those of what stands before it and behind it; at a
-- sign the one that it takes and that of what stands behind it; and at an expression the one that it has to be of, and its own.
abbrev pub types_there : Scene → Types
types_there s =
    types_by (operator_at s) s (form_before s.text s.known s.tokens s.before) (form_behind s.text s.known s.tokens s.behind)
