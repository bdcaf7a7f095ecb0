-- Of which type an operand is, by the tokens beside a place and the declaration of its name.
use Rattle.std.specs.Prelude.{ℕ, ◌&&◌, ◌||◌, not, Bool, true, false, List, [], ◌∷◌, bytes_eq, codes, find, Option, Some, None, if◌then◌else◌}
use Rattle.ob_scan.specs.declared.token.Kind.{Kind}
use Rattle.ob_scan.specs.declared.token.Kind.TheVariants as Kinds
use Rattle.ob_scan.specs.declared.token.Token.{Token}
use Rattle.ob_explain_names.specs.Lookup.{name_at}
use Rattle.ob_explain_names.specs.declared.known.Known.{Known}
use Rattle.ob_explain_names.specs.declared.known.Sort.{Sort}
use Rattle.ob_explain_names.specs.declared.known.Sort.TheVariants as Sorts
use Rattle.ob_explain_tokens.specs.Around as Tokens
use Rattle.ob_explain_names.specs.Declarations.{declared_as, first_of, is_there}
use Rattle.ob_explain_tokens.specs.Kinds.{is_array, is_comma, is_left, is_name, is_not, is_number, is_record, is_relation, is_right, is_semicolon, is_sign, multiplies}
use Rattle.ob_explain_names.specs.Numerals.{numeral_behind}
use Rattle.ob_explain_parts.specs.Inside.{has_truth}
use Rattle.ob_explain_parts.specs.Parts.{is_value, operand_start, selected}
use Rattle.ob_explain_parts.specs.Types.{declared_type, meant}
use Rattle.ob_explain_parts.specs.declared.operand_types.Form.{Form}
use Rattle.ob_explain_parts.specs.declared.operand_types.Form.TheVariants.{Integer, Boolean, Single, Array, Record, Unknown}
use Rattle.ob_explain_parts.specs.declared.operand_types.Role.{Role}
use Rattle.ob_explain_parts.specs.declared.operand_types.Role.TheVariants.{Compared, Actual, Joined, Other}
use Rattle.ob_explain_names.specs.declared.numerals.Numeral.{Numeral}
use Rattle.ob_explain_parts.specs.declared.variable_parts.Selection.{Selection}
use Rattle.ob_explain_parts.specs.declared.variable_parts.Selecting.TheVariants.{Part}
use Rattle.ob_explain_parts.specs.declared.declared_types.Standing.{Standing}

-- a word that is one of the language's own names, and none of the visible ones
abbrev pub is_own : (text : List ℕ) → List Known → (word own : List ℕ) → Bool
is_own text known word own = bytes_eq word own && not (is_there (declared_as text known word))

-- of a type that is no name of a declared one
abbrev pub own_form : (word : List ℕ) → Form
own_form word =
    if bytes_eq word (codes "INTEGER") then Integer
    else if bytes_eq word (codes "BOOLEAN") then Boolean
    else Unknown

abbrev pub type_form : (text : List ℕ) → (first : Token) → Form
type_form text first =
    if is_array first.kind then Array
    else if is_record first.kind then Record
    else own_form (name_at text first.start)

abbrev pub form_of_type : (text : List ℕ) → List Known → List Token → Option Standing → Form
form_of_type text known tokens None = Unknown
form_of_type text known tokens (Some type) = type_form text (meant text known tokens type).first

-- TRUE and FALSE
unfoldable pub truth_form : (text : List ℕ) → List Known → (word : List ℕ) → Form
truth_form text known word =
    if is_own text known word (codes "TRUE") || is_own text known word (codes "FALSE") then Boolean else Unknown

-- of the tokens behind the name of a constant: `= TRUE ;` or `= FALSE ;`
abbrev pub truth_behind : (text : List ℕ) → List Known → List Token → Form
truth_behind text known (equal ∷ a ∷ b ∷ rest) =
    if is_name a.kind && is_semicolon b.kind then truth_form text known (name_at text a.start) else Unknown
truth_behind text known _ = Unknown

-- each constant is a single value
abbrev pub or_single : Form → Form
or_single Unknown = Single
or_single form = form

abbrev pub constant_form : Option Numeral → (truth : Form) → Form
constant_form (Some n) truth = Integer
constant_form None truth = or_single truth

-- the variable that is declared at a place, with the selectors behind the place where it is used
abbrev pub variable_at : (text : List ℕ) → List Known → List Token → (place used : ℕ) → Selection
variable_at text known tokens place used = selected text known tokens Part (declared_type tokens place) (Tokens.behind used tokens)

-- as a name that is used at a place is declared: a constant as one number, TRUE or FALSE, or a variable
abbrev pub form_by : Sort → (text : List ℕ) → List Known → List Token → (place used : ℕ) → Form
form_by Sorts.Constant text known tokens place used =
    constant_form (numeral_behind (Tokens.behind place tokens)) (truth_behind text known (Tokens.behind place tokens))
form_by Sorts.Variable text known tokens place used = form_of_type text known tokens (variable_at text known tokens place used).part
form_by _ text known tokens place used = Unknown

abbrev pub form_of_name : (text : List ℕ) → List Known → List Token → (used : ℕ) → Option Known → Form
form_of_name text known tokens used None = truth_form text known (name_at text used)
form_of_name text known tokens used (Some name) = form_by name.sort text known tokens name.place used

-- of an operand that begins with a token: a number, or a name with its selectors
unfoldable pub operand_form : (text : List ℕ) → List Known → List Token → Token → Form
operand_form text known tokens t =
    if is_number t.kind then Integer
    else if is_name t.kind then form_of_name text known tokens t.start (declared_as text known (name_at text t.start))
    else Unknown

abbrev pub form_from : (text : List ℕ) → List Known → List Token → Option Token → Form
form_from text known tokens None = Unknown
form_from text known tokens (Some t) = operand_form text known tokens t

-- Of what ends before a place, of the tokens there, the last one first: operators between INTEGERs give INTEGERs, and those between
-- BOOLEANs BOOLEANs, so it is of the type of its last operand.
abbrev pub form_before : (text : List ℕ) → List Known → List Token → (before : List Token) → Form
form_before text known tokens before = form_from text known tokens (operand_start 0 None before)

-- of what begins with this token and has no parentheses around it: behind `~` a BOOLEAN, behind a sign an INTEGER
abbrev pub form_at : (text : List ℕ) → List Known → List Token → Option Token → Form
form_at text known tokens None = Unknown
form_at text known tokens (Some t) =
    if is_not t.kind then Boolean
    else if is_sign t.kind then Integer
    else operand_form text known tokens t

-- of what stands in parentheses, of the tokens behind the `(`: `(a = 1)` is a BOOLEAN, and `((a) + 1)` is of the type of a
abbrev pub form_inside : (text : List ℕ) → List Known → List Token → (inside : List Token) → Form
form_inside text known tokens inside =
    if has_truth inside then Boolean else form_at text known tokens (find (λ t. not (is_left t.kind)) inside)

-- of what begins with these tokens, which is of the type of its first operand
abbrev pub form_behind : (text : List ℕ) → List Known → List Token → (behind : List Token) → Form
form_behind text known tokens (t ∷ rest) =
    if is_left t.kind then form_inside text known tokens rest else form_at text known tokens (Some t)
form_behind text known tokens [] = Unknown

-- the other one of the two types of single values; where a whole array or record is wanted it is one of both
abbrev pub other : Form → Form
other Integer = Boolean
other Boolean = Integer
other Array = Single
other Record = Single
other _ = Unknown

abbrev pub other_of : (wanted : Form) → Form → Form
other_of wanted Integer = other wanted
other_of wanted Boolean = other wanted
other_of wanted Single = other wanted
other_of wanted form = form

-- ---- what stands in place of a wanted type

abbrev pub is_relation_there : Option Token → Bool
is_relation_there None = false
is_relation_there (Some t) = is_relation t.kind

-- behind the `(` of a call, or behind a `,`; of the tokens there, the last one first
abbrev pub begins_actual : (before : List Token) → Bool
begins_actual (t ∷ u ∷ rest) = is_comma t.kind || (is_left t.kind && is_name u.kind)
begins_actual _ = false

abbrev pub ends_actual : (next : Option Token) → Bool
ends_actual None = false
ends_actual (Some t) = is_comma t.kind || is_right t.kind

-- + - OR * DIV MOD &
abbrev pub joins : Kind → Bool
joins Kinds.Or = true
joins kind = is_sign kind || multiplies kind

abbrev pub joins_there : Option Token → Bool
joins_there None = false
joins_there (Some t) = joins t.kind

-- of an operand behind these tokens, the last one first, behind which that one stands
abbrev pub role_between : (before : List Token) → (next : Option Token) → Role
role_between before next =
    if is_relation_there (first_of before) || is_relation_there next then Compared
    else if begins_actual before && ends_actual next then Actual
    else if joins_there next then Joined
    else Other

-- the token behind an operand that begins with the first of these
abbrev pub behind_operand : (text : List ℕ) → List Known → List Token → (from : List Token) → Option Token
behind_operand text known tokens [] = None
behind_operand text known tokens (t ∷ rest) = (selected text known tokens Part None (Tokens.behind t.start tokens)).next

-- of an operand that stands behind these tokens, the last one first, and begins with those
abbrev pub role_of : (text : List ℕ) → List Known → List Token → (before from : List Token) → Role
role_of text known tokens before from = role_between before (behind_operand text known tokens from)

-- of an expression whose first operand is of this type and that is not of the wanted one: a whole actual has no other operand
abbrev pub told_form : Role → (wanted : Form) → Form → Form
told_form Actual wanted Single = other wanted
told_form Actual wanted form = form
told_form role wanted form = other_of wanted form

-- Of an expression that is not of the wanted type, from its first token on: it is a whole array or record only where a variable with
-- its selectors is one with which it begins.
abbrev pub form_instead : (text : List ℕ) → List Known → List Token → (wanted : Form) → Role → (from : List Token) → Form
form_instead text known tokens wanted role (t ∷ rest) =
    if is_value t.kind then told_form role wanted (operand_form text known tokens t) else other wanted
form_instead text known tokens wanted role [] = Unknown
