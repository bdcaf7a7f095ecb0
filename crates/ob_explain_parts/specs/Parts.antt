-- The part of a variable to which its selectors lead, by their tokens.
use Rattle.std.specs.Prelude.{ℕ, ◌+◌, ◌-◌, ◌==◌, ◌&&◌, ◌||◌, not, Bool, true, false, List, [], ◌∷◌, Option, Some, None, if◌then◌else◌}
use Rattle.ob_scan.specs.declared.token.Kind.{Kind}
use Rattle.ob_scan.specs.declared.token.Token.{Token}
use Rattle.ob_explain_names.specs.Lookup.{name_at}
use Rattle.ob_explain_names.specs.declared.known.Known.{Known}
use Rattle.ob_explain_tokens.specs.Kinds.{closes_bracket, is_dot, is_name, is_number, opens_bracket, selects}
use Rattle.ob_explain_parts.specs.Types.{element_of, field_of, meant}
use Rattle.ob_explain_parts.specs.declared.variable_parts.Selection.{Selection}
use Rattle.ob_explain_parts.specs.declared.variable_parts.Selecting.{Selecting}
use Rattle.ob_explain_parts.specs.declared.variable_parts.Selecting.TheVariants.{Part, Dot, Index}
use Rattle.ob_explain_parts.specs.declared.declared_types.Standing.{Standing}

-- ---- from the name on

-- the brackets that are open within an index
abbrev pub open_brackets : Selecting → ℕ
open_brackets (Index brackets) = brackets
open_brackets _ = 0

-- behind a whole part there is no further selector
abbrev pub ends_parts : Selecting → Kind → Bool
ends_parts Part kind = not (selects kind)
ends_parts _ kind = false

abbrev pub index_behind : (brackets : ℕ) → Kind → Selecting
index_behind brackets kind =
    if opens_bracket kind then Index (brackets + 1)
    else if not (closes_bracket kind) then Index brackets
    else if brackets == 0 then Part
    else Index (brackets - 1)

-- behind a token
abbrev pub selecting_behind : Selecting → Kind → Selecting
selecting_behind Part kind = if is_dot kind then Dot else Index 0
selecting_behind Dot kind = Part
selecting_behind (Index brackets) kind = index_behind brackets kind

abbrev pub ends_index : (brackets : ℕ) → Kind → Bool
ends_index brackets kind = closes_bracket kind && (brackets == 0)

-- a name behind a dot leads to a field, and the `]` of an index to an element
abbrev pub part_at : Selecting → (text : List ℕ) → List Known → List Token → Standing → Token → Option Standing
part_at Part text known tokens type t = Some type
part_at Dot text known tokens type t = field_of text tokens (meant text known tokens type) (name_at text t.start)
part_at (Index brackets) text known tokens type t =
    if ends_index brackets t.kind then element_of tokens (meant text known tokens type) else Some type

abbrev pub part_behind : (text : List ℕ) → List Known → List Token → Selecting → Option Standing → Token → Option Standing
part_behind text known tokens selecting None t = None
part_behind text known tokens selecting (Some type) t = part_at selecting text known tokens type t

-- The type of the part to which these tokens lead from a part of this type, and the token behind them.
unfoldable pub selected : (text : List ℕ) → List Known → List Token → Selecting → Option Standing → (behind : List Token) → Selection
selected text known tokens selecting part [] = record { part = part; next = None }
selected text known tokens selecting part (t ∷ rest) =
    if ends_parts selecting t.kind then record { part = part; next = Some t }
    else selected text known tokens (selecting_behind selecting t.kind) (part_behind text known tokens selecting part t) rest

-- ---- back to the name

-- a number, or a name of a variable or of a field
abbrev pub is_value : Kind → Bool
is_value kind = is_number kind || is_name kind

abbrev pub ends_part : Kind → Bool
ends_part kind = is_value kind || closes_bracket kind

abbrev pub is_token : Option Token → Bool
is_token None = false
is_token (Some t) = true

-- before a name only a dot is of the same operand, and else the end of a part
abbrev pub goes_back : (name : Option Token) → Kind → Bool
goes_back name kind = if is_token name then is_dot kind else ends_part kind

abbrev pub stands_before : (brackets : ℕ) → (name : Option Token) → Kind → Bool
stands_before brackets name kind = (brackets == 0) && not (goes_back name kind)

-- the brackets that are open before a token, where so many are behind it
abbrev pub brackets_before : (brackets : ℕ) → Kind → ℕ
brackets_before brackets kind =
    if closes_bracket kind then brackets + 1
    else if opens_bracket kind then brackets - 1
    else brackets

abbrev pub name_before : (brackets : ℕ) → Token → Option Token
name_before brackets t = if (brackets == 0) && is_value t.kind then Some t else None

-- The first token of the operand that these tokens end with, the last one first: a number, or the name of a variable with its
-- selectors. What stands in brackets is passed over. `name` is what stands right behind the tokens, where that may be the first one.
unfoldable pub operand_start : (brackets : ℕ) → (name : Option Token) → (before : List Token) → Option Token
operand_start brackets name [] = name
operand_start brackets name (t ∷ rest) =
    if stands_before brackets name t.kind then name
    else operand_start (brackets_before brackets t.kind) (name_before brackets t) rest
