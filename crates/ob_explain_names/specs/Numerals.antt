-- The numbers that the operands of an operation in a constant expression are, by the tokens beside its operator.
use Rattle.std.specs.Prelude.{ℕ, ◌&&◌, not, Bool, true, false, List, ◌∷◌, Option, Some, None, if◌then◌else◌}
use Rattle.ob_scan.specs.declared.token.Token.{Token}
use Rattle.ob_explain_names.specs.Lookup.{name_at}
use Rattle.ob_explain_names.specs.declared.known.Known.{Known}
use Rattle.ob_explain_names.specs.declared.known.Sort.{Sort}
use Rattle.ob_explain_names.specs.declared.known.Sort.TheVariants as Sorts
use Rattle.ob_explain_tokens.specs.Around as Tokens
use Rattle.ob_explain_names.specs.Declarations.{declared_as}
use Rattle.ob_explain_tokens.specs.Kinds.{ends_operand, is_minus, is_name, is_number, is_semicolon, is_sign, multiplies}
use Rattle.ob_explain_names.specs.declared.numerals.Numeral.{Numeral}

abbrev pub plain : Token → Numeral
plain t = record { is_negative = false; digits = t }

abbrev pub negative : Token → Numeral
negative t = record { is_negative = true; digits = t }

-- behind a minus
abbrev pub negated : Numeral → Numeral
negated n = record { is_negative = not n.is_negative; digits = n.digits }

-- of the tokens behind the name of a constant: `= NUMBER ;` or `= - NUMBER ;`
abbrev pub numeral_behind : List Token → Option Numeral
numeral_behind (equal ∷ a ∷ b ∷ c ∷ rest) =
    if is_number a.kind && is_semicolon b.kind then Some (plain a)
    else if (is_minus a.kind && is_number b.kind) && is_semicolon c.kind then Some (negative b)
    else None
numeral_behind _ = None

abbrev pub is_constant : Sort → Bool
is_constant Sorts.Constant = true
is_constant _ = false

abbrev pub numeral_declared : List Token → Option Known → Option Numeral
numeral_declared tokens None = None
numeral_declared tokens (Some name) = if is_constant name.sort then numeral_behind (Tokens.behind name.place tokens) else None

-- of an operand that is one token: a number, or the name of a constant that is declared as one
unfoldable pub numeral_of : (text : List ℕ) → List Known → List Token → Token → Option Numeral
numeral_of text known tokens t =
    if is_number t.kind then Some (plain t)
    else if is_name t.kind then numeral_declared tokens (declared_as text known (name_at text t.start))
    else None

abbrev pub negated_too : Option Numeral → Option Numeral
negated_too None = None
negated_too (Some n) = Some (negated n)

-- behind a sign
abbrev pub signed : (sign : Token) → Option Numeral → Option Numeral
signed sign n = if is_minus sign.kind then negated_too n else n

-- Before an operator, of the tokens there, the last one first: an operand is one token where no operator stands before it that takes
-- it first. A sign belongs to it where the sign stands behind no operand, but not before * DIV MOD &, which bind closer.
abbrev pub numeral_before : (text : List ℕ) → List Known → List Token → (closer : Bool) → (before : List Token) → Option Numeral
numeral_before text known tokens closer (t ∷ u ∷ v ∷ rest) =
    if multiplies u.kind then None
    else if closer then numeral_of text known tokens t
    else if not (is_sign u.kind) then numeral_of text known tokens t
    else if ends_operand v.kind then None
    else signed u (numeral_of text known tokens t)
numeral_before text known tokens closer _ = None

-- behind an operator: where no operator stands behind it that takes it first
abbrev pub numeral_next : (text : List ℕ) → List Known → List Token → (closer : Bool) → (behind : List Token) → Option Numeral
numeral_next text known tokens closer (t ∷ u ∷ rest) =
    if multiplies u.kind && not closer then None else numeral_of text known tokens t
numeral_next text known tokens closer _ = None
