-- The length of an array, where it is a number or the name of a constant that is declared as one.
use Rattle.std.specs.Prelude.{ℕ, ◌&&◌, nat_le, Bool, true, List, ◌∷◌, length, Option, Some, None, if◌then◌else◌}
use Rattle.std.specs.Char.{is_ascii_digit}
use Rattle.std.specs.List.{list_all}
use Rattle.ob_scan.specs.Spelling.{number_value}
use Rattle.ob_scan.specs.declared.token.Token.{Token}
use Rattle.ob_explain_names.specs.Declarations.{token_bytes}
use Rattle.ob_explain_names.specs.Numerals.{numeral_next}
use Rattle.ob_explain_names.specs.declared.numerals.Numeral.{Numeral}
use Rattle.ob_explain_words.specs.Counts.{fitting}
use Rattle.ob_explain_tokens.specs.Kinds.{is_of}
use Rattle.ob_explain_words.specs.Scopes.{Scope}

abbrev pub are_digits : List ℕ → Bool
are_digits word = list_all is_ascii_digit word && nat_le 1 (length word)

-- the number that digits spell
unfoldable pub value_of_digits : List ℕ → Option ℕ
value_of_digits word = if are_digits word then fitting (number_value word) else None

abbrev pub value_of : (text : List ℕ) → Option Numeral → Option ℕ
value_of text None = None
value_of text (Some n) = if n.is_negative then None else value_of_digits (token_bytes text n.digits)

-- of the tokens behind ARRAY: one token, and OF
abbrev pub length_behind : Scope → List Token → Option ℕ
length_behind s (n ∷ o ∷ rest) =
    if is_of o.kind then value_of s.text (numeral_next s.text s.known s.tokens true (n ∷ o ∷ rest)) else None
length_behind s _ = None
