-- Numbers of constant expressions, as they are written.
use Rattle.std.specs.Prelude.{ℕ, ◌-◌, ◌++◌, Bool, true, false, List, [], ◌∷◌, codes, Option, Some, None, if◌then◌else◌}
use Rattle.ob_scan.specs.declared.token.Kind.{Kind}
use Rattle.ob_scan.specs.declared.token.Kind.TheVariants as Kinds
use Rattle.ob_scan.specs.declared.token.Token.{Token}
use Rattle.ob_explain_names.specs.Declarations.{token_bytes}
use Rattle.ob_explain_tokens.specs.Kinds.{is_of}
use Rattle.ob_explain_names.specs.Numerals.{numeral_before, numeral_next}
use Rattle.ob_explain_names.specs.declared.numerals.Numeral.{Numeral}
use Rattle.ob_explain_tokens.specs.Around as Tokens
use Rattle.ob_evidence.specs.Sites.{Scene, here, kind_of}

-- * DIV and MOD bind closer than a sign
abbrev pub binds_closer : Option Kind → Bool
binds_closer (Some Kinds.Times) = true
binds_closer (Some Kinds.Div) = true
binds_closer (Some Kinds.Mod) = true
binds_closer _ = false

-- the numbers before the operator at the place and behind it, where they are known
abbrev pub first_operand : Scene → Option Numeral
first_operand s = numeral_before s.text s.known s.tokens (binds_closer (kind_of (here s))) s.before

abbrev pub second_operand : Scene → Option Numeral
second_operand s = numeral_next s.text s.known s.tokens (binds_closer (kind_of (here s))) s.behind

-- a length is one token where OF stands behind its first one
abbrev pub is_one_token : List Token → Bool
is_one_token (t ∷ u ∷ rest) = is_of u.kind
is_one_token _ = false

-- the length that begins at the place, where it is one token and known, of the tokens from there on
abbrev pub length_from : Scene → List Token → Option Numeral
length_from s from = if is_one_token from then numeral_next s.text s.known s.tokens true from else None

abbrev pub length_there : Scene → Option Numeral
length_there s = length_from s (Tokens.behind (s.place - 1) s.tokens)

abbrev pub is_known : Option Numeral → Bool
is_known None = false
is_known (Some numeral) = true

abbrev pub sign_of : Numeral → List ℕ
sign_of numeral = if numeral.is_negative then codes "-" else []

-- a number as it is written
abbrev pub written : (text : List ℕ) → Option Numeral → List ℕ
written text None = []
written text (Some numeral) = sign_of numeral ++ token_bytes text numeral.digits
