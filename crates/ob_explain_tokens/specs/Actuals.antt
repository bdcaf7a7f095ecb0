-- How many actuals a call has, of the tokens behind its name.
use Rattle.std.specs.Prelude.{ℕ, ◌+◌, ◌&&◌, not, Bool, true, false, List, [], ◌∷◌, if◌then◌else◌}
use Rattle.ob_scan.specs.declared.token.Kind.{Kind}
use Rattle.ob_scan.specs.declared.token.Kind.TheVariants.{Comma, Semicolon, End, Else, Elsif, Until}
use Rattle.ob_scan.specs.declared.token.Token.{Token}
use Rattle.ob_explain_tokens.specs.Kinds.{is_left, is_right}

-- a token that stands behind a call
abbrev pub ends_call : Kind → Bool
ends_call Semicolon = true
ends_call End = true
ends_call Else = true
ends_call Elsif = true
ends_call Until = true
ends_call _ = false

abbrev pub comma : Kind → ℕ
comma Comma = 1
comma _ = 0

-- the commas up to the end of the call: within an actual there is none
unfoldable pub commas : List Token → ℕ
commas [] = 0
commas (t ∷ rest) = if ends_call t.kind then 0 else (comma t.kind + commas rest)

-- parentheses in which something stands
abbrev pub opens_actuals : List Token → Bool
opens_actuals (t ∷ u ∷ rest) = is_left t.kind && not (is_right u.kind)
opens_actuals _ = false

-- one more than the commas
unfoldable pub actual_count : List Token → ℕ
actual_count tokens = if opens_actuals tokens then (commas tokens + 1) else 0
