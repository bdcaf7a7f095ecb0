-- What tokens are beside an operand.
use Rattle.std.specs.Prelude.{Bool, true, false}
use Rattle.ob_scan.specs.declared.token.Kind.{Kind}
use Rattle.ob_scan.specs.declared.token.Kind.TheVariants as Kinds

abbrev pub is_number : Kind → Bool
is_number Kinds.Number = true
is_number _ = false

abbrev pub is_name : Kind → Bool
is_name Kinds.Ident = true
is_name _ = false

abbrev pub is_colon : Kind → Bool
is_colon Kinds.Colon = true
is_colon _ = false

abbrev pub is_semicolon : Kind → Bool
is_semicolon Kinds.Semicolon = true
is_semicolon _ = false

abbrev pub is_dot : Kind → Bool
is_dot Kinds.Dot = true
is_dot _ = false

abbrev pub is_not : Kind → Bool
is_not Kinds.Not = true
is_not _ = false

abbrev pub is_left : Kind → Bool
is_left Kinds.LeftParen = true
is_left _ = false

abbrev pub is_right : Kind → Bool
is_right Kinds.RightParen = true
is_right _ = false

abbrev pub is_comma : Kind → Bool
is_comma Kinds.Comma = true
is_comma _ = false

abbrev pub is_minus : Kind → Bool
is_minus Kinds.Minus = true
is_minus _ = false

abbrev pub is_array : Kind → Bool
is_array Kinds.Array = true
is_array _ = false

abbrev pub is_of : Kind → Bool
is_of Kinds.Of = true
is_of _ = false

abbrev pub is_record : Kind → Bool
is_record Kinds.Record = true
is_record _ = false

abbrev pub is_end : Kind → Bool
is_end Kinds.End = true
is_end _ = false

abbrev pub opens_bracket : Kind → Bool
opens_bracket Kinds.LeftBracket = true
opens_bracket _ = false

abbrev pub closes_bracket : Kind → Bool
closes_bracket Kinds.RightBracket = true
closes_bracket _ = false

-- = # < <= > >=
abbrev pub is_relation : Kind → Bool
is_relation Kinds.Equal = true
is_relation Kinds.NotEqual = true
is_relation Kinds.Less = true
is_relation Kinds.LessOrEqual = true
is_relation Kinds.Greater = true
is_relation Kinds.GreaterOrEqual = true
is_relation _ = false

-- + -
abbrev pub is_sign : Kind → Bool
is_sign Kinds.Plus = true
is_sign Kinds.Minus = true
is_sign _ = false

-- an operator that binds closer than a sign: * DIV MOD &
abbrev pub multiplies : Kind → Bool
multiplies Kinds.Times = true
multiplies Kinds.Div = true
multiplies Kinds.Mod = true
multiplies Kinds.And = true
multiplies _ = false

-- the last token of an operand
abbrev pub ends_operand : Kind → Bool
ends_operand Kinds.Ident = true
ends_operand Kinds.Number = true
ends_operand Kinds.RightParen = true
ends_operand Kinds.RightBracket = true
ends_operand _ = false

-- a selector begins there: a field or an index
abbrev pub selects : Kind → Bool
selects Kinds.Dot = true
selects Kinds.LeftBracket = true
selects _ = false
