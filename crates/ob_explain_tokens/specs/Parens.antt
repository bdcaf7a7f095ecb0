-- Whether a place stands in parentheses.
use Rattle.std.specs.Prelude.{◌||◌, Bool, false, List, find, Option, Some, None}
use Rattle.ob_scan.specs.declared.token.Token.{Token}
use Rattle.ob_explain_tokens.specs.Kinds.{is_left, is_right}

abbrev pub is_paren : Token → Bool
is_paren t = is_left t.kind || is_right t.kind

abbrev pub opens_there : Option Token → Bool
opens_there None = false
opens_there (Some t) = is_left t.kind

-- of the tokens before it, the last one first: the first parenthesis opens
abbrev pub is_in_parens : List Token → Bool
is_in_parens tokens = opens_there (find is_paren tokens)
