-- Kinds of token: all of them, one token of each to try, and how each is told.
use Rattle.std.specs.Prelude.{ℕ, List, [], ◌∷◌, ◌++◌, Option, Some, None, codes}
use Rattle.ob_scan.specs.declared.token.Kind.{Kind}
use Rattle.ob_scan.specs.declared.token.Kind.TheVariants.{Ident, Number, Module, Const, «Type», Var, Procedure, Begin, End, Array, Of, Record, If}
use Rattle.ob_scan.specs.declared.token.Kind.TheVariants.{Then, Elsif, Else, While, Do, Repeat, Until, Assign, Equal, NotEqual, Less, LessOrEqual}
use Rattle.ob_scan.specs.declared.token.Kind.TheVariants.{Greater, GreaterOrEqual, Plus, Minus, Or, Times, Div, Mod, And, Not, LeftParen, RightParen}
use Rattle.ob_scan.specs.declared.token.Kind.TheVariants.{LeftBracket, RightBracket, Colon, Comma, Semicolon, Dot}
use Rattle.ob_scan.specs.Spelling.{fixed_spelling}

-- all kinds of token
abbrev pub kinds : List Kind
kinds =
    Ident ∷ Number ∷ Module ∷ Const ∷ «Type» ∷ Var ∷ Procedure ∷ Begin ∷ End ∷ Array ∷ Of ∷ Record ∷ If ∷ Then ∷ Elsif ∷ Else ∷ While ∷
    Do ∷ Repeat ∷ Until ∷ Assign ∷ Equal ∷ NotEqual ∷ Less ∷ LessOrEqual ∷ Greater ∷ GreaterOrEqual ∷ Plus ∷ Minus ∷ Or ∷ Times ∷ Div ∷
    Mod ∷ And ∷ Not ∷ LeftParen ∷ RightParen ∷ LeftBracket ∷ RightBracket ∷ Colon ∷ Comma ∷ Semicolon ∷ Dot ∷ []

abbrev pub spelled_or : Option (List ℕ) → List ℕ → List ℕ
spelled_or None other = other
spelled_or (Some bytes) other = bytes

-- a token of a kind: the name `a`, the number `0`, and all others as they are spelled
abbrev pub sample : Kind → List ℕ
sample Ident = codes "a"
sample kind = spelled_or (fixed_spelling kind) (codes "0")

abbrev pub in_quotes : Option (List ℕ) → List ℕ → List ℕ
in_quotes None other = other
in_quotes (Some bytes) other = codes "`" ++ bytes ++ codes "`"

-- how a kind is told: by its spelling in quotes, where it has just one
abbrev pub kind_name : Kind → List ℕ
kind_name Ident = codes "a name"
kind_name kind = in_quotes (fixed_spelling kind) (codes "a number")
