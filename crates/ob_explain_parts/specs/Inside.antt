-- Of which type an expression in parentheses is, by the operators in it.
use Rattle.std.specs.Prelude.{ℕ, ◌+◌, ◌-◌, ◌==◌, ◌&&◌, ◌||◌, Bool, true, false, List, [], ◌∷◌, if◌then◌else◌}
use Rattle.std.specs.List.{list_any}
use Rattle.ob_scan.specs.declared.token.Kind.{Kind}
use Rattle.ob_scan.specs.declared.token.Kind.TheVariants as Kinds
use Rattle.ob_scan.specs.declared.token.Token.{Token}
use Rattle.ob_explain_tokens.specs.Kinds.{is_left, is_relation, is_right}

-- & OR ~
abbrev pub takes_truths : Kind → Bool
takes_truths Kinds.And = true
takes_truths Kinds.Or = true
takes_truths Kinds.Not = true
takes_truths _ = false

-- an operator that gives a BOOLEAN: a comparison, & OR ~
abbrev pub gives_truth : Kind → Bool
gives_truth kind = is_relation kind || takes_truths kind

-- how many parentheses are open behind a token
abbrev pub open_behind : (opened : ℕ) → Kind → ℕ
open_behind opened kind = if is_left kind then opened + 1 else if is_right kind then opened - 1 else opened

-- a `)` that closes more than was opened
abbrev pub closes_there : (opened : ℕ) → Kind → Bool
closes_there opened kind = is_right kind && (opened == 0)

-- what stands in parentheses, of the tokens behind their `(`: all before the first `)` that closes more than was opened
unfoldable pub within : (opened : ℕ) → (behind : List Token) → List Token
within opened [] = []
within opened (t ∷ rest) = if closes_there opened t.kind then [] else t ∷ within (open_behind opened t.kind) rest

-- An operator that gives a BOOLEAN stands in parentheses, of the tokens behind the `(`. No INTEGER has one in it: `(a + v[i])` has
-- none, `(a = v[i])` has one.
abbrev pub has_truth : (behind : List Token) → Bool
has_truth behind = list_any (λ t. gives_truth t.kind) (within 0 behind)
