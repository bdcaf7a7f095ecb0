-- What tokens are in a list of names with their type.
use Rattle.std.specs.Prelude.{Bool, true, false}
use Rattle.ob_scan.specs.declared.token.Kind.{Kind}
use Rattle.ob_scan.specs.declared.token.Kind.TheVariants as Kinds

abbrev pub is_var : Kind → Bool
is_var Kinds.Var = true
is_var _ = false

-- a token of lists of names with their types, outside of the types
abbrev pub is_listed : Kind → Bool
is_listed Kinds.Ident = true
is_listed Kinds.Comma = true
is_listed Kinds.Colon = true
is_listed Kinds.Semicolon = true
is_listed _ = false
