-- What is known where a type stands.
use Rattle.std.specs.Prelude.{ℕ, List}
use Rattle.ob_scan.specs.declared.token.Token.{Token}
use Rattle.ob_explain_names.specs.declared.known.Known.{Known}
use Rattle.ob_explain_words.specs.declared.named_types.NamedType.{NamedType}
use Rattle.ob_explain_words.specs.declared.scope.Scope as Rust

-- a text with its tokens, the names that are declared before the type, and those of them that are types
pub record Scope : Type 0 where
  pub text : List ℕ
  pub tokens : List Token
  pub known : List Known
  pub types : List NamedType

abbrev pub scope_of : Rust.Scope → Scope
scope_of s = record { text = s.text.now; tokens = s.tokens.now; known = s.known.now; types = s.types.now }
