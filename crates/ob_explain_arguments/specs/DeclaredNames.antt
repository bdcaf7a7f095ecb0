-- Whether a module declares a procedure of a name, exported or not.
use Rattle.std.specs.Prelude.{◌≡◌, ◌&&◌, ◌||◌, Bool, true, false, ℕ, List, [], ◌∷◌}
use Rattle.std.specs.Str.{bytes_eq}
use Rattle.ob_explain_names.specs.Declarations.{token_bytes}
use Rattle.ob_explain_tokens.specs.Around.{AreTokens}
use Rattle.ob_scan.specs.declared.token.Kind.{Kind}
use Rattle.ob_scan.specs.declared.token.Kind.TheVariants.{Procedure}
use Rattle.ob_scan.specs.declared.token.Token.{Token}

abbrev pub is_procedure : Kind → Bool
is_procedure Procedure = true
is_procedure _ = false

-- a token behind PROCEDURE, or not, that is the name
abbrev pub is_its_name : (text name : List ℕ) → (behind : Bool) → Token → Bool
is_its_name text name behind t = behind && bytes_eq (token_bytes text t) name

-- the name stands behind PROCEDURE somewhere, the first token too where that stands before it
unfoldable pub declares : (text name : List ℕ) → (behind : Bool) → List Token → Bool
declares text name behind [] = false
declares text name behind (t ∷ rest) = is_its_name text name behind t || declares text name (is_procedure t.kind) rest

-- in a module's text
pub record IsDeclared (text name : List ℕ) (declared : Bool) : Type 0 where
  pub tokens : List Token
  pub are : AreTokens text tokens
  pub says : declared ≡ declares text name false tokens
