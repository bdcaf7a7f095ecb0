-- Tokens with their bytes, as the grammar reads them.
use Rattle.std.specs.Prelude.{◌≡◌, ℕ, ◌≤◌, List, length, map}
use Rattle.ob_scan.specs.declared.token.Kind.{Kind}
use Rattle.ob_scan.specs.Limits.{longest_name, largest_number}
use Rattle.ob_scan.specs.declared.token.Token.{Token}
use Rattle.ob_scan.specs.Spelling.{Spells, number_value}
use Rattle.ob_scan.specs.Tokens.{spelling}

-- a token's kind, its place and its bytes
pub data Lexeme : Type 0 where
  lexeme : (kind : Kind) (place : ℕ) (bytes : List ℕ) → Lexeme

-- where a token begins
abbrev pub place_of : Lexeme → ℕ
place_of (lexeme kind place bytes) = place

-- the tokens of a text with their bytes
abbrev pub lexemes : List ℕ → List Token → List Lexeme
lexemes text = map (λ t. lexeme t.kind t.start (spelling text t))

-- the bytes of this token spell its kind, within the limits on names and numbers
pub data IsSpelled : Lexeme → Type 0 where
  spelled : {kind : Kind} {place : ℕ} {bytes : List ℕ} →
      Spells bytes kind →
      (kind ≡ Kind.Ident → length bytes ≤ longest_name) →
      (kind ≡ Kind.Number → number_value bytes ≤ largest_number) →
      IsSpelled (lexeme kind place bytes)
