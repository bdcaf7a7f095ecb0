-- What is seen of a source of tokens, and what a step does.
use Rattle.std.specs.Prelude.{◌≡◌, ℕ, suc, ◌<◌, List, slice_get, Option}
use Rattle.ob_scan.specs.Tokens.{TokenizedText}
use Rattle.ob_scan.specs.Lexemes.{Lexeme, lexeme, lexemes}
use Rattle.ob_scan.specs.declared.token.Lent.{Lent}

-- a token that lends its bytes, as the grammar reads it
abbrev pub lexeme_of : Lent → Lexeme
lexeme_of t = lexeme t.kind t.start t.text.now

-- A source: its text, the token that stands next, a number that falls with each token that is read, and which tokens
-- of the text it may give, so many of them read. Where the text has no tokens, there are none.
pub record State : Type 1 where
  pub text : List ℕ
  pub here : Option Lexeme
  pub left : ℕ
  pub gives : TokenizedText → ℕ → Type 0

-- so many tokens of a text with its tokens are read
pub record Stands (s : State) (source : TokenizedText) (position : ℕ) : Type 0 where
  pub text : source.text ≡ s.text
  pub next : slice_get (lexemes source.text source.tokens) position ≡ s.here
  pub gives : s.gives source position

-- one token is read
pub record Steps (s t : State) : Type 0 where
  pub kept : t.text ≡ s.text
  pub less : t.left < s.left
  pub on : (source : TokenizedText) (position : ℕ) → Stands s source position → Stands t source (suc position)
