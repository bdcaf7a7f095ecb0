-- The tokens of a text: blanks and nested comments between spellings, each the longest that can stand at its place.
use Rattle.std.specs.Prelude.{◌≡◌, ℕ, ◌-◌, ◌≤◌, length, slice_range, List, [], ◌∷◌, ◌++◌, All}
use Rattle.ob_scan.specs.declared.token.Kind.{Kind}
use Rattle.ob_scan.specs.declared.token.Kind.TheVariants.{Ident, Number}
use Rattle.ob_scan.specs.Limits.{longest_name, largest_number}
use Rattle.ob_scan.specs.declared.token.Token.{Token}
use Rattle.ob_scan.specs.Spelling.{Spells, IsLongest, number_value}

-- space, tab, carriage return, line feed
pub data IsBlank : ℕ → Type 0 where
  space : IsBlank 32
  tab : IsBlank 9
  carriage_return : IsBlank 13
  line_feed : IsBlank 10

-- `(*` stands here
pub data OpensComment : List ℕ → Type 0 where
  opens : {rest : List ℕ} → OpensComment (40 ∷ 42 ∷ rest)

-- `*)` stands here
pub data ClosesComment : List ℕ → Type 0 where
  closes : {rest : List ℕ} → ClosesComment (42 ∷ 41 ∷ rest)

-- behind a `(*`, this text closes the comment, and this rest is left
pub data CommentEnds : (text rest : List ℕ) → Type 0 where
  close : {rest : List ℕ} → CommentEnds (42 ∷ 41 ∷ rest) rest
  -- a comment within it
  nested : {text behind rest : List ℕ} →
      CommentEnds text behind → CommentEnds behind rest → CommentEnds (40 ∷ 42 ∷ text) rest
  -- any other byte
  other : {byte : ℕ} {text rest : List ℕ} →
      ¬ OpensComment (byte ∷ text) → ¬ ClosesComment (byte ∷ text) →
      CommentEnds text rest → CommentEnds (byte ∷ text) rest

-- the tokens of what is left of a whole text; a place is what is no longer left
module _ (whole : List ℕ) where
  -- where what is left begins
  abbrev pub place : List ℕ → ℕ
  place left = length whole - length left

  -- this text begins with these tokens, and this rest is left
  pub data BeginsWith : (text : List ℕ) (tokens : List Token) (rest : List ℕ) → Type 0 where
    stops : {rest : List ℕ} → BeginsWith rest [] rest
    blank : {byte : ℕ} {text rest : List ℕ} {tokens : List Token} →
        IsBlank byte → BeginsWith text tokens rest → BeginsWith (byte ∷ text) tokens rest
    comment : {text behind rest : List ℕ} {tokens : List Token} →
        CommentEnds text behind → BeginsWith behind tokens rest → BeginsWith (40 ∷ 42 ∷ text) tokens rest
    token : {text behind rest : List ℕ} {tokens : List Token} (bytes : List ℕ) (kind : Kind) →
        text ≡ bytes ++ behind →
        Spells bytes kind → IsLongest bytes behind → ¬ OpensComment text →
        BeginsWith behind tokens rest →
        BeginsWith text (record { kind = kind; start = place text; end = place behind } ∷ tokens) rest

-- the bytes of a token
abbrev pub spelling : List ℕ → Token → List ℕ
spelling text t = slice_range text t.start t.end

-- a name has at most longest_name bytes, 64, and a number is at most largest_number, 2147483647
abbrev pub KeepsLimits : List ℕ → Token → Type 0
KeepsLimits text t =
    (t.kind ≡ Ident → length (spelling text t) ≤ longest_name)
    × (t.kind ≡ Number → number_value (spelling text t) ≤ largest_number)

-- the text begins with these tokens, they keep the limits, and this rest is left
pub record HasTokensBefore (text : List ℕ) (tokens : List Token) (rest : List ℕ) : Type 0 where
  pub spelled : BeginsWith text text tokens rest
  pub limited : All (KeepsLimits text) tokens

-- the text has these tokens and no more, and they keep the limits
abbrev pub HasTokens : List ℕ → List Token → Type 0
HasTokens text tokens = HasTokensBefore text tokens []

-- a text with its tokens
pub record TokenizedText : Type 0 where
  pub text : List ℕ
  pub tokens : List Token
