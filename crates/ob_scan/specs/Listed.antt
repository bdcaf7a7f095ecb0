-- The tokens of a text as a source.
use Rattle.std.specs.Prelude.{◌≡◌, ℕ, ◌-◌, length, slice_get}
use Rattle.ob_scan.specs.Tokens.{TokenizedText}
use Rattle.ob_scan.specs.Lexemes.{lexemes}
use Rattle.ob_scan.specs.Sources.{State}

-- a text with its tokens, and how many of them are read
pub record Listing : Type 0 where
  pub source : TokenizedText
  pub position : ℕ

abbrev pub listed : Listing → State
listed l =
    record {
      text = l.source.text;
      here = slice_get (lexemes l.source.text l.source.tokens) l.position;
      left = length l.source.tokens - l.position;
      gives = λ source position. (source ≡ l.source) × (position ≡ l.position);
    }
