-- The tokens before a place of a text, and those behind it.
use Rattle.std.specs.Prelude.{ℕ, ◌≤◌, nat_lt, Bool, true, false, List, [], filter, length, reverse}
use Rattle.ob_scan.specs.Limits.{longest_text}
use Rattle.ob_scan.specs.Tokens.{HasTokens}
use Rattle.ob_scan.specs.declared.fault.ScanFault.{ScanFault}
use Rattle.ob_scan.specs.declared.fault.ScanFault.TheVariants.{NoMemory}
use Rattle.ob_scan.specs.declared.token.Token.{Token}

-- those of a text; none where it has no such list, or is longer than any module
pub data AreTokens (text : List ℕ) : List Token → Type 0 where
  scanned : {tokens : List Token} → HasTokens text tokens → AreTokens text tokens
  without : (length text ≤ longest_text → (tokens : List Token) → HasTokens text tokens → ⊥) → AreTokens text []

-- those before a place, the last one first
abbrev pub before : ℕ → List Token → List Token
before at tokens = filter (λ t. nat_lt t.start at) (reverse tokens)

-- those that begin behind a place, in their order
abbrev pub behind : ℕ → List Token → List Token
behind at tokens = filter (λ t. nat_lt at t.start) tokens

-- want of memory
abbrev pub is_memory : ScanFault → Bool
is_memory NoMemory = true
is_memory _ = false
