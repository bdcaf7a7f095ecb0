-- What the scanner finds at one place of a text: a token, or a fault.
use Rattle.std.specs.Prelude.{◌≡◌, ◌≢◌, ℕ, ◌+◌, ◌<◌, ◌≤◌, length, drop, slice_index, List, [], ◌∷◌, Option, Some, None, Result, Ok, Err}
use Rattle.ob_scan.specs.declared.fault.ScanFault.{ScanFault}
use Rattle.ob_scan.specs.declared.fault.ScanFault.TheVariants.{StrayByte, NumberTooLarge, OpenComment, NameTooLong, TooLong, NoMemory}
use Rattle.ob_scan.specs.declared.token.Kind.{Kind}
use Rattle.ob_scan.specs.Limits.{longest_name, largest_number}
use Rattle.ob_scan.specs.declared.token.Token.{Token}
use Rattle.ob_scan.specs.Spelling.{fixed_spelling, Spells, IsLongest, number_value}
use Rattle.ob_scan.specs.Tokens.{OpensComment, BeginsWith, spelling, KeepsLimits}
use Rattle.ob_scan.specs.ScanFaults.{IsStray, IsOpenComment, HasSpelling}

-- the byte at this place and an `=` behind it make no symbol
abbrev pub HasNoLongSymbol : List ℕ → ℕ → Type 0
HasNoLongSymbol text start =
    (rest : List ℕ) (kind : Kind) → drop (start + 1) text ≡ 61 ∷ rest →
    fixed_spelling kind ≢ Some (slice_index text start ∷ 61 ∷ [])

-- a token with the longest spelling stands at this place, and it keeps the limits
pub record StandsToken (text : List ℕ) (start : ℕ) (t : Token) : Type 0 where
  pub starts : t.start ≡ start
  pub ordered : start < t.end
  pub within : t.end ≤ length text
  pub spells : Spells (spelling text t) t.kind
  pub longest : IsLongest (spelling text t) (drop t.end text)
  pub limited : KeepsLimits text t

-- what this fault is about stands at this place
abbrev pub StandsFault : List ℕ → ℕ → ScanFault → Type 0
StandsFault text start (StrayByte at) = (at ≡ start) × IsStray (drop start text)
StandsFault text start (NumberTooLarge at) =
    (at ≡ start) × HasSpelling Kind.Number (λ bytes. largest_number < number_value bytes) (drop start text)
StandsFault text start (OpenComment at) = (at ≡ start) × IsOpenComment (drop start text)
StandsFault text start (NameTooLong at) =
    (at ≡ start) × HasSpelling Kind.Ident (λ bytes. longest_name < length bytes) (drop start text)
StandsFault text start TooLong = ⊥
StandsFault text start NoMemory = ⊥

-- blanks and comments alone stand from one place up to another
pub record IsSkipped (text : List ℕ) (start end : ℕ) : Type 0 where
  pub onward : start ≤ end
  pub within : end ≤ length text
  pub passed : BeginsWith text (drop start text) [] (drop end text)

-- what this fault is about stands behind blanks and comments from this place on
pub record StandsFaultBehind (text : List ℕ) (start : ℕ) (fault : ScanFault) : Type 0 where
  pub at : ℕ
  pub skipped : IsSkipped text start at
  pub stands : StandsFault text at fault

-- this token stands behind blanks and comments from this place on
pub record StandsTokenBehind (text : List ℕ) (start : ℕ) (t : Token) : Type 0 where
  pub at : ℕ
  pub skipped : IsSkipped text start at
  pub no_comment : ¬ OpensComment (drop at text)
  pub stands : StandsToken text at t

-- what stands behind blanks and comments from this place on: a token, nothing, or a fault
abbrev pub StandsBehind : List ℕ → ℕ → Result (Option Token) ScanFault → Type 0
StandsBehind text start (Ok (Some t)) = StandsTokenBehind text start t
StandsBehind text start (Ok None) = IsSkipped text start (length text)
StandsBehind text start (Err fault) = StandsFaultBehind text start fault
