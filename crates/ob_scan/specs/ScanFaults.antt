-- What each fault of the scanner says: behind tokens of the text, at the place that it names, stands what the fault is about.
-- Where such a thing stands, the text has no list of tokens.
use Rattle.std.specs.Prelude.{◌≡◌, ℕ, ◌<◌, length, List, ◌∷◌, ◌++◌}
use Rattle.ob_scan.specs.declared.fault.ScanFault.{ScanFault}
use Rattle.ob_scan.specs.declared.fault.ScanFault.TheVariants.{StrayByte, NumberTooLarge, OpenComment, NameTooLong, TooLong, NoMemory}
use Rattle.ob_scan.specs.declared.token.Kind.{Kind}
use Rattle.ob_scan.specs.Limits.{longest_text}
use Rattle.ob_scan.specs.Limits.{longest_name, largest_number}
use Rattle.ob_scan.specs.declared.token.Token.{Token}
use Rattle.ob_scan.specs.Spelling.{Spells, IsLongest, number_value}
use Rattle.ob_scan.specs.Tokens.{IsBlank, CommentEnds, HasTokensBefore, HasTokens, place}

-- a byte that is no blank, and with which no token begins
pub data IsStray : List ℕ → Type 0 where
  stray : {byte : ℕ} {text : List ℕ} →
      ¬ IsBlank byte →
      ((bytes rest : List ℕ) (kind : Kind) → byte ∷ text ≡ bytes ++ rest → Spells bytes kind → ⊥) →
      IsStray (byte ∷ text)

-- a `(*` with no end
pub data IsOpenComment : List ℕ → Type 0 where
  open' : {text : List ℕ} → ((rest : List ℕ) → CommentEnds text rest → ⊥) → IsOpenComment (40 ∷ 42 ∷ text)

-- a longest spelling of a kind that is out of bounds
pub data HasSpelling (kind : Kind) (IsBad : List ℕ → Type 0) : List ℕ → Type 0 where
  has : {bytes rest : List ℕ} →
      Spells bytes kind → IsLongest bytes rest → IsBad bytes → HasSpelling kind IsBad (bytes ++ rest)

-- behind tokens of the text, this is left, and it stands there
pub record StandsAt (whole : List ℕ) (at : ℕ) (IsFault : List ℕ → Type 0) : Type 0 where
  pub tokens : List Token
  pub left : List ℕ
  pub before : HasTokensBefore whole tokens left
  pub here : at ≡ place whole left
  pub stands : IsFault left

abbrev pub FaultStands : List ℕ → ScanFault → Type 0
FaultStands whole (StrayByte at) = StandsAt whole at IsStray
FaultStands whole (NumberTooLarge at) =
    StandsAt whole at (HasSpelling Kind.Number (λ bytes. largest_number < number_value bytes))
FaultStands whole (OpenComment at) = StandsAt whole at IsOpenComment
FaultStands whole (NameTooLong at) = StandsAt whole at (HasSpelling Kind.Ident (λ bytes. longest_name < length bytes))
FaultStands whole TooLong = longest_text < length whole
FaultStands whole NoMemory = Unit {0}

-- the faults that say that there is no list of tokens
abbrev pub SaysNone : ScanFault → Type 0
SaysNone TooLong = ⊥
SaysNone NoMemory = ⊥
SaysNone _ = Unit {0}

-- a fault stands where it says, and but for the length and want of memory the text has no list of tokens
pub record IsScanFault (whole : List ℕ) (fault : ScanFault) : Type 0 where
  pub stands : FaultStands whole fault
  pub none : SaysNone fault → (tokens : List Token) → HasTokens whole tokens → ⊥
