-- A scanner: a text whose tokens are given one at a time.
use Rattle.std.specs.Prelude.{◌≡◌, ℕ, ◌+◌, ◌<◌, ◌≤◌, length, drop, List, [], ◌∷◌, ◌++◌, Option, Some, None, Result, Ok, Err}
use Rattle.ob_scan.specs.declared.fault.ScanFault.{ScanFault}
use Rattle.ob_scan.specs.declared.token.Lent.{Lent}
use Rattle.ob_scan.specs.declared.token.Token.{Token}
use Rattle.ob_scan.specs.Tokens.{HasTokensBefore, HasTokens, spelling}
use Rattle.ob_scan.specs.ScanFaults.{IsScanFault, SaysNone}

-- a text, the place up to which its tokens were given, and the fault that was met
pub record ScannedText : Type 0 where
  pub text : List ℕ
  pub at : ℕ
  pub fault : Option ScanFault

-- a token that lends its bytes, by its places
abbrev pub token_of : Lent → Token
token_of t = record { kind = t.kind; start = t.start; end = t.start + length t.text.now }

-- These tokens were given: those of the text up to this place, each the longest in the whole text. Where the text has tokens,
-- they are these and then those to come.
pub record HasGiven (s : ScannedText) (tokens : List Token) : Type 0 where
  pub within : s.at ≤ length s.text
  pub before : HasTokensBefore s.text tokens (drop s.at s.text)
  pub first : (all : List Token) → HasTokens s.text all → (to_come : List Token) × (all ≡ tokens ++ to_come)

-- a fault of tokens: the text has no list of tokens, and the fault says why
pub record IsTokenFault (text : List ℕ) (fault : ScanFault) : Type 0 where
  pub is_fault : IsScanFault text fault
  pub says_none : SaysNone fault

-- some tokens were given, and a fault that was met is one of tokens
pub record IsScanned (s : ScannedText) : Type 0 where
  pub tokens : List Token
  pub given : HasGiven s tokens
  pub fails : (fault : ScanFault) → s.fault ≡ Some fault → IsTokenFault s.text fault

-- this token is given next: its bytes are those of the text, and it follows the tokens that were given
pub record GivesToken (s : ScannedText) (t : Lent) (after : ScannedText) : Type 0 where
  pub same_text : after.text ≡ s.text
  pub no_fault : after.fault ≡ None
  pub bytes : t.text.now ≡ spelling s.text (token_of t)
  pub onward : s.at < after.at
  pub ends : after.at ≡ (token_of t).end
  pub follows : (tokens : List Token) → HasGiven s tokens → HasGiven after (tokens ++ token_of t ∷ [])

-- the tokens that were given are all tokens of the text
pub record HasEnded (s after : ScannedText) : Type 0 where
  pub same : after ≡ s
  pub all : (tokens : List Token) → HasGiven s tokens → HasTokens s.text tokens

-- a fault is met, and kept
pub record MeetsFault (s : ScannedText) (fault : ScanFault) (after : ScannedText) : Type 0 where
  pub is_fault : IsTokenFault s.text fault
  pub kept : after ≡ record s { fault = Some fault }

-- what a call for the next token answers
abbrev pub Gives : ScannedText → Result (Option Lent) ScanFault → ScannedText → Type 0
Gives s (Ok (Some t)) after = GivesToken s t after
Gives s (Ok None) after = HasEnded s after
Gives s (Err fault) after = MeetsFault s fault after
