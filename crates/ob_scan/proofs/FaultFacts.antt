-- Where the scanner finds a fault, the text has no list of tokens.
use Rattle.std.proofs.Common.{◌≡◌, ◌⊎◌, inl, inr, ⊎_elim, ℕ, ◌+◌, ◌<◌, Bool, false, IsTrue, List, [], ◌∷◌, ◌++◌, length, drop, refl, sym, ◌∙◌, ap, subst, arith, take}
use Rattle.std.specs.List.{All, list_all}
use Rattle.std.specs.Char.{is_ascii_alphanumeric, is_ascii_digit}
use Rattle.std.proofs.lemmas.Bool.{and_parts, false≢true}
use Rattle.std.proofs.lemmas.List.{take-append-drop}
use Rattle.std.proofs.lemmas.List.Elements.{All-head, All-same}
use Rattle.ob_scan.specs.declared.fault.ScanFault.{ScanFault}
use Rattle.ob_scan.specs.declared.fault.ScanFault.TheVariants.{StrayByte, NumberTooLarge, OpenComment, NameTooLong, TooLong, NoMemory}
use Rattle.ob_scan.specs.declared.token.Kind.{Kind}
use Rattle.ob_scan.specs.declared.token.Kind.TheVariants.{Ident, Number, LeftParen}
use Rattle.ob_scan.specs.declared.token.Token.{Token}
use Rattle.ob_scan.specs.Limits.{longest_name, largest_number}
use Rattle.ob_scan.specs.Spelling.{Spells, fixed, IsLongest, number_value}
use Rattle.ob_scan.specs.Tokens.{IsBlank, OpensComment, opens, CommentEnds, spelling, place, KeepsLimits}
use Rattle.ob_scan.specs.ScanFaults.{IsStray, stray, IsOpenComment, open', HasSpelling, has, IsScanFault}
use Rattle.ob_scan.specs.Scanning.{StandsFault}
use Rattle.ob_scan.proofs.Spellings.{spells_shape}
use Rattle.ob_scan.proofs.Comments.{head, opens_is}
use Rattle.ob_scan.proofs.TokenFacts.{ident_bytes, number_bytes, spelling_there}
use Rattle.ob_scan.proofs.Reached.{First, nothing, a_blank, a_comment, a_token, blank_opens_none, behind_token, Reached, place_drop, comment_here, goes_on_here}

-- with a stray byte no token begins
stray_none : {whole text : List ℕ} {tokens : List Token} → IsStray text → First whole text tokens [] → ⊥
stray_none (stray n s) (nothing e t) = cc
stray_none (stray n s) (a_blank e b r) = n (subst IsBlank (sym (ap head e)) b)
stray_none (stray n s) (a_comment {inside = inside} e c r) = s (40 ∷ []) (42 ∷ inside) LeftParen e (fixed refl)
stray_none (stray n s) (a_token {bytes = bytes} {behind = behind} {kind = kind} e p l o t r) = s bytes behind kind e p

-- behind an open comment nothing stands
open_none : {whole text : List ℕ} {tokens : List Token} → IsOpenComment text → First whole text tokens [] → ⊥
open_none (open' n) (nothing e t) = cc
open_none (open' {text = text} n) (a_blank {left = left} e b r) = blank_opens_none left (42 ∷ text) b (sym e)
open_none (open' n) (a_comment {behind = behind} e c r) =
    let P : List ℕ → Type 0 = λ l. CommentEnds l behind in
    n behind (subst P (sym (ap (λ l. drop 2 l) e)) c)
open_none (open' n) (a_token e p l o t r) = o opens

-- bytes that pass a test which `(` does not pass
abbrev IsPassed : ℕ → List ℕ → (ℕ → Bool) → Type 0
IsPassed x bytes test = IsTrue (list_all test (x ∷ bytes))

passed_no_parenthesis : (x : ℕ) (bytes : List ℕ) (test : ℕ → Bool) → test 40 ≡ false → x ≡ 40 → IsPassed x bytes test → ⊥
passed_no_parenthesis x bytes test f e h =
    false≢true (sym f ∙ sym (ap test e) ∙ (and_parts (test x) (list_all test bytes) h).0)

-- a name or a number begins no comment
opens_no_word : {kind : Kind} (bytes rest : List ℕ) → (kind ≡ Ident) ⊎ (kind ≡ Number) → Spells bytes kind →
    OpensComment (bytes ++ rest) → ⊥
opens_no_word [] rest k s o = false≢true (spells_shape s)
opens_no_word (x ∷ bytes) rest k s o =
    let h : x ≡ 40 = ap head (opens_is o) in
    let letter : (e : IsPassed x bytes is_ascii_alphanumeric) → ⊥ = passed_no_parenthesis x bytes is_ascii_alphanumeric refl h in
    let digit : (e : IsPassed x bytes is_ascii_digit) → ⊥ = passed_no_parenthesis x bytes is_ascii_digit refl h in
    ⊎_elim (λ e. letter (ident_bytes s e).0) (λ e. digit (number_bytes s e).0) k

-- a name or a number that is out of bounds stands here
record IsBadHere (text : List ℕ) (kind : Kind) (IsBad : List ℕ → Type 0) : Type 0 where
  bytes : List ℕ
  rest : List ℕ
  parts : text ≡ bytes ++ rest
  spells : Spells bytes kind
  longest : IsLongest bytes rest
  bad : IsBad bytes

bad_here : {text : List ℕ} {kind : Kind} {IsBad : List ℕ → Type 0} → HasSpelling kind IsBad text → IsBadHere text kind IsBad
bad_here (has {bytes = bytes} {rest = rest} s l b) =
    record { bytes = bytes; rest = rest; parts = refl; spells = s; longest = l; bad = b }

-- such a spelling is that of the first token, and the token breaks the limits
bad_none : (whole before text : List ℕ) (tokens : List Token) (kind : Kind) (IsBad : List ℕ → Type 0) → whole ≡ before ++ text →
    (kind ≡ Ident) ⊎ (kind ≡ Number) →
    ((t : Token) → t.kind ≡ kind → KeepsLimits whole t → IsBad (spelling whole t) → ⊥) →
    IsBadHere text kind IsBad → First whole text tokens [] → All (KeepsLimits whole) tokens → ⊥
bad_none whole before text tokens kind IsBad w k breaks h f limits =
    let no_comment : ¬ OpensComment text =
    λ o. opens_no_word h.bytes h.rest k h.spells (subst OpensComment h.parts o) in
    let m = behind_token h.parts h.spells h.longest no_comment f in
    let t : Token = record { kind = kind; start = place whole text; end = place whole h.rest } in
    let here : KeepsLimits whole t =
    All-head (KeepsLimits whole) t m.0 (All-same (KeepsLimits whole) (t ∷ m.0) tokens (sym m.1) limits) in
    breaks t refl here (subst IsBad (sym (spelling_there before h.bytes h.rest whole text w h.parts)) h.bad)

-- a fault that is found where the scanner has come to
pub fault_here : (whole : List ℕ) (tokens : List Token) (at : ℕ) (fault : ScanFault) → Reached whole tokens at →
    StandsFault whole at fault → IsScanFault whole fault
fault_here whole tokens at (StrayByte p) r (e, s) =
    record {
      stands = record {
        tokens = tokens;
        left = drop at whole;
        before = r.before;
        here = e ∙ sym (place_drop whole at r.within);
        stands = s;
      };
      none = λ _ all h. (let g = goes_on_here whole tokens at r all h in stray_none s g.1);
    }
fault_here whole tokens at (NumberTooLarge p) r (e, s) =
    record {
      stands = record {
        tokens = tokens;
        left = drop at whole;
        before = r.before;
        here = e ∙ sym (place_drop whole at r.within);
        stands = s;
      };
      none = λ _ all h.
          (let g = goes_on_here whole tokens at r all h in
          bad_none whole (take at whole) (drop at whole) g.0 Number (λ bytes. largest_number < number_value bytes)
          (sym (take-append-drop at whole)) (inr refl)
          (λ t k l b. (let m = l.1 k in omega arith)) (bad_here s) g.1 g.2);
    }
fault_here whole tokens at (OpenComment p) r (e, s) =
    record {
      stands = record {
        tokens = tokens;
        left = drop at whole;
        before = r.before;
        here = e ∙ sym (place_drop whole at r.within);
        stands = s;
      };
      none = λ _ all h. (let g = goes_on_here whole tokens at r all h in open_none s g.1);
    }
fault_here whole tokens at (NameTooLong p) r (e, s) =
    record {
      stands = record {
        tokens = tokens;
        left = drop at whole;
        before = r.before;
        here = e ∙ sym (place_drop whole at r.within);
        stands = s;
      };
      none = λ _ all h.
          (let g = goes_on_here whole tokens at r all h in
          bad_none whole (take at whole) (drop at whole) g.0 Ident (λ bytes. longest_name < length bytes)
          (sym (take-append-drop at whole)) (inl refl)
          (λ t k l b. (let m = l.0 k in omega arith)) (bad_here s) g.1 g.2);
    }
fault_here whole tokens at TooLong r s = absurd s
fault_here whole tokens at NoMemory r s = absurd s

-- a comment that nowhere ends
pub open_comment_here : (whole : List ℕ) (at : ℕ) → OpensComment (drop at whole) →
    ((rest : List ℕ) → CommentEnds (drop (at + 2) whole) rest → ⊥) → StandsFault whole at (OpenComment at)
open_comment_here whole at o n = (refl, subst IsOpenComment (sym (comment_here whole at o)) (open' n))
