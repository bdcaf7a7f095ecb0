-- What a scanner gives, from what stands behind blanks and comments.
use Rattle.std.proofs.Common.{◌≡◌, ℕ, ◌+◌, ◌≤◌, List, [], ◌∷◌, ◌++◌, Option, Some, None, length, slice_range, refl, sym, ◌∙◌, ap, subst, arith}
use Rattle.std.proofs.lemmas.List.{drop_all}
use Rattle.std.proofs.lemmas.List.Edits.{length-between}
use Rattle.std.proofs.lemmas.Option.{same_Some}
use Rattle.ob_scan.specs.declared.fault.ScanFault.{ScanFault}
use Rattle.ob_scan.specs.declared.fault.ScanFault.TheVariants.{StrayByte, NumberTooLarge, OpenComment, NameTooLong, TooLong, NoMemory}
use Rattle.ob_scan.specs.declared.token.Kind.{Kind}
use Rattle.ob_scan.specs.declared.token.Lent.{Lent}
use Rattle.ob_scan.specs.declared.token.Token.{Token}
use Rattle.ob_scan.specs.Tokens.{HasTokensBefore}
use Rattle.ob_scan.specs.ScanFaults.{SaysNone}
use Rattle.ob_scan.specs.Scanning.{StandsFault, IsSkipped, StandsFaultBehind, StandsTokenBehind}
use Rattle.ob_scan.specs.Scanners.{ScannedText, token_of, HasGiven, IsTokenFault, IsScanned, GivesToken, HasEnded}
use Rattle.ob_scan.proofs.Reached.{Reached, reached, reached_start, reached_skipped, reached_token}
use Rattle.ob_scan.proofs.FaultFacts.{fault_here}

pub reached_given : (s : ScannedText) (tokens : List Token) → HasGiven s tokens → Reached s.text tokens s.at
reached_given s tokens g = reached s.text tokens s.at g.within g.before

pub given_reached : (s : ScannedText) (tokens : List Token) → Reached s.text tokens s.at → HasGiven s tokens
given_reached s tokens r = record {
  within = r.within;
  before = r.before;
  first = λ all h. (let o = r.only all h.spelled in (o.0, o.1));
}

pub given_start : (text : List ℕ) (fault : Option ScanFault) → HasGiven (record { text = text; at = 0; fault = fault }) []
given_start text fault = given_reached (record { text = text; at = 0; fault = fault }) [] (reached_start text)

pub scanned_start : (text : List ℕ) → IsScanned (record { text = text; at = 0; fault = None })
scanned_start text = record { tokens = []; given = given_start text None; fails = λ fault h. cc }

-- a fault that stands somewhere is one of tokens
says_none_here : (text : List ℕ) (at : ℕ) (fault : ScanFault) → StandsFault text at fault → SaysNone fault
says_none_here text at (StrayByte p) s = tt
says_none_here text at (NumberTooLarge p) s = tt
says_none_here text at (OpenComment p) s = tt
says_none_here text at (NameTooLong p) s = tt
says_none_here text at TooLong s = absurd s
says_none_here text at NoMemory s = absurd s

pub token_fault : (s : ScannedText) (fault : ScanFault) → IsScanned s → StandsFaultBehind s.text s.at fault →
    IsTokenFault s.text fault
token_fault s fault i k =
    record {
      is_fault =
          fault_here s.text i.tokens k.at fault
          (reached_skipped s.text i.tokens s.at k.at (reached_given s i.tokens i.given) k.skipped) k.stands;
      says_none = says_none_here s.text k.at fault k.stands;
    }

pub scanned_fault : (s : ScannedText) (fault : ScanFault) → IsScanned s → StandsFaultBehind s.text s.at fault →
    IsScanned (record { text = s.text; at = s.at; fault = Some fault })
scanned_fault s fault i k =
    let here = token_fault s fault i k in
    let after : ScannedText = record { text = s.text; at = s.at; fault = Some fault } in
    record {
      tokens = i.tokens;
      given = given_reached after i.tokens (reached_given s i.tokens i.given);
      fails = λ e h. subst (IsTokenFault s.text) (same_Some fault e h) here;
    }

-- a token that lends the bytes between its places
lent_same : (text : List ℕ) (t : Token) (l : Lent) → t.start ≤ t.end → t.end ≤ length text →
    l.kind ≡ t.kind → l.start ≡ t.start → l.text.now ≡ slice_range text t.start t.end → token_of l ≡ t
lent_same text t l o w k s b =
    let n = ap length b ∙ length-between text t.start t.end w in
    let e : l.start + length l.text.now ≡ t.end = omega arith in
    let make : Kind → ℕ → ℕ → Token = λ kind start end. record { kind = kind; start = start; end = end } in
    ap (λ x. make x l.start (l.start + length l.text.now)) k ∙ ap (λ x. make t.kind x (l.start + length l.text.now)) s
    ∙ ap (λ x. make t.kind t.start x) e

pub gives_token : (s now : ScannedText) (t : Token) (l : Lent) → s ≡ now → s.fault ≡ None → StandsTokenBehind s.text s.at t →
    l.kind ≡ t.kind → l.start ≡ t.start → l.text.now ≡ slice_range s.text t.start t.end →
    GivesToken now l (record { text = s.text; at = t.end; fault = s.fault })
gives_token s now t l e f k kind start bytes =
    let h = k.stands.starts in
    let o = k.stands.ordered in
    let w = k.stands.within in
    let on = k.skipped.onward in
    let same = lent_same s.text t l (omega arith) w kind start bytes in
    let after : ScannedText = record { text = s.text; at = t.end; fault = s.fault } in
    let P : ScannedText → Type 0 = λ x. GivesToken x l after in
    subst P e
    (record {
      same_text = refl;
      no_fault = f;
      bytes = bytes ∙ sym (ap (λ (x : Token). slice_range s.text x.start x.end) same);
      onward = omega arith;
      ends = sym (ap (λ (x : Token). x.end) same);
      follows = λ tokens g.
          (let r = reached_skipped s.text tokens s.at k.at (reached_given s tokens g) k.skipped in
          let Q : Token → Type 0 = λ x. HasGiven after (tokens ++ x ∷ []) in
          subst Q (sym same)
          (given_reached after (tokens ++ t ∷ []) (reached_token s.text tokens k.at t r k.stands k.no_comment)));
    })

pub scanned_token : (s : ScannedText) (t : Token) → IsScanned s → StandsTokenBehind s.text s.at t →
    IsScanned (record { text = s.text; at = t.end; fault = s.fault })
scanned_token s t i k =
    let r = reached_skipped s.text i.tokens s.at k.at (reached_given s i.tokens i.given) k.skipped in
    let after : ScannedText = record { text = s.text; at = t.end; fault = s.fault } in
    record {
      tokens = i.tokens ++ t ∷ [];
      given = given_reached after (i.tokens ++ t ∷ []) (reached_token s.text i.tokens k.at t r k.stands k.no_comment);
      fails = i.fails;
    }

-- where nothing is left, the tokens that were given are all
pub has_ended : (s : ScannedText) → IsSkipped s.text s.at (length s.text) → HasEnded s s
has_ended s k = record {
  same = refl;
  all = λ tokens g.
      (let r = reached_skipped s.text tokens s.at (length s.text) (reached_given s tokens g) k in
      let P : List ℕ → Type 0 = λ left. HasTokensBefore s.text tokens left in
      subst P (drop_all (length s.text) s.text (omega arith)) r.before);
}
