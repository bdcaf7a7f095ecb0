-- What a look at the next token of a scanner leads to.
use Rattle.std.proofs.Common.{◌≡◌, ℕ, zero, suc, ◌<◌, ◌≤◌, List, [], ◌∷◌, ◌++◌, Option, Some, None, Ok, option_map, slice_get, IsSome, IfSome, length, take, refl, sym, ◌∙◌, ap, subst, arith}
use Rattle.std.specs.List.{All}
use Rattle.std.proofs.lemmas.List.{length-map}
use Rattle.std.proofs.lemmas.List.Elements.{All-head, All-tail}
use Rattle.std.proofs.lemmas.Option.{slice_get_within, slice_get-map}
use Rattle.ob_scan.specs.declared.fault.ScanFault.{ScanFault}
use Rattle.ob_scan.specs.declared.token.Lent.{Lent}
use Rattle.ob_scan.specs.declared.token.Token.{Token}
use Rattle.ob_scan.specs.Tokens.{HasTokens, TokenizedText, spelling}
use Rattle.ob_scan.specs.Lexemes.{Lexeme, lexeme, lexemes, IsSpelled}
use Rattle.ob_scan.specs.Scanners.{ScannedText, token_of, HasGiven, Gives, HasEnded, MeetsFault}
use Rattle.ob_scan.proofs.Reached.{no_others}
use Rattle.ob_scan.proofs.Spelled.{before_spelled}
use Rattle.ob_scan.specs.Sources.{Stands, Steps, lexeme_of}
use Rattle.ob_scan.specs.Scanned.{Scan, HasGivenSome, IsScan, looked_at, scanned, Begins, GivesNone, Looks}

-- where no token is given

pub none_at_end : (s after : ScannedText) → HasEnded s after → GivesNone s after
none_at_end s after e = record {
  same_text = ap (λ (x : ScannedText). x.text) e.same;
  same_place = ap (λ (x : ScannedText). x.at) e.same;
  given = λ tokens g. (let P : ScannedText → Type 0 = λ x. HasGiven x tokens in subst P (sym e.same) g);
  all = λ tokens others g h. no_others (e.all tokens g) others h;
}

pub none_at_fault : (s : ScannedText) (fault : ScanFault) (after : ScannedText) → MeetsFault s fault after → GivesNone s after
none_at_fault s fault after m = record {
  same_text = ap (λ (x : ScannedText). x.text) m.kept;
  same_place = ap (λ (x : ScannedText). x.at) m.kept;
  given = λ tokens g.
      (let P : ScannedText → Type 0 = λ x. HasGiven x tokens in
      subst P (sym m.kept) (record { within = g.within; before = g.before; first = g.first }));
  all = λ tokens others g h. absurd (m.is_fault.is_fault.none m.is_fault.says_none others h);
}

pub looked_from : (s after : ScannedText) (o : Option Lent) → Gives s (Ok o) after → Looks s o after
looked_from s after None g = none_at_end s after g
looked_from s after (Some t) g = g

-- one more element of a list

taken_next : {A : Type 0} (xs : List A) (n : ℕ) (x : A) (more : List A) → n ≤ length xs → xs ≡ (take n xs ++ x ∷ []) ++ more →
    (slice_get xs n ≡ Some x) × (take (suc n) xs ≡ take n xs ++ x ∷ [])
taken_next [] zero x more h e = absurd (cc)
taken_next [] (suc n) x more h e = absurd (omega arith)
taken_next (y ∷ ys) zero x more h e = let same : y ≡ x = cc in (ap Some same, ap (λ z. z ∷ []) same)
taken_next (y ∷ ys) (suc n) x more h e =
    let rest : ys ≡ (take n ys ++ x ∷ []) ++ more = cc in
    let m = taken_next ys n x more (omega arith) rest in
    (m.0, ap (λ zs. y ∷ zs) m.1)

all_taken : {A : Type 0} (xs : List A) (n : ℕ) → xs ≡ take n xs → (slice_get xs n ≡ None) × (take (suc n) xs ≡ take n xs)
all_taken [] zero e = (refl, refl)
all_taken [] (suc n) e = (refl, refl)
all_taken (y ∷ ys) zero e = absurd (cc)
all_taken (y ∷ ys) (suc n) e = let rest : ys ≡ take n ys = cc in let m = all_taken ys n rest in (m.0, ap (λ zs. y ∷ zs) m.1)

none_taken : {A : Type 0} (xs : List A) → take 0 xs ≡ []
none_taken [] = refl
none_taken (x ∷ xs) = refl

lexeme_given : (text : List ℕ) (t : Lent) → t.text.now ≡ spelling text (token_of t) →
    lexeme t.kind t.start (spelling text (token_of t)) ≡ lexeme_of t
lexeme_given text t e = ap (λ bytes. lexeme t.kind t.start bytes) (sym e)

-- the token that was looked at stands behind those that were given before
pub looked : (s after : ScannedText) (o : Option Lent) (source : TokenizedText) (n : ℕ) → Looks s o after → source.text ≡ s.text →
    HasTokens source.text source.tokens → n ≤ length source.tokens → HasGiven s (take n source.tokens) →
    Stands (scanned (record { scanner = after; here = option_map lexeme_of o })) source n
looked s after None source n l text all within given =
    let P : List ℕ → Type 0 = λ x. HasTokens x source.tokens in
    let m = all_taken source.tokens n (l.all (take n source.tokens) source.tokens given (subst P text all)) in
    let make : Token → Lexeme = λ t. lexeme t.kind t.start (spelling source.text t) in
    let Q : List Token → Type 0 = λ tokens. HasGiven after tokens in
    record {
      text = text ∙ sym l.same_text;
      next = slice_get-map make source.tokens n ∙ ap (option_map make) m.0;
      gives = record { all = all; within = within; given = subst Q (sym m.1) (l.given (take n source.tokens) given) };
    }
looked s after (Some t) source n l text all within given =
    let P : List ℕ → Type 0 = λ x. HasTokens x source.tokens in
    let g = l.follows (take n source.tokens) given in
    let more = g.first source.tokens (subst P (text ∙ sym l.same_text) all) in
    let m = taken_next source.tokens n (token_of t) more.0 within more.1 in
    let make : Token → Lexeme = λ t. lexeme t.kind t.start (spelling source.text t) in
    let Q : List Token → Type 0 = λ tokens. HasGiven after tokens in
    let bytes : t.text.now ≡ spelling source.text (token_of t) = l.bytes ∙ ap (λ x. spelling x (token_of t)) (sym text) in
    record {
      text = text ∙ sym l.same_text;
      next = slice_get-map make source.tokens n ∙ ap (option_map make) m.0 ∙ ap Some (lexeme_given source.text t bytes);
      gives = record { all = all; within = within; given = subst Q (sym m.1) g };
    }

-- what a look keeps

last_spelled : (text : List ℕ) (tokens : List Token) (t : Token) → All IsSpelled (lexemes text (tokens ++ t ∷ [])) →
    IsSpelled (lexeme t.kind t.start (spelling text t))
last_spelled text [] t h = All-head IsSpelled (lexeme t.kind t.start (spelling text t)) [] h
last_spelled text (x ∷ tokens) t h = last_spelled text tokens t (All-tail IsSpelled (lexeme x.kind x.start (spelling text x)) (lexemes text (tokens ++ t ∷ [])) h)

pub looked_given : (s after : ScannedText) (o : Option Lent) → Looks s o after → HasGivenSome s → HasGivenSome after
looked_given s after None l g = record { tokens = g.tokens; given = l.given g.tokens g.given }
looked_given s after (Some t) l g = record { tokens = g.tokens ++ token_of t ∷ []; given = l.follows g.tokens g.given }

looked_spelled : (s after : ScannedText) (o : Option Lent) → Looks s o after → HasGivenSome s →
    IfSome (option_map lexeme_of o) IsSpelled
looked_spelled s after None l g = tt
looked_spelled s after (Some t) l g =
    let h = last_spelled after.text g.tokens (token_of t) (before_spelled (l.follows g.tokens g.given).before) in
    subst IsSpelled (lexeme_given after.text t (l.bytes ∙ ap (λ x. spelling x (token_of t)) (sym l.same_text))) h

same_text : (s after : ScannedText) (o : Option Lent) → Looks s o after → after.text ≡ s.text
same_text s after None l = l.same_text
same_text s after (Some t) l = l.same_text

pub looked_scan : (end : ℕ) (s after : ScannedText) (o : Option Lent) → Looks s o after → end ≡ length s.text → HasGivenSome s →
    IsScan end (record { scanner = after; here = option_map lexeme_of o })
looked_scan end s after o l e g = record {
  ends = e ∙ ap length (sym (same_text s after o l));
  given = looked_given s after o l g;
  spelled = looked_spelled s after o l g;
}

-- a step

here_one : (o : Option Lexeme) → IsSome o → looked_at o ≡ 1
here_one None h = absurd (cc)
here_one (Some t) h = refl

less : (v : Scan) (after : ScannedText) (o : Option Lent) → Looks v.scanner o after → HasGivenSome v.scanner → IsSome v.here →
    (scanned (record { scanner = after; here = option_map lexeme_of o })).left < (scanned v).left
less v after None l g h =
    let one = here_one v.here h in
    let text = ap length l.same_text in
    let place = l.same_place in
    omega arith
less v after (Some t) l g h =
    let one = here_one v.here h in
    let text = ap length l.same_text in
    let on = l.onward in
    let within = (l.follows g.tokens g.given).within in
    omega arith

below : (v : Scan) (source : TokenizedText) (p : ℕ) → IsSome v.here → slice_get (lexemes source.text source.tokens) p ≡ v.here →
    p < length source.tokens
below v source p h e =
    let found : (o : Option Lexeme) → slice_get (lexemes source.text source.tokens) p ≡ o → IsSome o → p < length (lexemes source.text source.tokens) =
    λ o. elim o as (λ o. slice_get (lexemes source.text source.tokens) p ≡ o → IsSome o → p < length (lexemes source.text source.tokens)) [
      | None ↦ λ e h. absurd (cc)
      | Some t ↦ λ e h. slice_get_within _ p t e
    ] in
    let n = found v.here e h in
    omega (arith, length-map source.tokens (λ (t : Token). lexeme t.kind t.start (spelling source.text t)))

pub looked_steps : (v : Scan) (after : ScannedText) (o : Option Lent) → Looks v.scanner o after → HasGivenSome v.scanner → IsSome v.here →
    Steps (scanned v) (scanned (record { scanner = after; here = option_map lexeme_of o }))
looked_steps v after o l g h = record {
  kept = same_text v.scanner after o l;
  less = less v after o l g h;
  on = λ source p w.
      (let k = below v source p h w.next in looked v.scanner after o source (suc p) l w.text w.gives.all (omega arith) w.gives.given);
}

pub looked_begins : (text : List ℕ) (s after : ScannedText) (o : Option Lent) → s.text ≡ text → Looks s o after → HasGiven s [] →
    Begins text (record { scanner = after; here = option_map lexeme_of o })
looked_begins text s after o e l g = record {
  same = same_text s after o l ∙ e;
  stands = λ tokens all.
      (let P : List Token → Type 0 = λ given. HasGiven s given in
      looked s after o (record { text = text; tokens = tokens }) 0 l (sym e) all (omega arith) (subst P (sym (none_taken tokens)) g));
}
