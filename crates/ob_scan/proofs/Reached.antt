-- How far the scanner has come: behind the only tokens that the text can begin with.
use Rattle.std.proofs.Common.{◌≡◌, ℕ, ◌+◌, ◌<◌, ◌≤◌, List, [], ◌∷◌, ◌++◌, length, drop, refl, sym, ◌∙◌, ap, subst, arith, get_or, length-drop}
use Rattle.std.specs.List.{All}
use Rattle.std.proofs.lemmas.Bool.{false≢true}
use Rattle.std.proofs.lemmas.List.{drop-drop, drop_more, drop_at, append-nil}
use Rattle.std.proofs.lemmas.List.Elements.{All-nil, All-push, All-drop, All-same}
use Rattle.ob_scan.specs.declared.token.Kind.{Kind}
use Rattle.ob_scan.specs.declared.token.Token.{Token}
use Rattle.ob_scan.specs.Spelling.{Spells, IsLongest}
use Rattle.ob_scan.specs.Tokens.{IsBlank, space, tab, carriage_return, line_feed, OpensComment, opens, CommentEnds, BeginsWith, stops, blank, comment, token, spelling, place, KeepsLimits, HasTokensBefore, HasTokens}
use Rattle.ob_scan.specs.Scanning.{StandsToken, IsSkipped}
use Rattle.ob_scan.proofs.TokenFacts.{slice_join}
use Rattle.ob_scan.proofs.Spellings.{spells_shape, blank_spells_none, one_token}
use Rattle.ob_scan.proofs.Comments.{head, tail, comment_ends_once, opens_is}

-- what a text begins with
pub data First (whole text : List ℕ) (tokens : List Token) (rest : List ℕ) : Type 0 where
  nothing : text ≡ rest → tokens ≡ [] → First whole text tokens rest
  a_blank : {byte : ℕ} {left : List ℕ} → text ≡ byte ∷ left → IsBlank byte →
      BeginsWith whole left tokens rest → First whole text tokens rest
  a_comment : {inside behind : List ℕ} → text ≡ 40 ∷ 42 ∷ inside → CommentEnds inside behind →
      BeginsWith whole behind tokens rest → First whole text tokens rest
  a_token : {bytes behind : List ℕ} {kind : Kind} {more : List Token} → text ≡ bytes ++ behind →
      Spells bytes kind → IsLongest bytes behind → ¬ OpensComment text →
      tokens ≡ record { kind = kind; start = place whole text; end = place whole behind } ∷ more →
      BeginsWith whole behind more rest → First whole text tokens rest

pub first : {whole text rest : List ℕ} {tokens : List Token} → BeginsWith whole text tokens rest → First whole text tokens rest
first stops = nothing refl refl
first (blank b r) = a_blank refl b r
first (comment c r) = a_comment refl c r
first (token bytes kind e s l n r) = a_token e s l n refl r

-- a blank begins no comment and no token
pub blank_opens_none : {byte : ℕ} (rest inside : List ℕ) → IsBlank byte → byte ∷ rest ≡ 40 ∷ inside → ⊥
blank_opens_none rest inside space e = let h : ◌≡◌ {A = ℕ} 32 40 = ap head e in omega arith
blank_opens_none rest inside tab e = let h : ◌≡◌ {A = ℕ} 9 40 = ap head e in omega arith
blank_opens_none rest inside carriage_return e = let h : ◌≡◌ {A = ℕ} 13 40 = ap head e in omega arith
blank_opens_none rest inside line_feed e = let h : ◌≡◌ {A = ℕ} 10 40 = ap head e in omega arith

pub blank_no_token : {byte : ℕ} {kind : Kind} (rest bytes behind : List ℕ) → IsBlank byte → byte ∷ rest ≡ bytes ++ behind →
    Spells bytes kind → ⊥
blank_no_token rest [] behind b e s = false≢true (spells_shape s)
blank_no_token {kind = kind} rest (x ∷ bytes) behind b e s =
    let P : ℕ → Type 0 = λ y. Spells (y ∷ bytes) kind in
    blank_spells_none bytes b (spells_shape (subst P (sym (ap head e)) s))

no_token_in_nothing : {kind : Kind} (bytes behind : List ℕ) → [] ≡ bytes ++ behind → Spells bytes kind → ⊥
no_token_in_nothing [] behind e s = false≢true (spells_shape s)
no_token_in_nothing (x ∷ bytes) behind e s = cc

-- behind a blank, the same tokens follow
behind_blank : {whole left : List ℕ} {byte : ℕ} {tokens : List Token} → IsBlank byte →
    First whole (byte ∷ left) tokens [] → BeginsWith whole left tokens []
behind_blank b (nothing e t) = cc
behind_blank {whole = whole} {tokens = tokens} b (a_blank e c r) =
    let P : List ℕ → Type 0 = λ l. BeginsWith whole l tokens [] in
    subst P (sym (ap tail e)) r
behind_blank {left = left} b (a_comment {inside = inside} e c r) = absurd (blank_opens_none left (42 ∷ inside) b e)
behind_blank {left = left} b (a_token {bytes = bytes} {behind = behind} e s l n t r) =
    absurd (blank_no_token left bytes behind b e s)

-- behind a comment too
behind_comment : {whole inside left : List ℕ} {tokens : List Token} → CommentEnds inside left →
    First whole (40 ∷ 42 ∷ inside) tokens [] → BeginsWith whole left tokens []
behind_comment c (nothing e t) = cc
behind_comment {inside = inside} c (a_blank {byte = byte} {left = left} e b r) =
    absurd (blank_opens_none left (42 ∷ inside) b (sym e))
behind_comment {whole = whole} {tokens = tokens} c (a_comment {behind = behind} e d r) =
    let P : List ℕ → Type 0 = λ l. CommentEnds l behind in
    let Q : List ℕ → Type 0 = λ l. BeginsWith whole l tokens [] in
    subst Q (sym (comment_ends_once c (subst P (sym (ap (λ l. tail (tail l)) e)) d))) r
behind_comment c (a_token e s l n t r) = absurd (n opens)

-- behind a token, the tokens that follow it
pub behind_token : {whole text bytes left : List ℕ} {kind : Kind} {tokens : List Token} →
    text ≡ bytes ++ left → Spells bytes kind → IsLongest bytes left → ¬ OpensComment text →
    First whole text tokens [] →
    (more : List Token)
    × (tokens ≡ record { kind = kind; start = place whole text; end = place whole left } ∷ more)
    × BeginsWith whole left more []
behind_token {bytes = bytes} {left = left} f s l n (nothing e t) = absurd (no_token_in_nothing bytes left (sym e ∙ f) s)
behind_token {bytes = bytes} {left = left} f s l n (a_blank {left = behind} e b r) =
    absurd (blank_no_token behind bytes left b (sym e ∙ f) s)
behind_token f s l n (a_comment e c r) = absurd (n (subst OpensComment (sym e) opens))
behind_token {whole = whole} {text = text} {bytes = bytes} {left = left} {kind = kind} f s l n (a_token {bytes = a} {behind = behind} {kind = k} {more = more} e p m o t r) =
    let same = one_token a bytes behind left k kind (sym e ∙ f) p s m l in
    let P : List ℕ → Type 0 = λ l. BeginsWith whole l more [] in
    let make : Kind → List ℕ → List Token =
    λ x y. record { kind = x; start = place whole text; end = place whole y } ∷ more in
    (more, t ∙ ap (λ x. make x behind) same.same_kind ∙ ap (λ y. make kind y) same.behind, subst P same.behind r)

-- a text has its tokens and no others

nothing_left : {whole : List ℕ} {tokens : List Token} → First whole [] tokens [] → tokens ≡ []
nothing_left (nothing e t) = t
nothing_left (a_blank e b r) = absurd (cc)
nothing_left (a_comment e c r) = absurd (cc)
nothing_left (a_token {bytes = bytes} {behind = behind} e s l n t r) = absurd (no_token_in_nothing bytes behind e s)

same_behind : {whole text : List ℕ} {tokens others : List Token} →
    BeginsWith whole text tokens [] → BeginsWith whole text others [] → others ≡ tokens
same_behind stops others = nothing_left (first others)
same_behind (blank b r) others = same_behind r (behind_blank b (first others))
same_behind (comment c r) others = same_behind r (behind_comment c (first others))
same_behind {whole = whole} {text = text} (token {behind = behind} bytes kind e s l n r) others =
    let m = behind_token e s l n (first others) in
    let make : List Token → List Token = λ more. record { kind = kind; start = place whole text; end = place whole behind } ∷ more in
    m.1 ∙ ap make (same_behind r m.2)

pub no_others : {text : List ℕ} {tokens : List Token} → HasTokens text tokens → (others : List Token) → HasTokens text others → others ≡ tokens
no_others h others k = same_behind h.spelled k.spelled

-- tokens, and then further ones
pub begins_on : {whole text left rest : List ℕ} {tokens more : List Token} →
    BeginsWith whole text tokens left → BeginsWith whole left more rest → BeginsWith whole text (tokens ++ more) rest
begins_on stops b = b
begins_on (blank c a) b = blank c (begins_on a b)
begins_on (comment c a) b = comment c (begins_on a b)
begins_on (token bytes kind e s l n a) b = token bytes kind e s l n (begins_on a b)

-- what follows the first tokens of a text
behind_first : {whole text rest : List ℕ} {tokens all : List Token} →
    BeginsWith whole text tokens rest → BeginsWith whole text all [] →
    (more : List Token) × (all ≡ tokens ++ more) × BeginsWith whole rest more []
behind_first {all = all} stops a = (all, refl, a)
behind_first (blank b r) a = behind_first r (behind_blank b (first a))
behind_first (comment c r) a = behind_first r (behind_comment c (first a))
behind_first {whole = whole} {text = text} (token {behind = behind} bytes kind e s l n r) a =
    let m = behind_token e s l n (first a) in
    let more = behind_first r m.2 in
    let make : List Token → List Token = λ x. record { kind = kind; start = place whole text; end = place whole behind } ∷ x in
    (more.0, m.1 ∙ ap make more.1, more.2)

-- these tokens stand before this place, and each list of tokens of the text begins with them
pub record Reached (whole : List ℕ) (tokens : List Token) (at : ℕ) : Type 0 where
  pub within : at ≤ length whole
  pub before : HasTokensBefore whole tokens (drop at whole)
  pub only : (all : List Token) → BeginsWith whole whole all [] →
      (more : List Token) × (all ≡ tokens ++ more) × BeginsWith whole (drop at whole) more []

pub reached : (whole : List ℕ) (tokens : List Token) (at : ℕ) → at ≤ length whole → HasTokensBefore whole tokens (drop at whole) →
    Reached whole tokens at
reached whole tokens at h b = record { within = h; before = b; only = λ all a. behind_first b.spelled a }

pub reached_start : (whole : List ℕ) → Reached whole [] 0
reached_start whole = reached whole [] 0 (omega arith) (record { spelled = stops; limited = All-nil (KeepsLimits whole) })

-- blanks and comments change no tokens
pub reached_skipped : (whole : List ℕ) (tokens : List Token) (start at : ℕ) → Reached whole tokens start →
    IsSkipped whole start at → Reached whole tokens at
reached_skipped whole tokens start at r k =
    reached whole tokens at k.within
    (record {
      spelled = subst (λ l. BeginsWith whole whole l (drop at whole)) (append-nil tokens) (begins_on r.before.spelled k.passed);
      limited = r.before.limited;
    })

pub skipped_none : (whole : List ℕ) (at : ℕ) → at ≤ length whole → IsSkipped whole at at
skipped_none whole at h = record { onward = omega arith; within = h; passed = stops }

pub skipped_blank : (whole : List ℕ) (start at : ℕ) → IsSkipped whole start at → at < length whole →
    IsBlank (get_or whole at 0) → IsSkipped whole start (at + 1)
skipped_blank whole start at k h b =
    let o = k.onward in
    let P : List ℕ → Type 0 = λ l. BeginsWith whole l [] (drop (at + 1) whole) in
    record {
      onward = omega arith;
      within = omega arith;
      passed = begins_on k.passed (subst P (sym (drop_more whole at 0 h)) (blank b stops));
    }

pub comment_here : (whole : List ℕ) (at : ℕ) → OpensComment (drop at whole) → drop at whole ≡ 40 ∷ 42 ∷ drop (at + 2) whole
comment_here whole at o = opens_is o ∙ ap (λ l. 40 ∷ 42 ∷ l) (drop-drop 2 at whole)

pub skipped_comment : (whole : List ℕ) (start at end : ℕ) → IsSkipped whole start at → OpensComment (drop at whole) →
    CommentEnds (drop (at + 2) whole) (drop end whole) → at < end → end ≤ length whole → IsSkipped whole start end
skipped_comment whole start at end k o c f h =
    let n = k.onward in
    let P : List ℕ → Type 0 = λ l. BeginsWith whole l [] (drop end whole) in
    record {
      onward = omega arith;
      within = h;
      passed = begins_on k.passed (subst P (sym (comment_here whole at o)) (comment c stops));
    }

-- the place of what is left behind so many bytes
pub place_drop : (whole : List ℕ) (at : ℕ) → at ≤ length whole → place whole (drop at whole) ≡ at
place_drop whole at h = omega (arith, length-drop at whole)

-- the bytes of a token, and what is left behind it
pub token_here : (whole : List ℕ) (at : ℕ) (t : Token) → StandsToken whole at t →
    drop at whole ≡ spelling whole t ++ drop t.end whole
token_here whole at t s =
    let h = s.starts in
    let k = s.ordered in
    ap (λ i. drop i whole) (sym h) ∙ sym (slice_join whole t.start t.end (omega arith))

token_placed : (whole : List ℕ) (at : ℕ) (t : Token) → at ≤ length whole → StandsToken whole at t →
    record { kind = t.kind; start = place whole (drop at whole); end = place whole (drop t.end whole) } ≡ t
token_placed whole at t h s =
    let a = place_drop whole at h ∙ sym s.starts in
    let b = place_drop whole t.end s.within in
    let make : ℕ → ℕ → Token = λ x y. record { kind = t.kind; start = x; end = y } in
    ap (λ x. make x (place whole (drop t.end whole))) a ∙ ap (λ y. make t.start y) b

pub reached_token : (whole : List ℕ) (tokens : List Token) (at : ℕ) (t : Token) → Reached whole tokens at →
    StandsToken whole at t → ¬ OpensComment (drop at whole) → Reached whole (tokens ++ t ∷ []) t.end
reached_token whole tokens at t r s n =
    let e = token_here whole at t s in
    let P : Token → Type 0 = λ x. BeginsWith whole (drop at whole) (x ∷ []) (drop t.end whole) in
    let passed = subst P (token_placed whole at t r.within s) (token (spelling whole t) t.kind e s.spells s.longest n stops) in
    reached whole (tokens ++ t ∷ []) t.end s.within
    (record {
      spelled = begins_on r.before.spelled passed;
      limited = All-push (KeepsLimits whole) tokens t r.before.limited s.limited;
    })

-- a list of tokens of the whole text goes on here
pub goes_on_here : (whole : List ℕ) (tokens : List Token) (at : ℕ) → Reached whole tokens at →
    (all : List Token) → HasTokens whole all →
    (more : List Token) × First whole (drop at whole) more [] × All (KeepsLimits whole) more
goes_on_here whole tokens at r all h =
    let o = r.only all h.spelled in
    let n = length tokens in
    let e : drop n all ≡ o.0 = ap (λ l. drop n l) o.1 ∙ drop_at tokens o.0 n refl in
    (o.0, first o.2, All-same (KeepsLimits whole) o.0 (drop n all) (sym e) (All-drop (KeepsLimits whole) n all h.limited))
