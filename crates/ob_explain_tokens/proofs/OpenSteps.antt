-- Tokens one by one, back from a place.
use Rattle.std.proofs.Common.{◌≡◌, ◌≢◌, ℕ, suc, ◌+◌, ◌-◌, ◌<◌, ◌≤◌, ◌⊎◌, inl, inr, Bool, true, false, cond, List, [], ◌∷◌, ◌++◌, Option, Some, None}
use Rattle.std.proofs.Common.{length, get_or, take, drop, refl, sym, subst, ◌∙◌, ap, arith, add-one, append_assoc, drop-cons, drop_of_length-le}
use Rattle.std.specs.Prelude.{count_by}
use Rattle.std.proofs.lemmas.Bool.{cases_lt, false≢true}
use Rattle.std.proofs.lemmas.List.{take_more}
use Rattle.std.proofs.lemmas.List.Sums.{sum_by-append, sum_by-cons}
use Rattle.std.proofs.lemmas.Option.{get_or_from_slice_get, slice_get-get_or, slice_get_within}
use Rattle.ob_scan.specs.declared.token.Kind.{Kind}
use Rattle.ob_scan.specs.declared.token.Kind.TheVariants as Kinds
use Rattle.ob_scan.specs.declared.token.Token.{Token}
use Rattle.ob_explain_tokens.specs.Open.{AreWhole, IsOpenConstruct, IsOpenedAt, none, other, construct, begins_construct, else_if, ends_construct, is_before, is_else_if}

-- ---- whole constructs

whole_append : {behind before : List Token} → AreWhole behind → AreWhole before → AreWhole (behind ++ before)
whole_append none w = w
whole_append (other t begins ends rest) w = other t begins ends (whole_append rest w)
whole_append {before = more} (construct end opening {inside = inside} {before = before} ends within begins rest) w =
    subst (λ (ts : List Token). AreWhole ts) (sym (append_assoc (end ∷ inside) (opening ∷ before) more))
    (construct end opening ends within begins (whole_append rest w))

-- so many constructs end in tokens that go back, and begin before them; all others are whole
pub data Pending : ℕ → List Token → Type 0 where
  whole : {ts : List Token} → AreWhole ts → Pending 0 ts
  ended : {n : ℕ} (end : Token) {behind before : List Token} → Pending n behind → ends_construct end.kind ≡ true → AreWhole before →
      Pending (suc n) (behind ++ end ∷ before)

pending_append : {n : ℕ} {behind before : List Token} → Pending n behind → AreWhole before → Pending n (behind ++ before)
pending_append (whole all) w = whole (whole_append all w)
pending_append {before = more} (ended {n = n} end {behind = behind} {before = before} p ends all) w =
    subst (λ (ts : List Token). Pending (suc n) ts) (sym (append_assoc behind (end ∷ before) more)) (ended end p ends (whole_append all w))

-- a construct that ends there begins
begun : (n : ℕ) (ts : List Token) (opening : Token) → Pending n ts → n ≢ 0 → begins_construct opening.kind ≡ true → Pending (n - 1) (ts ++ opening ∷ [])
begun _ _ opening (whole all) some begins = absurd (some refl)
begun _ _ opening (ended {n = n} end {behind = behind} {before = before} p ends all) some begins =
    let less : suc n - 1 ≡ n = omega arith in
    subst (λ (k : ℕ). Pending k ((behind ++ end ∷ before) ++ opening ∷ [])) (sym less)
    (subst (λ (ts : List Token). Pending n ts) (sym (append_assoc behind (end ∷ before) (opening ∷ [])))
    (pending_append p (construct end opening ends all begins none)))

-- ---- by counts no whole tokens have a construct that only ends

skipped : (f : Token → Bool) (t : Token) (ts : List Token) → f t ≡ false → count_by f (t ∷ ts) ≡ count_by f ts
skipped f t ts is = omega (arith, sum_by-cons (λ (u : Token). cond (f u) 1 0) t ts ∙ ap (λ b. cond b 1 0 + count_by f ts) is)

counted : (f : Token → Bool) (t : Token) (ts : List Token) → f t ≡ true → count_by f (t ∷ ts) ≡ 1 + count_by f ts
counted f t ts is = sum_by-cons (λ (u : Token). cond (f u) 1 0) t ts ∙ ap (λ b. cond b 1 0 + count_by f ts) is

both : (f : Token → Bool) (behind before : List Token) → count_by f (behind ++ before) ≡ count_by f behind + count_by f before
both f behind before = sum_by-append (λ t. cond (f t) 1 0) behind before

-- no token both begins and ends a construct
ends_alone : (k : Kind) → ends_construct k ≡ true → begins_construct k ≡ false
ends_alone Kinds.End is = refl
ends_alone Kinds.Until is = refl
ends_alone _ is = absurd (false≢true is)

begins_alone : (k : Kind) → begins_construct k ≡ true → ends_construct k ≡ false
begins_alone Kinds.Module is = refl
begins_alone Kinds.Procedure is = refl
begins_alone Kinds.Record is = refl
begins_alone Kinds.If is = refl
begins_alone Kinds.While is = refl
begins_alone Kinds.Repeat is = refl
begins_alone _ is = absurd (false≢true is)

abbrev begins : Token → Bool
begins t = begins_construct t.kind

abbrev ends : Token → Bool
ends t = ends_construct t.kind

-- in whole ones as many begin as end
whole_even : {ts : List Token} → AreWhole ts → count_by begins ts ≡ count_by ends ts
whole_even none = refl
whole_even (other t {before = before} no_begin no_end rest) =
    skipped begins t before no_begin ∙ whole_even rest ∙ sym (skipped ends t before no_end)
whole_even (construct end opening {inside = inside} {before = before} is_end within is_begin rest) =
    let a : count_by begins (end ∷ inside ++ opening ∷ before) ≡ count_by begins (end ∷ inside) + count_by begins (opening ∷ before) = both begins (end ∷ inside) (opening ∷ before) in
    let b : count_by ends (end ∷ inside ++ opening ∷ before) ≡ count_by ends (end ∷ inside) + count_by ends (opening ∷ before) = both ends (end ∷ inside) (opening ∷ before) in
    let c : count_by begins (end ∷ inside) ≡ count_by begins inside = skipped begins end inside (ends_alone end.kind is_end) in
    let d : count_by ends (end ∷ inside) ≡ 1 + count_by ends inside = counted ends end inside is_end in
    let e : count_by begins (opening ∷ before) ≡ 1 + count_by begins before = counted begins opening before is_begin in
    let f : count_by ends (opening ∷ before) ≡ count_by ends before = skipped ends opening before (begins_alone opening.kind is_begin) in
    let g : count_by begins inside ≡ count_by ends inside = whole_even within in
    let h : count_by begins before ≡ count_by ends before = whole_even rest in
    omega (arith, a, b, c, d, e, f, g, h)

pending_more : {n : ℕ} {ts : List Token} → Pending n ts → count_by ends ts ≡ count_by begins ts + n
pending_more {ts = ts} (whole all) = omega (arith, whole_even all)
pending_more (ended {n = n} end {behind = behind} {before = before} p is_end all) =
    let a : count_by begins (behind ++ end ∷ before) ≡ count_by begins behind + count_by begins (end ∷ before) = both begins behind (end ∷ before) in
    let b : count_by ends (behind ++ end ∷ before) ≡ count_by ends behind + count_by ends (end ∷ before) = both ends behind (end ∷ before) in
    let c : count_by begins (end ∷ before) ≡ count_by begins before = skipped begins end before (ends_alone end.kind is_end) in
    let d : count_by ends (end ∷ before) ≡ 1 + count_by ends before = counted ends end before is_end in
    let e : count_by begins before ≡ count_by ends before = whole_even all in
    let f : count_by ends behind ≡ count_by begins behind + n = pending_more p in
    omega (arith, a, b, c, d, e, f)

none_pends : {n : ℕ} {ts : List Token} → Pending n ts → AreWhole ts → n ≡ 0
none_pends p all = omega (arith, pending_more p, whole_even all)

-- ---- what is looked at, token by token

-- among the first tokens none opens a construct that is open there, and so many end that begin before them
pub record Looked (closed i : ℕ) (ts : List Token) : Type 0 where
  pub pending : Pending closed (take i ts)
  pub none_open : (j : ℕ) (t : Token) → j < i → IsOpenedAt ts j t → ⊥
  pub few : closed ≤ i

pub nothing_looked_at : (ts : List Token) → Looked 0 0 ts
nothing_looked_at ts = record { pending = whole none; none_open = λ j t less h. absurd (omega arith); few = omega arith }

-- one more token, which opens none
one_more : (closed i : ℕ) (ts : List Token) (d : Token) → Looked closed i ts →
    (begins_construct (get_or ts i d).kind ≡ false) ⊎ (closed ≢ 0) → (j : ℕ) (t : Token) → j < i + 1 → IsOpenedAt ts j t → ⊥
one_more closed i ts d l (inl not) j t less h =
    elim (cases_lt j i) [
      | inl lt ↦ l.none_open j t lt h
      | inr ge ↦
          let same : j ≡ i = omega arith in
          let here : get_or ts i d ≡ t = ap (λ k. get_or ts k d) (sym same) ∙ get_or_from_slice_get ts j t d h.stands in
          false≢true (sym not ∙ ap (λ (u : Token). begins_construct u.kind) here ∙ h.begins)
    ]
one_more closed i ts d l (inr some) j t less h =
    elim (cases_lt j i) [
      | inl lt ↦ l.none_open j t lt h
      | inr ge ↦
          let same : j ≡ i = omega arith in
          some (none_pends l.pending (subst (λ (k : ℕ). AreWhole (take k ts)) same h.whole))
    ]

pub ended_here : (closed i : ℕ) (ts : List Token) (d : Token) → Looked closed i ts → i < length ts →
    ends_construct (get_or ts i d).kind ≡ true → Looked (closed + 1) (i + 1) ts
ended_here closed i ts d l lt is =
    record {
      pending = subst (λ (us : List Token). Pending (closed + 1) us) (sym (take_more ts i d lt))
          (subst (λ (n : ℕ). Pending n (take i ts ++ get_or ts i d ∷ [])) (sym (add-one closed)) (ended (get_or ts i d) l.pending is none));
      none_open = one_more closed i ts d l (inl (ends_alone (get_or ts i d).kind is));
      few = omega (arith, l.few);
    }

pub begun_here : (closed i : ℕ) (ts : List Token) (d : Token) → Looked closed i ts → i < length ts →
    begins_construct (get_or ts i d).kind ≡ true → closed ≢ 0 → Looked (closed - 1) (i + 1) ts
begun_here closed i ts d l lt is some =
    record {
      pending = subst (λ (us : List Token). Pending (closed - 1) us) (sym (take_more ts i d lt)) (begun closed (take i ts) (get_or ts i d) l.pending some is);
      none_open = one_more closed i ts d l (inr some);
      few = omega (arith, l.few);
    }

pub other_here : (closed i : ℕ) (ts : List Token) (d : Token) → Looked closed i ts → i < length ts →
    ends_construct (get_or ts i d).kind ≡ false → begins_construct (get_or ts i d).kind ≡ false → Looked closed (i + 1) ts
other_here closed i ts d l lt no_end no_begin =
    record {
      pending = subst (λ (us : List Token). Pending closed us) (sym (take_more ts i d lt)) (pending_append l.pending (other (get_or ts i d) no_begin no_end none));
      none_open = one_more closed i ts d l (inl no_begin);
      few = omega (arith, l.few);
    }

whole_there : {n : ℕ} {ts : List Token} → Pending n ts → n ≡ 0 → AreWhole ts
whole_there (whole all) e = all
whole_there (ended {n = n} end p is_end all) e = absurd (omega (arith, e))

pub open_here : (closed i : ℕ) (ts : List Token) (d : Token) → Looked closed i ts → i < length ts →
    begins_construct (get_or ts i d).kind ≡ true → closed ≡ 0 → IsOpenConstruct ts (Some (get_or ts i d))
open_here closed i ts d l lt is e = (i, record { stands = slice_get-get_or ts i d lt; begins = is; whole = whole_there l.pending e })

pub none_open : (closed i : ℕ) (ts : List Token) → Looked closed i ts → length ts ≤ i → IsOpenConstruct ts None
none_open closed i ts l past position t h = l.none_open position t (omega (arith, slice_get_within ts position t h.stands, past)) h

-- the ELSE IF

abbrev else_or : (from : ℕ) (behind : Option Token) (t : Token) → (at_else before : Bool) → List Token → Option Token
else_or from behind t at_else before rest = cond at_else behind (cond before None (else_if from (Some t) rest))

if_step : (from : ℕ) (behind : Option Token) (ts : List Token) (i : ℕ) (d : Token) → i < length ts →
    else_if from behind (drop i ts)
    ≡ else_or from behind (get_or ts i d) (is_else_if (get_or ts i d).kind behind) (is_before (get_or ts i d) from) (drop (i + 1) ts)
unfolding else_if
if_step from behind ts i d lt =
    let t : Token = get_or ts i d in
    ap (else_if from behind) (drop-cons ts i d lt)
    ∙ ap (λ n. else_or from behind t (is_else_if t.kind behind) (is_before t from) (drop n ts)) (sym (add-one i))

pub if_here : (from : ℕ) (behind : Option Token) (ts : List Token) (i : ℕ) (d : Token) → i < length ts →
    is_else_if (get_or ts i d).kind behind ≡ true → else_if from behind (drop i ts) ≡ behind
if_here from behind ts i d lt is =
    let t : Token = get_or ts i d in
    if_step from behind ts i d lt ∙ ap (λ b. else_or from behind t b (is_before t from) (drop (i + 1) ts)) is

pub too_far : (from : ℕ) (behind : Option Token) (ts : List Token) (i : ℕ) (d : Token) → i < length ts →
    is_else_if (get_or ts i d).kind behind ≡ false → is_before (get_or ts i d) from ≡ true → else_if from behind (drop i ts) ≡ None
too_far from behind ts i d lt is far =
    let t : Token = get_or ts i d in
    if_step from behind ts i d lt
    ∙ ap (λ b. else_or from behind t b (is_before t from) (drop (i + 1) ts)) is
    ∙ ap (λ b. else_or from behind t false b (drop (i + 1) ts)) far

pub looks_on : (from : ℕ) (behind : Option Token) (ts : List Token) (i : ℕ) (d : Token) → i < length ts →
    is_else_if (get_or ts i d).kind behind ≡ false → is_before (get_or ts i d) from ≡ false →
    else_if from behind (drop i ts) ≡ else_if from (Some (get_or ts i d)) (drop (i + 1) ts)
looks_on from behind ts i d lt is far =
    let t : Token = get_or ts i d in
    if_step from behind ts i d lt
    ∙ ap (λ b. else_or from behind t b (is_before t from) (drop (i + 1) ts)) is
    ∙ ap (λ b. else_or from behind t false b (drop (i + 1) ts)) far

pub no_if : (from : ℕ) (behind : Option Token) (ts : List Token) (i : ℕ) → length ts ≤ i → else_if from behind (drop i ts) ≡ None
unfolding else_if
no_if from behind ts i past = ap (else_if from behind) (drop_of_length-le ts past)
