-- Calls that are kept one behind the other.
use Rattle.std.proofs.Common.{◌≡◌, ◌⊎◌, inl, inr, ℕ, zero, suc, ◌+◌, ◌-◌, ◌<◌, ◌≤◌, List, [], ◌∷◌, ◌++◌, length, take, drop, get_or, arith, ap, ap₂, sym, ◌∙◌, refl, subst}
use Rattle.std.specs.Prelude.{slice_range}
use Rattle.std.proofs.lemmas.List.{length-append, length-drop, get_or_append_left, drop_at, take_all, drop-append-le, take-append-le}
use Rattle.ob_interface.specs.declared.scalar.Scalar.{Scalar}
use Rattle.ob_interface.specs.Call.{ObjectCall}
use Rattle.wf_records.specs.declared.submitted_calls.Head.{Head}
use Rattle.wf_records.specs.CallsKept.{calls_from, no_call, IsLaid, IsKeptWell}

-- where the arguments of the call of this place begin
abbrev pub start_at : ℕ → List Head → ℕ → ℕ
start_at start hs zero = start
start_at start [] (suc i) = start
start_at start (h ∷ hs) (suc i) = start_at h.end hs i

pub start_next : (start : ℕ) (hs : List Head) (i : ℕ) (d : Head) → i < length hs → start_at start hs (suc i) ≡ (get_or hs i d).end
start_next start [] i d lt = absurd (omega arith)
start_next start (h ∷ hs) zero d lt = refl
start_next start (h ∷ hs) (suc i) d lt = start_next h.end hs i d (omega arith)

pub length-calls_from : (start : ℕ) (hs : List Head) (xs : List Scalar) → length (calls_from start hs xs) ≡ length hs
length-calls_from start [] xs = refl
length-calls_from start (h ∷ hs) xs = ap suc (length-calls_from h.end hs xs)

laid_within : (start : ℕ) (hs : List Head) (end : ℕ) → IsLaid start hs end → start ≤ end
laid_within start [] end laid = omega arith
laid_within start (h ∷ hs) end laid = omega (arith, laid.0, laid_within h.end hs end laid.1)

pub record Stands (start : ℕ) (hs : List Head) (end i : ℕ) (h : Head) : Type 0 where
  pub begins : start_at start hs i ≤ h.end
  pub ends : h.end ≤ end

pub stands_at : (start : ℕ) (hs : List Head) (end i : ℕ) (d : Head) → IsLaid start hs end → i < length hs → Stands start hs end i (get_or hs i d)
stands_at start [] end i d laid lt = absurd (omega arith)
stands_at start (h ∷ hs) end zero d laid lt = record { begins = laid.0; ends = laid_within h.end hs end laid.1 }
stands_at start (h ∷ hs) end (suc i) d laid lt =
    let rest = stands_at h.end hs end i d laid.1 (omega arith) in
    record { begins = rest.begins; ends = rest.ends }

-- the call of a place
pub call_from : (start : ℕ) (hs : List Head) (xs : List Scalar) (i : ℕ) (d : ObjectCall) (e : Head) → i < length hs → get_or (calls_from start hs xs) i d ≡ record { export = (get_or hs i e).proc; arguments = slice_range xs (start_at start hs i) (get_or hs i e).end }
call_from start [] xs i d e lt = absurd (omega arith)
call_from start (h ∷ hs) xs zero d e lt = refl
call_from start (h ∷ hs) xs (suc i) d e lt = call_from h.end hs xs i d e (omega arith)

-- one more call
pub laid_push : (start : ℕ) (hs : List Head) (end : ℕ) (h : Head) → IsLaid start hs end → end ≤ h.end → IsLaid start (hs ++ h ∷ []) h.end
laid_push start [] end h laid le = (omega arith, refl)
laid_push start (k ∷ hs) end h laid le = (laid.0, laid_push k.end hs end h laid.1 le)

range_before : (xs ys : List Scalar) (a b : ℕ) → a ≤ b → b ≤ length xs → slice_range (xs ++ ys) a b ≡ slice_range xs a b
range_before xs ys a b le within =
    ap (take (b - a)) (drop-append-le a xs ys (omega arith))
    ∙ take-append-le (b - a) (drop a xs) ys (omega (arith, length-drop a xs))

range_behind : (xs ys : List Scalar) (a b : ℕ) → a ≡ length xs → b ≡ length xs + length ys → slice_range (xs ++ ys) a b ≡ ys
range_behind xs ys a b ea eb =
    ap (take (b - a)) (drop_at xs ys a (sym ea))
    ∙ take_all (b - a) ys (omega arith)

pub calls_push : (start : ℕ) (hs : List Head) (xs ys : List Scalar) (h : Head) → IsLaid start hs (length xs) → h.end ≡ length xs + length ys → calls_from start (hs ++ h ∷ []) (xs ++ ys) ≡ calls_from start hs xs ++ record { export = h.proc; arguments = ys } ∷ []
calls_push start [] xs ys h laid e = ap (λ (a : List Scalar). record { export = h.proc; arguments = a } ∷ []) (range_behind xs ys start h.end laid e)
calls_push start (k ∷ hs) xs ys h laid e =
    ap₂ (λ (a : List Scalar) (rest : List ObjectCall). record { export = k.proc; arguments = a } ∷ rest)
    (range_before xs ys start k.end laid.0 (laid_within k.end hs (length xs) laid.1))
    (calls_push k.end hs xs ys h laid.1 e)

first_start : (hs : List Head) (i : ℕ) → i ≡ 0 → start_at 0 hs i ≡ 0
first_start hs zero e = refl
first_start hs (suc i) e = absurd (omega arith)

later_start : (hs : List Head) (i : ℕ) (d : Head) → 0 < i → i < length hs → (get_or hs (i - 1) d).end ≡ start_at 0 hs i
later_start hs zero d some lt = absurd (omega arith)
later_start hs (suc i) d some lt =
    let before : suc i - 1 ≡ i = omega arith in
    ap (λ (k : ℕ). (get_or hs k d).end) before ∙ sym (start_next 0 hs i d (omega arith))

-- where the arguments of a call begin, as it is worked out
pub start_is : (hs : List Head) (i start : ℕ) (d : Head) → i < length hs → ((i ≡ 0) × (start ≡ 0)) ⊎ ((0 < i) × (start ≡ (get_or hs (i - 1) d).end)) → start ≡ start_at 0 hs i
start_is hs i start d lt (inl h) = h.1 ∙ sym (first_start hs i h.0)
start_is hs i start d lt (inr h) = h.1 ∙ later_start hs i d h.0 lt

-- the call of a place, put together from its parts
pub call_is : (hs : List Head) (xs ys : List Scalar) (i : ℕ) (h : Head) → i < length hs → h ≡ get_or hs i h → ys ≡ (get_or (calls_from 0 hs xs) i no_call).arguments → record { export = h.proc; arguments = ys } ≡ get_or (calls_from 0 hs xs) i no_call
call_is hs xs ys i h lt read same =
    let here = call_from 0 hs xs i no_call h lt in
    ap₂ (λ (e : ℕ) (a : List Scalar). record { export = e; arguments = a }) (ap (λ (k : Head). k.proc) read) (same ∙ ap (λ (c : ObjectCall). c.arguments) here) ∙ sym here

module _ (hs hs' : List Head) (xs xs' ys : List Scalar) (h : Head) (longer : hs' ≡ hs ++ h ∷ []) (more : xs' ≡ xs ++ ys) (end : h.end ≡ length xs') where
  ends : h.end ≡ length xs + length ys
  ends = end ∙ ap length more ∙ length-append xs ys

  pub pushed : IsLaid 0 hs (length xs) → calls_from 0 hs' xs' ≡ calls_from 0 hs xs ++ record { export = h.proc; arguments = ys } ∷ []
  pushed laid = ap₂ (calls_from 0) longer more ∙ calls_push 0 hs xs ys h laid ends

  pub well_pushed : (number : ℕ) (hand : ObjectCall) → IsKeptWell hs xs number hand → IsKeptWell hs' xs' number hand
  well_pushed number hand kept = record {
    laid = subst (λ (n : ℕ). IsLaid 0 hs' n) end (subst (λ (l : List Head). IsLaid 0 l h.end) (sym longer) (laid_push 0 hs (length xs) h kept.laid (omega (arith, ends))));
    counted = omega (arith, kept.counted, ap length longer, length-append hs (h ∷ []));
    at_hand = λ some.
        kept.at_hand some
        ∙ sym (get_or_append_left (calls_from 0 hs xs) (record { export = h.proc; arguments = ys } ∷ []) no_call (number - 1) (omega (arith, some, kept.counted, length-calls_from 0 hs xs)))
        ∙ sym (ap (λ (l : List ObjectCall). get_or l (number - 1) no_call) (pushed kept.laid));
  }
