-- Events of a history: which call an id is of, and that numbers are small.
use Rattle.std.proofs.Common.{◌≡◌, ℕ, zero, suc, ◌-◌, ◌<◌, ◌≤◌, ◌^◌, Bool, true, false, cond, eqb, List, [], ◌∷◌, ◌++◌, All, Some, get_or, length, refl, sym, ◌∙◌, ap, subst, arith, append_assoc}
use Rattle.std.specs.Prelude.{Contains, slice_get}
use Rattle.std.proofs.lemmas.List.Elements.{Contains-append_left, Contains-append_right}
use Rattle.std.proofs.lemmas.Option.{get_or_from_slice_get}
use Rattle.ob_interface.specs.Call.{ObjectCall, Reply}
use Rattle.ob_laws.specs.Writable.{IsCounted, IsNamed}
use Rattle.wf_history.proofs.Positions.{place_left}
use Rattle.wf_history.specs.declared.event.CallId.{CallId}
use Rattle.wf_history.specs.History.{Event, Begin, Applied, End, IsHistory, own_call, own_calls}
use Rattle.wf_history.specs.Legal.{HasBegun}
use Rattle.wf_table.proofs.Unique.{call_is}
use Rattle.wf_table.specs.Below.{IdBelow}
use Rattle.wf_table.specs.declared.schedule.Turns.{Turns}
use Rattle.wf_table.specs.Marks.{applied_in}
use Rattle.wf_table.specs.Schedule.{AreTurns}

-- ---- a call that has begun among the first events

own_calls-append : (p : ℕ) (xs ys : List (Event ObjectCall Reply)) → own_calls p (xs ++ ys) ≡ own_calls p xs ++ own_calls p ys
own_calls-append p [] ys = refl
own_calls-append p (x ∷ xs) ys =
    ap (λ (cs : List ObjectCall). own_call p x ++ cs) (own_calls-append p xs ys) ∙ sym (append_assoc (own_call p x) (own_calls p xs) (own_calls p ys))

pub begun_call : (before behind history : List (Event ObjectCall Reply)) (id : CallId) (call other : ObjectCall) → IsHistory history → history ≡ before ++ behind →
    slice_get (own_calls id.process before) (id.number - 1) ≡ Some call → HasBegun history id other → other ≡ call
begun_call before behind history id call other whole is at has =
    let all : own_calls id.process history ≡ own_calls id.process before ++ own_calls id.process behind = ap (own_calls id.process) is ∙ own_calls-append id.process before behind in
    let there : slice_get (own_calls id.process history) (id.number - 1) ≡ Some call =
    ap (λ (cs : List ObjectCall). slice_get cs (id.number - 1)) all ∙ place_left (own_calls id.process before) (own_calls id.process behind) (id.number - 1) call at in
    sym (call_is history whole id other call has).2 ∙ get_or_from_slice_get (own_calls id.process history) (id.number - 1) call call there

-- ---- ranges

pub named_in : (n : ℕ) (ids : List CallId) → All (IdBelow n) ids → All (λ (id : CallId). id.number < 2 ^ 64) ids → All (IsNamed n) ids
named_in n ids below small = λ k d lt. record { below = below k d lt; small = small k d lt }

pub counted_in : (n : ℕ) (ts : List Turns) → n ≤ 16 → All (AreTurns n) ts → All IsCounted ts
counted_in n ts few h =
    λ k d lt. (let t = h k d lt in let process = t.process in record { process = omega (arith, process, few); count = t.few })

pub member_of : (before behind : List (Event ObjectCall Reply)) (e : Event ObjectCall Reply) (history : List (Event ObjectCall Reply)) → history ≡ before ++ e ∷ behind → Contains history e
member_of before behind e history is =
    subst (λ (es : List (Event ObjectCall Reply)). Contains es e) (sym is) (Contains-append_right before (e ∷ behind) e (0, omega arith, refl))

-- ---- numbers of calls, of which there are fewer than 2^64

pub few_calls : (p : ℕ) (es : List (Event ObjectCall Reply)) → length (own_calls p es) ≤ length es
few_calls p [] = omega arith
few_calls p (Begin id call ∷ es) = at_most (eqb id.process p) call (own_calls p es) (length es) (few_calls p es)
  where
    at_most : (b : Bool) (call : ObjectCall) (calls : List ObjectCall) (n : ℕ) → length calls ≤ n → length (cond b (call ∷ []) [] ++ calls) ≤ suc n
    at_most true call calls n h = omega (arith, h)
    at_most false call calls n h = omega (arith, h)
few_calls p (Applied ids ∷ es) = let rest = few_calls p es in omega (arith, rest)
few_calls p (End id reply ∷ es) = let rest = few_calls p es in omega (arith, rest)

-- the numbers that an event shows
abbrev pub AreSmall : Event ObjectCall Reply → Type 0
AreSmall (Begin id call) = id.number < 2 ^ 64
AreSmall (Applied ids) = All (λ (id : CallId). id.number < 2 ^ 64) ids
AreSmall (End id reply) = id.number < 2 ^ 64

-- a call of an Applied event is among all that were applied
pub applied_at : (es : List (Event ObjectCall Reply)) (ids : List CallId) (id : CallId) (i : ℕ) → i < length es → get_or es i (Applied ids) ≡ Applied ids → Contains ids id → Contains (applied_in es) id
applied_at [] ids id i lt e at = absurd (omega (arith, lt))
applied_at (Begin other call ∷ es) ids id zero lt e at = absurd (cc)
applied_at (Begin other call ∷ es) ids id (suc i) lt e at = applied_at es ids id i (omega (arith, lt)) e at
applied_at (Applied others ∷ es) ids id zero lt e at =
    let same : others ≡ ids = cc in
    Contains-append_left others (applied_in es) id (subst (λ (xs : List CallId). Contains xs id) (sym same) at)
applied_at (Applied others ∷ es) ids id (suc i) lt e at = Contains-append_right others (applied_in es) id (applied_at es ids id i (omega (arith, lt)) e at)
applied_at (End other reply ∷ es) ids id zero lt e at = absurd (cc)
applied_at (End other reply ∷ es) ids id (suc i) lt e at = applied_at es ids id i (omega (arith, lt)) e at
