-- The calls that are open, one event after the other.
use Rattle.std.proofs.Common.{◌≡◌, ◌∙◌, ℕ, zero, suc, ◌+◌, ◌≤◌, Bool, true, false, cond, List, [], ◌∷◌, ◌++◌, Some, take, refl, sym, ap, ap₂, arith, eq-eqb, append-nil}
use Rattle.std.proofs.lemmas.Bool.{ne_eqb}
use Rattle.std.proofs.lemmas.List.Elements.{filter-append, filter_agree}
use Rattle.std.specs.List.{slice_get, filter}
use Rattle.std.specs.Prelude.{not, ◌&&◌, ◌||◌, nat_eq}
use Rattle.ob_interface.specs.Call.{ObjectCall, Reply}
use Rattle.wf_lookup.specs.Beginnings.{begun_calls, has_ended, is_same, open_behind, open_calls}
use Rattle.wf_history.proofs.Turns.{own_events-push}
use Rattle.wf_history.specs.History.{Event, Begin, Applied, End, IsHistory, OwnEvent, Begins, Ends, in_turn, own_event, own_events}
use Rattle.wf_history.specs.declared.event.CallId.{CallId}
use Rattle.wf_lookup.proofs.Nexts.{next_whole, taken_next}

-- whether a process's call of a number has ended
abbrev ends : ℕ → List OwnEvent → Bool
ends number [] = false
ends number (Begins n ∷ es) = ends number es
ends number (Ends n ∷ es) = nat_eq n number || ends number es

-- a call that begins next has a number that no call before it has

next_begins : (from count number : ℕ) (es : List OwnEvent) → es ++ Begins number ∷ [] ≡ in_turn from count → (ends number es ≡ false) × (from ≤ number)
next_begins from zero number [] e = absurd (cc)
next_begins from (suc zero) number [] e = let same : number ≡ from = cc in (refl, omega (arith, same))
next_begins from (suc (suc count)) number [] e = absurd (cc)
next_begins from zero number (x ∷ es) e = absurd (cc)
next_begins from (suc zero) number (x ∷ []) e = absurd (cc)
next_begins from (suc zero) number (x ∷ y ∷ es) e = absurd (cc)
next_begins from (suc (suc count)) number (x ∷ []) e = absurd (cc)
next_begins from (suc (suc count)) number (x ∷ y ∷ es) e =
    let first : x ≡ Begins from = cc in
    let second : y ≡ Ends from = cc in
    let rest : es ++ Begins number ∷ [] ≡ in_turn (from + 1) count = cc in
    let more = next_begins (from + 1) count number es rest in
    let other : (from ≡ number) → ⊥ = λ same. omega (arith, same, more.1) in
    (ap₂ (λ (o p : OwnEvent). ends number (o ∷ p ∷ es)) first second ∙ ap₂ (λ (a b : Bool). a || b) (ne_eqb from number other) more.0, omega (arith, more.1))

past_begin : (b : Bool) (n number : ℕ) (es : List OwnEvent) → ends number (cond b (Begins n ∷ []) [] ++ es) ≡ ends number es
past_begin true n number es = refl
past_begin false n number es = refl

past_end : (b : Bool) (n number : ℕ) (es : List OwnEvent) (t : Bool) → t ≡ ends number es →
    ((b && nat_eq n number) || t) ≡ ends number (cond b (Ends n ∷ []) [] ++ es)
past_end true n number es t h = ap (λ (x : Bool). nat_eq n number || x) h
past_end false n number es t h = h

ended_own : (xs : List (Event ObjectCall Reply)) (id : CallId) → has_ended xs id ≡ ends id.number (own_events id.process xs)
ended_own [] id = refl
ended_own (Begin other call ∷ xs) id = ended_own xs id ∙ sym (past_begin (nat_eq other.process id.process) other.number id.number (own_events id.process xs))
ended_own (Applied ids ∷ xs) id = ended_own xs id
ended_own (End other reply ∷ xs) id = past_end (nat_eq other.process id.process) other.number id.number (own_events id.process xs) (has_ended xs id) (ended_own xs id)

-- a call that begins has not ended
never_ended : (xs : List (Event ObjectCall Reply)) (id : CallId) (call : ObjectCall) → IsHistory (xs ++ Begin id call ∷ []) → has_ended xs id ≡ false
never_ended xs id call whole =
    let p = id.process in
    let own : own_event {Call = ObjectCall} {Reply = Reply} p (Begin id call) ≡ Begins id.number ∷ [] = ap (λ (b : Bool). cond b (Begins id.number ∷ []) []) (eq-eqb p p refl) in
    let last : own_events p (xs ++ Begin id call ∷ []) ≡ own_events p xs ++ Begins id.number ∷ [] = own_events-push p xs (Begin id call) ∙ ap (λ (es : List OwnEvent). own_events p xs ++ es) own in
    ended_own xs id ∙ (next_begins 1 _ id.number (own_events p xs) (sym last ∙ whole p)).0

begun_push : (xs : List (Event ObjectCall Reply)) (e : Event ObjectCall Reply) → begun_calls (xs ++ e ∷ []) ≡ begun_calls xs ++ begun_calls (e ∷ [])
begun_push [] e = refl
begun_push (Begin id call ∷ xs) e = ap (λ (ids : List CallId). id ∷ ids) (begun_push xs e)
begun_push (Applied ids ∷ xs) e = begun_push xs e
begun_push (End id reply ∷ xs) e = begun_push xs e

or_rest : (a b c t : Bool) → t ≡ (b || c) → (a || t) ≡ ((a || b) || c)
or_rest true b c t h = refl
or_rest false b c t h = h

or_none : (a : Bool) → (a || false) ≡ a
or_none true = refl
or_none false = refl

ended_push : (xs : List (Event ObjectCall Reply)) (e : Event ObjectCall Reply) (id : CallId) → has_ended (xs ++ e ∷ []) id ≡ (has_ended xs id || has_ended (e ∷ []) id)
ended_push [] e id = refl
ended_push (Begin other call ∷ xs) e id = ended_push xs e id
ended_push (Applied ids ∷ xs) e id = ended_push xs e id
ended_push (End other reply ∷ xs) e id =
    or_rest (is_same other id) (has_ended xs id) (has_ended (e ∷ []) id) (has_ended (xs ++ e ∷ []) id) (ended_push xs e id)

-- what is kept twice
module _ (a b : CallId → Bool) where
  kept_one : (x : CallId) (p : Bool) (kept rest : List CallId) → kept ≡ filter (λ o. not (b o)) rest →
      cond (not (p || b x)) (x ∷ kept) kept ≡ filter (λ o. not (b o)) (cond (not p) (x ∷ rest) rest)
  kept_one x true kept rest h = h
  kept_one x false kept rest h = ap (λ (l : List CallId). cond (not (b x)) (x ∷ l) l) h

  kept_twice : (xs : List CallId) → filter (λ o. not (a o || b o)) xs ≡ filter (λ o. not (b o)) (filter (λ o. not (a o)) xs)
  kept_twice [] = refl
  kept_twice (x ∷ xs) = kept_one x (a x) (filter (λ o. not (a o || b o)) xs) (filter (λ o. not (a o)) xs) (kept_twice xs)

module _ (xs : List (Event ObjectCall Reply)) where
  abbrev is_open : CallId → Bool
  is_open o = not (has_ended xs o)

  opened_push : (e : Event ObjectCall Reply) → IsHistory (xs ++ e ∷ []) → open_calls (xs ++ e ∷ []) ≡ open_behind (open_calls xs) e
  opened_push (Begin id call) whole =
      filter_agree (λ o. not (has_ended (xs ++ Begin id call ∷ []) o)) is_open (λ o. ap not (ended_push xs (Begin id call) o ∙ or_none (has_ended xs o))) (begun_calls (xs ++ Begin id call ∷ []))
      ∙ ap (filter is_open) (begun_push xs (Begin id call)) ∙ filter-append is_open (begun_calls xs) (id ∷ [])
      ∙ ap (λ (t : Bool). open_calls xs ++ cond (not t) (id ∷ []) []) (never_ended xs id call whole)
  opened_push (Applied ids) whole =
      filter_agree (λ o. not (has_ended (xs ++ Applied ids ∷ []) o)) is_open (λ o. ap not (ended_push xs (Applied ids) o ∙ or_none (has_ended xs o))) (begun_calls (xs ++ Applied ids ∷ []))
      ∙ ap (filter is_open) (begun_push xs (Applied ids) ∙ append-nil (begun_calls xs))
  opened_push (End id reply) whole =
      filter_agree (λ o. not (has_ended (xs ++ End id reply ∷ []) o)) (λ o. not (has_ended xs o || is_same id o))
      (λ o. ap not (ended_push xs (End id reply) o ∙ ap (λ (t : Bool). has_ended xs o || t) (or_none (is_same id o)))) (begun_calls (xs ++ End id reply ∷ []))
      ∙ ap (filter (λ o. not (has_ended xs o || is_same id o))) (begun_push xs (End id reply) ∙ append-nil (begun_calls xs))
      ∙ kept_twice (has_ended xs) (is_same id) (begun_calls xs)

-- the calls that are open behind one more event
pub opened_next : (es : List (Event ObjectCall Reply)) (k : ℕ) (e : Event ObjectCall Reply) → IsHistory es → slice_get es k ≡ Some e →
    open_calls (take (k + 1) es) ≡ open_behind (open_calls (take k es)) e
opened_next es k e whole here = ap open_calls (taken_next es k e here) ∙ opened_push (take k es) e (next_whole es k e whole here)
