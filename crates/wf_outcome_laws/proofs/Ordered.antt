-- Behind a call that a process made alone, the order has that call more, and it was applied by itself.
use Rattle.std.proofs.Common.{◌≡◌, List, [], ◌∷◌, ◌++◌, ◌⊎◌, refl, sym, ap, ◌∙◌, subst, inl, inr, append_assoc, append-nil}
use Rattle.std.specs.Prelude.{ℤ, Contains}
use Rattle.std.proofs.Math.Logic.{∥∥₁_elim}
use Rattle.std.proofs.lemmas.List.Elements.{Contains-append_cases, Contains-append_right}
use Rattle.ob_interface.specs.Call.{ObjectCall, Reply}
use Rattle.wf_history.specs.declared.event.CallId.{CallId}
use Rattle.wf_history.specs.History.{Begin, Applied, End}
use Rattle.wf_history.specs.Legal.{HasBegun, IsLegal, NoRepeats, OneAtATime, none, more}
use Rattle.wf_table.specs.Law.{Effects}
use Rattle.wf_table.specs.Marks.{applied_in}
use Rattle.wf_outcome_laws.proofs.Lists.{first_or_rest, in_none, in_rest, is_first, once_apart, once_behind, same_or_not}
use Rattle.wf_outcome_laws.proofs.Showing.{EndShape, Events}

-- each call of an order was made
pub made_in : {State Call Answer : Type 0} (Made : CallId → Call → Type 0) (Effect : Call → State → State → Answer → Type 0) (a b : State) (ids : List CallId) (answers : List Answer) (x : CallId) →
    OneAtATime Made Effect a ids answers b → Contains ids x → (call : Call) × Made x call
made_in Made Effect a b ids answers x none h = absurd (in_none x h)
made_in Made Effect a b ids answers x (more {between = between} {id = id} {ids = others} {call = call} {answers = rest} made effect later) h =
    elim (first_or_rest id others x h) [
      | inl same ↦ (call, subst (λ (i : CallId). Made i call) same made)
      | inr behind ↦ made_in Made Effect between b others rest x later behind
    ]

applied_append : (xs ys : Events) → applied_in (xs ++ ys) ≡ applied_in xs ++ applied_in ys
applied_append [] ys = refl
applied_append (Begin id call ∷ xs) ys = applied_append xs ys
applied_append (Applied ids ∷ xs) ys = ap (λ (more : List CallId). ids ++ more) (applied_append xs ys) ∙ sym (append_assoc ids (applied_in xs) (applied_in ys))
applied_append (End id reply ∷ xs) ys = applied_append xs ys

module _ (id : CallId) (call : ObjectCall) (reply : Reply) where
  -- what was seen of the call
  begun_last : (ids : List CallId) (x : CallId) (c : ObjectCall) → Contains (Begin id call ∷ Applied ids ∷ End id reply ∷ []) (Begin x c) → id ≡ x
  begun_last ids x c h =
      elim (first_or_rest (Begin id call) (Applied ids ∷ End id reply ∷ []) (Begin x c) h) [
        | inl same ↦ cc
        | inr later ↦ elim (first_or_rest (Applied ids) (End id reply ∷ []) (Begin x c) later) [
          | inl same ↦ absurd (cc)
          | inr later ↦ elim (first_or_rest (End id reply) [] (Begin x c) later) [
            | inl same ↦ absurd (cc)
            | inr later ↦ absurd (in_none (Begin x c) later)
          ]
        ]
      ]

  -- what has begun behind the call had begun before, or is this call
  pub begun_before : (before now : Events) → now ≡ before ++ Begin id call ∷ Applied (id ∷ []) ∷ End id reply ∷ [] → (x : CallId) (c : ObjectCall) → HasBegun now x c → HasBegun before x c ⊎ (id ≡ x)
  begun_before before now seen x c h =
      elim (Contains-append_cases before (Begin id call ∷ Applied (id ∷ []) ∷ End id reply ∷ []) (Begin x c) (subst (λ (es : Events). Contains es (Begin x c)) seen h)) [
        | inl earlier ↦ inl earlier
        | inr later ↦ inr (begun_last (id ∷ []) x c later)
      ]

module _ (Effect : Effects) (opening last : List ℤ) (before now : Events) (old order : List CallId) (id : CallId) (call : ObjectCall) (reply : Reply) (known : (x : CallId) (c : ObjectCall) → HasBegun before x c → Contains old x) (new : ¬ Contains old id) (were : applied_in before ≡ old) (are : applied_in now ≡ order) (legal : ∥ IsLegal Effect opening now order last ∥₁) where
  module _ (ids : List CallId) (seen : now ≡ before ++ Begin id call ∷ Applied ids ∷ End id reply ∷ []) where
    longer : order ≡ old ++ ids
    longer = sym are ∙ ap applied_in seen ∙ applied_append before (Begin id call ∷ Applied ids ∷ End id reply ∷ []) ∙ ap (λ (xs : List CallId). xs ++ (ids ++ [])) were ∙ ap (λ (ys : List CallId). old ++ ys) (append-nil ids)

    none_other : (x : CallId) → Contains ids x → (x ≡ id → ⊥) → IsLegal Effect opening now order last → ⊥
    none_other x h other l =
        let once : NoRepeats (old ++ ids) = subst NoRepeats longer l.once in
        let found = made_in (HasBegun now) Effect opening last order l.replies x l.made (subst (λ (xs : List CallId). Contains xs x) (sym longer) (Contains-append_right old ids x h)) in
        elim (Contains-append_cases before (Begin id call ∷ Applied ids ∷ End id reply ∷ []) (Begin x found.0) (subst (λ (es : Events). Contains es (Begin x found.0)) seen found.1)) [
          | inl earlier ↦ once_apart old ids x once (known x found.0 earlier) h
          | inr later ↦ other (sym (begun_last id call reply ids x found.0 later))
        ]

    only_it : (x : CallId) → Contains ids x → x ≡ id
    only_it x h = elim (same_or_not x id) [ inl same ↦ same | inr other ↦ absurd (∥∥₁_elim legal (λ a b. absurd a) (λ l. none_other x h other l)) ]

    ended_now : Contains now (End id reply)
    ended_now = subst (λ (es : Events). Contains es (End id reply)) (sym seen)
        (Contains-append_right before (Begin id call ∷ Applied ids ∷ End id reply ∷ []) (End id reply)
        (in_rest (Begin id call) (Applied ids ∷ End id reply ∷ []) (End id reply) (in_rest (Applied ids) (End id reply ∷ []) (End id reply) (is_first (End id reply) []))))

    one_alone : (xs : List CallId) → ids ≡ xs → ids ≡ id ∷ []
    one_alone [] is = absurd (∥∥₁_elim legal (λ a b. absurd a) (λ l.
        new (subst (λ (ys : List CallId). Contains ys id) (longer ∙ ap (λ (ys : List CallId). old ++ ys) is ∙ append-nil old) (l.ended id reply ended_now))))
    one_alone (x ∷ []) is = is ∙ ap (λ (y : CallId). y ∷ []) (only_it x (subst (λ (ys : List CallId). Contains ys x) (sym is) (is_first x [])))
    one_alone (x ∷ y ∷ rest) is =
        let first : x ≡ id = only_it x (subst (λ (ys : List CallId). Contains ys x) (sym is) (is_first x (y ∷ rest))) in
        let second : y ≡ id = only_it y (subst (λ (ys : List CallId). Contains ys y) (sym is) (in_rest x (y ∷ rest) y (is_first y rest))) in
        absurd (∥∥₁_elim legal (λ a b. absurd a) (λ l.
        let once : NoRepeats (x ∷ y ∷ rest) = subst NoRepeats is (once_behind old ids (subst NoRepeats longer l.once)) in
        once.0 (subst (λ (i : CallId). Contains (y ∷ rest) i) (second ∙ sym first) (is_first y rest))))

    one_more : (now ≡ before ++ Begin id call ∷ Applied (id ∷ []) ∷ End id reply ∷ []) × (order ≡ old ++ id ∷ [])
    one_more =
        let is = one_alone ids refl in (
          seen ∙ ap (λ (xs : List CallId). before ++ Begin id call ∷ Applied xs ∷ End id reply ∷ []) is,
          longer ∙ ap (λ (xs : List CallId). old ++ xs) is,
        )

  unapplied : now ≡ before ++ Begin id call ∷ End id reply ∷ [] → IsLegal Effect opening now order last → ⊥
  unapplied seen l =
      let same : order ≡ old = sym are ∙ ap applied_in seen ∙ applied_append before (Begin id call ∷ End id reply ∷ []) ∙ append-nil (applied_in before) ∙ were in
      let ended : Contains now (End id reply) = subst (λ (es : Events). Contains es (End id reply)) (sym seen)
      (Contains-append_right before (Begin id call ∷ End id reply ∷ []) (End id reply) (in_rest (Begin id call) (End id reply ∷ []) (End id reply) (is_first (End id reply) []))) in
      new (subst (λ (xs : List CallId). Contains xs id) same (l.ended id reply ended))

  pub call_more : EndShape before (Begin id call) (End id reply) now → (now ≡ before ++ Begin id call ∷ Applied (id ∷ []) ∷ End id reply ∷ []) × (order ≡ old ++ id ∷ [])
  call_more (inl seen) = absurd (∥∥₁_elim legal (λ a b. absurd a) (λ l. unapplied seen l))
  call_more (inr seen) = one_more seen.0 seen.1
