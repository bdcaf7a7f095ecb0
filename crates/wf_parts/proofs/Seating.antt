-- Where processes stand in a part, with one event more of the history.
use Rattle.std.proofs.Common.{◌≡◌, ◌∙◌, refl, sym, ap, subst, ℕ, ◌+◌, List, [], ◌∷◌, ◌++◌, inl, inr}
use Rattle.std.proofs.lemmas.Bool.{cases_eq}
use Rattle.ob_interface.specs.Call.{ObjectCall, Reply}
use Rattle.ob_interface.specs.declared.scalar.Scalar.{Scalar}
use Rattle.wf_history.proofs.Positions.{same_call}
use Rattle.wf_history.specs.declared.event.CallId.{CallId}
use Rattle.wf_history.specs.History.{Event, Begin, Applied, End, own_events, IsHistory}
use Rattle.wf_order.specs.Rows.{call_at}
use Rattle.wf_parts.proofs.Turning.{begin_idle, begun_busy, end_busy, ended_idle, foreign_begin, foreign_end, not_both, same_busy, same_events}
use Rattle.wf_parts.specs.Parts.{Events, IsOwn, IsWith}
use Rattle.wf_parts.specs.Split.{IsSeat}

-- the call of a number
pub is_call_at : (i : CallId) (m : ℕ) → i.number ≡ m + 1 → i ≡ call_at i.process m
is_call_at i m number = same_call i (call_at i.process m) refl number

module _ (all : Events) (by : ℕ) (value : Scalar) where
  -- nothing changes for a process that does nothing
  pub seat_same : (front after events more : Events) (row next : List ℕ) (q : ℕ) → own_events q after ≡ own_events q front → own_events q more ≡ own_events q events → next ≡ row →
      IsSeat all by value front events row q → IsSeat all by value after more next q
  seat_same front after events more row next q outside inside same s =
      subst (λ (r : List ℕ). IsSeat all by value after more r q) (sym same)
      (record {
        idle = λ m h. inside ∙ s.idle m (sym outside ∙ h);
        elsewhere = λ m h not. inside ∙ s.elsewhere m (sym outside ∙ h) not;
        busy = λ m h is. let b = s.busy m (sym outside ∙ h) is in (b.0, inside ∙ b.1, b.2, b.3);
      })

  module _ (front events : Events) (row : List ℕ) where
    -- a call of another part begins or ends
    seat_begin : (i : CallId) (call : ObjectCall) → IsHistory front → IsHistory (front ++ Begin i call ∷ []) → ¬ IsWith all by value i → IsSeat all by value front events row i.process →
        IsSeat all by value (front ++ Begin i call ∷ []) events row i.process
    seat_begin i call whole h not s =
        let idle = begin_idle front i call whole h in
        let after = begun_busy front i call idle.0 idle.1 idle.2 in
        let here = s.idle idle.0 idle.1 in
        record {
          idle = λ m was. absurd (not_both (front ++ Begin i call ∷ []) i.process m idle.0 was after);
          elsewhere = λ m busy other. here;
          busy = λ m busy is.
              let same : m ≡ idle.0 = same_busy (front ++ Begin i call ∷ []) i.process m idle.0 busy after in
              absurd (not (subst (λ (x : CallId). IsWith all by value x) (ap (call_at i.process) same ∙ sym (is_call_at i idle.0 idle.2)) is));
        }

    seat_end : (i : CallId) (reply : Reply) → IsHistory front → IsHistory (front ++ End i reply ∷ []) → ¬ IsWith all by value i → IsSeat all by value front events row i.process →
        IsSeat all by value (front ++ End i reply ∷ []) events row i.process
    seat_end i reply whole h not s =
        let busy = end_busy front i reply whole h in
        let after = ended_idle front i reply busy.0 busy.1 busy.2 in
        let other : ¬ IsWith all by value (call_at i.process busy.0) = λ is. not (subst (λ (x : CallId). IsWith all by value x) (sym (is_call_at i busy.0 busy.2)) is) in
        let here = s.elsewhere busy.0 busy.1 other in
        record {
          idle = λ m was. here;
          elsewhere = λ m was no. here;
          busy = λ m was is. absurd (not_both (front ++ End i reply ∷ []) i.process (busy.0 + 1) m after was);
        }

  -- one event more, which is not of the part
  pub seat_stays : (front events : Events) (row : List ℕ) (q : ℕ) (e : Event ObjectCall Reply) → IsHistory front → IsHistory (front ++ e ∷ []) → ¬ IsOwn all by value e →
      IsSeat all by value front events row q → IsSeat all by value (front ++ e ∷ []) events row q
  seat_stays front events row q (Begin i call) whole h not s =
      elim (cases_eq q i.process) [
        | inl same ↦
            subst (λ (p : ℕ). IsSeat all by value (front ++ Begin i call ∷ []) events row p) (sym same)
            (seat_begin front events row i call whole h not (subst (λ (p : ℕ). IsSeat all by value front events row p) same s))
        | inr apart ↦ seat_same front (front ++ Begin i call ∷ []) events events row row q (same_events front q (Begin i call) (foreign_begin i call q apart)) refl refl s
      ]
  seat_stays front events row q (Applied ids) whole h not s = seat_same front (front ++ Applied ids ∷ []) events events row row q (same_events front q (Applied ids) refl) refl refl s
  seat_stays front events row q (End i reply) whole h not s =
      elim (cases_eq q i.process) [
        | inl same ↦
            subst (λ (p : ℕ). IsSeat all by value (front ++ End i reply ∷ []) events row p) (sym same)
            (seat_end front events row i reply whole h not (subst (λ (p : ℕ). IsSeat all by value front events row p) same s))
        | inr apart ↦ seat_same front (front ++ End i reply ∷ []) events events row row q (same_events front q (End i reply) (foreign_end i reply q apart)) refl refl s
      ]
