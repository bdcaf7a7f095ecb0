-- Calls by the places of their events.
use Rattle.std.proofs.Common.{◌≡◌, sym, ap, ◌∙◌, ℕ, ◌+◌, ◌<◌, suc, List, ◌∷◌, ◌++◌, length, Some, arith, inl, inr, length-append, append_assoc}
use Rattle.std.proofs.lemmas.Bool.{cases_eq, cases_lt}
use Rattle.std.specs.List.{slice_get}
use Rattle.wf_history.specs.declared.event.CallId.{CallId}
use Rattle.wf_history.specs.History.{Event, Begin, End, IsHistory, Before, before, own_answers}
use Rattle.wf_history.proofs.Positions.{split_twice, places_of_split, one_item}
use Rattle.wf_lookup.proofs.Turns.{end_number, own_answers-append, one_own_answer}

module _ {Call Reply : Type 0} (history : List (Event Call Reply)) where
  -- a call that ends at a place is before one that begins at a later place
  pub before_at : (a b : CallId) (reply : Reply) (call : Call) (i j : ℕ) → i < j → slice_get history i ≡ Some (End a reply) → slice_get history j ≡ Some (Begin b call) → Before history a b
  before_at a b reply call i j lt h g =
      let r = split_twice history i j (End a reply) (Begin b call) lt h g in
      before reply call r.0 r.1 r.2 r.3

  -- and the other way round
  pub places_before : {a b : CallId} → Before history a b →
      (reply : Reply) × (call : Call) × (i : ℕ) × (j : ℕ) × (i < j) × (slice_get history i ≡ Some (End a reply)) × (slice_get history j ≡ Some (Begin b call))
  places_before (before {a} {b} reply call first between last h) =
      let p = places_of_split history first between last (End a reply) (Begin b call) h in
      (reply, call, length first, length first + suc (length between), omega arith, p.0, p.1)

  pub same_end : (a b : CallId) (r s : Reply) → ◌≡◌ {A = Event Call Reply} (End a r) (End b s) → a ≡ b
  same_end a b r s e = cc

  -- the calls of a process end in turn
  pub ends_in_turn : IsHistory history → (a b : CallId) (r s : Reply) (i j : ℕ) → a.process ≡ b.process → a.number < b.number →
      slice_get history i ≡ Some (End a r) → slice_get history j ≡ Some (End b s) → i < j
  ends_in_turn whole a b r s i j own less at_a at_b =
      elim (cases_lt i j) [
        | inl lt ↦ lt
        | inr le ↦ elim (cases_eq i j) [
          | inl e ↦
              let same = same_end a b r s (one_item history i (End a r) (End b s) at_a (ap (slice_get history) e ∙ at_b)) in
              let number : a.number ≡ b.number = ap (λ (x : CallId). x.number) same in
              absurd (omega (arith, less, number))
          | inr ne ↦
              let t = split_twice history j i (End b s) (End a r) (omega arith) at_b at_a in
              let n = end_number history whole t.0 (t.1 ++ End a r ∷ t.2) b s t.3 in
              let m = end_number history whole (t.0 ++ End b s ∷ t.1) t.2 a r (t.3 ∙ sym (append_assoc t.0 (End b s ∷ t.1) (End a r ∷ t.2))) in
              let parts : own_answers a.process (t.0 ++ End b s ∷ t.1) ≡ own_answers b.process t.0 ++ (b, s) ∷ own_answers b.process t.1 =
              ap (λ (p : ℕ). own_answers p (t.0 ++ End b s ∷ t.1)) own ∙ own_answers-append b.process t.0 (End b s ∷ t.1)
              ∙ ap (λ (l : List (CallId × Reply)). own_answers b.process t.0 ++ (l ++ own_answers b.process t.1)) (one_own_answer Call b s) in
              let size : length (own_answers a.process (t.0 ++ End b s ∷ t.1)) ≡ length (own_answers b.process t.0) + suc (length (own_answers b.process t.1)) =
              ap length parts ∙ length-append (own_answers b.process t.0) ((b, s) ∷ own_answers b.process t.1) in
              absurd (omega (arith, n.1, m.1, size, less))
        ]
      ]
