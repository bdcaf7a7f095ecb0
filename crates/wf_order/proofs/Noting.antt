-- Rows of a history with one event more.
use Rattle.std.proofs.Common.{◌≡◌, refl, sym, ap, ◌∙◌, subst, ℕ, ◌+◌, ◌<◌, zero, suc, Bool, cond, List, [], ◌∷◌, ◌++◌, length, set, replicate, Some, arith, inl, inr, length-append, length-set, get_or-set_same, get_or-set_other}
use Rattle.std.proofs.lemmas.Bool.{cases_eq, ne_eqb}
use Rattle.std.proofs.lemmas.List.{append-nil, length-replicate}
use Rattle.std.specs.List.{slice_get}
use Rattle.std.specs.Prelude.{nat_eq}
use Rattle.ob_interface.specs.Call.{ObjectCall, Reply}
use Rattle.wf_history.specs.declared.event.CallId.{CallId}
use Rattle.wf_history.specs.History.{Event, Begin, End, IsHistory, own_call, own_calls, own_answer, own_answers}
use Rattle.wf_history.specs.View.{seen_call, seen_reply}
use Rattle.wf_history.proofs.Positions.{place_push, place_left, place_here, same_call}
use Rattle.wf_history.proofs.Turns.{own_calls-push}
use Rattle.wf_order.specs.declared.rows.Begun.{Begun}
use Rattle.wf_order.specs.declared.rows.Ended.{Ended}
use Rattle.wf_order.specs.Rows.{row_of, total, call_at, AreNoted}
use Rattle.wf_lookup.proofs.Turns.{own_answers-append, one_own_answer, one_own_call, begin_number, end_number}

-- a test of a process with another
other_test : {X : Type 0} (p q : ℕ) (x : X) → (p ≡ q → ⊥) → cond (nat_eq p q) (x ∷ []) [] ≡ []
other_test p q x ne = ap (λ (b : Bool). cond b (x ∷ []) []) (ne_eqb p q ne)

module _ {X : Type 0} where
  row_set : (rows : List (List X)) (at : ℕ) (row : List X) → at < length rows → row_of (set rows at row) at ≡ row
  row_set rows at row h = get_or-set_same rows at row [] h

  row_not_set : (rows : List (List X)) (at : ℕ) (row : List X) (q : ℕ) → (q ≡ at → ⊥) → row_of (set rows at row) q ≡ row_of rows q
  row_not_set rows at row q ne = get_or-set_other rows at q row [] ne

  -- one item more in a row
  total_push : (rows : List (List X)) (at : ℕ) (x : X) → at < length rows → total (set rows at (row_of rows at ++ x ∷ [])) ≡ total rows + 1
  total_push [] at x lt = absurd (omega (arith, lt))
  total_push (row ∷ rows) zero x lt = let size = length-append row (x ∷ []) in omega (arith, size)
  total_push (row ∷ rows) (suc at) x lt = let r = total_push rows at x (omega (arith, lt)) in omega (arith, r)

empty : (X : Type 0) (n p : ℕ) → row_of {A = X} (replicate {A = List X} n []) p ≡ []
empty X zero p = refl
empty X (suc n) zero = refl
empty X (suc n) (suc p) = empty X n p

total_none : (X : Type 0) (n : ℕ) → total {A = X} (replicate {A = List X} n []) ≡ 0
total_none X zero = refl
total_none X (suc n) = let r = total_none X n in omega (arith, r)

module _ (history : List (Event ObjectCall Reply)) (event : Event ObjectCall Reply) where
  own_answers-push : (p : ℕ) → own_answers p (history ++ event ∷ []) ≡ own_answers p history ++ own_answer p event
  own_answers-push p = own_answers-append p history (event ∷ []) ∙ ap (λ (l : List (CallId × Reply)). own_answers p history ++ l) (append-nil (own_answer p event))

  calls_kept : (p : ℕ) → own_call p event ≡ [] → own_calls p (history ++ event ∷ []) ≡ own_calls p history
  calls_kept p none = own_calls-push p history event ∙ ap (λ (l : List ObjectCall). own_calls p history ++ l) none ∙ append-nil (own_calls p history)

  answers_kept : (p : ℕ) → own_answer p event ≡ [] → own_answers p (history ++ event ∷ []) ≡ own_answers p history
  answers_kept p none = own_answers-push p ∙ ap (λ (l : List (CallId × Reply)). own_answers p history ++ l) none ∙ append-nil (own_answers p history)

  longer : length (history ++ event ∷ []) ≡ length history + 1
  longer = length-append history (event ∷ [])

  -- where the event is neither
  pub noted_other : (processes : ℕ) (begun : List (List Begun)) (ended : List (List Ended)) → ((p : ℕ) → own_call p event ≡ []) → ((p : ℕ) → own_answer p event ≡ []) →
      AreNoted history processes begun ended → AreNoted (history ++ event ∷ []) processes begun ended
  noted_other processes begun ended no_call no_answer h = record {
    begun_count = h.begun_count;
    ended_count = h.ended_count;
    calls = λ p lt. h.calls p lt ∙ ap length (sym (calls_kept p (no_call p)));
    replies = λ p lt. h.replies p lt ∙ ap length (sym (answers_kept p (no_answer p)));
    begun_at = λ p k b at. place_left history (event ∷ []) b.place (Begin (call_at p k) (seen_call b.call)) (h.begun_at p k b at);
    ended_at = λ p k e at. place_left history (event ∷ []) e.place (End (call_at p k) (seen_reply e.reply)) (h.ended_at p k e at);
    few = let few = h.few in let size = longer in omega (arith, few, size);
  }

module _ (history : List (Event ObjectCall Reply)) (processes : ℕ) (begun : List (List Begun)) (ended : List (List Ended)) (h : AreNoted history processes begun ended) where
  module _ (id : CallId) (b : Begun) (few : id.process < processes) (place : b.place ≡ length history) (whole : IsHistory (history ++ Begin id (seen_call b.call) ∷ [])) where
    abbrev begin : Event ObjectCall Reply
    begin = Begin id (seen_call b.call)

    abbrev after_begin : List (Event ObjectCall Reply)
    after_begin = history ++ begin ∷ []

    abbrev begun_more : List (List Begun)
    begun_more = set begun id.process (row_of begun id.process ++ b ∷ [])

    begun_row : row_of begun_more id.process ≡ row_of begun id.process ++ b ∷ []
    begun_row = let size = h.begun_count in row_set begun id.process (row_of begun id.process ++ b ∷ []) (omega (arith, few, size))

    begun_other : (p : ℕ) → (p ≡ id.process → ⊥) → row_of begun_more p ≡ row_of begun p
    begun_other p ne = row_not_set begun id.process (row_of begun id.process ++ b ∷ []) p ne

    -- its place in the row is its number
    begun_place : length (row_of begun id.process) + 1 ≡ id.number
    begun_place =
        let n = begin_number after_begin whole history [] id (seen_call b.call) refl in
        let size = h.calls id.process few in
        omega (arith, n.0, size)

    begin_calls : (p : ℕ) → p < processes → length (row_of begun_more p) ≡ length (own_calls p after_begin)
    begin_calls p lt =
        elim (cases_eq p id.process) [
          | inl e ↦
              let size = h.calls id.process few in
              let row = length-append (row_of begun id.process) (b ∷ []) in
              let calls = length-append (own_calls id.process history) (seen_call b.call ∷ []) in
              let own : length (own_calls id.process after_begin) ≡ length (own_calls id.process history ++ seen_call b.call ∷ []) =
              ap length (own_calls-push id.process history begin ∙ ap (λ (l : List ObjectCall). own_calls id.process history ++ l) (one_own_call Reply id (seen_call b.call))) in
              let here : length (row_of begun_more id.process) ≡ length (row_of begun id.process ++ b ∷ []) = ap length begun_row in
              let same : length (row_of begun_more id.process) ≡ length (own_calls id.process after_begin) = omega (arith, size, row, calls, own, here) in
              subst (λ (q : ℕ). length (row_of begun_more q) ≡ length (own_calls q after_begin)) (sym e) same
          | inr ne ↦ ap length (begun_other p ne) ∙ h.calls p lt ∙ ap length (sym (calls_kept history begin p (other_test id.process p (seen_call b.call) (λ e. ne (sym e)))))
        ]

    begin_at : (p k : ℕ) (c : Begun) → slice_get (row_of begun_more p) k ≡ Some c → slice_get after_begin c.place ≡ Some (Begin (call_at p k) (seen_call c.call))
    begin_at p k c at =
        elim (cases_eq p id.process) [
          | inl e ↦
              let here : slice_get (row_of begun id.process ++ b ∷ []) k ≡ Some c = ap (λ (l : List Begun). slice_get l k) (sym begun_row) ∙ ap (λ (q : ℕ). slice_get (row_of begun_more q) k) (sym e) ∙ at in
              elim (place_push (row_of begun id.process) b k c here) [
                | inl old ↦ place_left history (begin ∷ []) c.place (Begin (call_at p k) (seen_call c.call)) (h.begun_at p k c (ap (λ (q : ℕ). slice_get (row_of begun q) k) e ∙ old))
                | inr last ↦
                    let number = begun_place in
                    let k_is = last.0 in
                    let same : id ≡ call_at p k = same_call id (call_at p k) (sym e) (omega (arith, number, k_is)) in
                    subst (λ (x : Begun). slice_get after_begin x.place ≡ Some (Begin (call_at p k) (seen_call x.call))) last.1
                    (ap (slice_get after_begin) place ∙ place_here history [] begin ∙ ap (λ (i : CallId). Some (Begin i (seen_call b.call))) same)
              ]
          | inr ne ↦ place_left history (begin ∷ []) c.place (Begin (call_at p k) (seen_call c.call)) (h.begun_at p k c (ap (λ (l : List Begun). slice_get l k) (sym (begun_other p ne)) ∙ at))
        ]

    pub noted_begin : AreNoted after_begin processes begun_more ended
    noted_begin = record {
      begun_count = length-set begun id.process (row_of begun id.process ++ b ∷ []) ∙ h.begun_count;
      ended_count = h.ended_count;
      calls = begin_calls;
      replies = λ p lt. h.replies p lt ∙ ap length (sym (answers_kept history begin p refl));
      begun_at = begin_at;
      ended_at = λ p k e at. place_left history (begin ∷ []) e.place (End (call_at p k) (seen_reply e.reply)) (h.ended_at p k e at);
      few = let size = h.begun_count in let old = h.few in let more = total_push begun id.process b (omega (arith, few, size)) in let all = longer history begin in omega (arith, old, more, all);
    }

  module _ (id : CallId) (x : Ended) (few : id.process < processes) (place : x.place ≡ length history) (whole : IsHistory (history ++ End id (seen_reply x.reply) ∷ [])) where
    abbrev end : Event ObjectCall Reply
    end = End id (seen_reply x.reply)

    abbrev after_end : List (Event ObjectCall Reply)
    after_end = history ++ end ∷ []

    abbrev ended_more : List (List Ended)
    ended_more = set ended id.process (row_of ended id.process ++ x ∷ [])

    ended_row : row_of ended_more id.process ≡ row_of ended id.process ++ x ∷ []
    ended_row = let size = h.ended_count in row_set ended id.process (row_of ended id.process ++ x ∷ []) (omega (arith, few, size))

    ended_other : (p : ℕ) → (p ≡ id.process → ⊥) → row_of ended_more p ≡ row_of ended p
    ended_other p ne = row_not_set ended id.process (row_of ended id.process ++ x ∷ []) p ne

    ended_place : length (row_of ended id.process) + 1 ≡ id.number
    ended_place =
        let n = end_number after_end whole history [] id (seen_reply x.reply) refl in
        let size = h.replies id.process few in
        omega (arith, n.1, size)

    end_replies : (p : ℕ) → p < processes → length (row_of ended_more p) ≡ length (own_answers p after_end)
    end_replies p lt =
        elim (cases_eq p id.process) [
          | inl e ↦
              let size = h.replies id.process few in
              let row = length-append (row_of ended id.process) (x ∷ []) in
              let answers = length-append (own_answers id.process history) ((id, seen_reply x.reply) ∷ []) in
              let own : length (own_answers id.process after_end) ≡ length (own_answers id.process history ++ (id, seen_reply x.reply) ∷ []) =
              ap length (own_answers-push history end id.process ∙ ap (λ (l : List (CallId × Reply)). own_answers id.process history ++ l) (one_own_answer ObjectCall id (seen_reply x.reply))) in
              let here : length (row_of ended_more id.process) ≡ length (row_of ended id.process ++ x ∷ []) = ap length ended_row in
              let same : length (row_of ended_more id.process) ≡ length (own_answers id.process after_end) = omega (arith, size, row, answers, own, here) in
              subst (λ (q : ℕ). length (row_of ended_more q) ≡ length (own_answers q after_end)) (sym e) same
          | inr ne ↦ ap length (ended_other p ne) ∙ h.replies p lt ∙ ap length (sym (answers_kept history end p (other_test id.process p (id, seen_reply x.reply) (λ e. ne (sym e)))))
        ]

    end_at : (p k : ℕ) (c : Ended) → slice_get (row_of ended_more p) k ≡ Some c → slice_get after_end c.place ≡ Some (End (call_at p k) (seen_reply c.reply))
    end_at p k c at =
        elim (cases_eq p id.process) [
          | inl e ↦
              let here : slice_get (row_of ended id.process ++ x ∷ []) k ≡ Some c = ap (λ (l : List Ended). slice_get l k) (sym ended_row) ∙ ap (λ (q : ℕ). slice_get (row_of ended_more q) k) (sym e) ∙ at in
              elim (place_push (row_of ended id.process) x k c here) [
                | inl old ↦ place_left history (end ∷ []) c.place (End (call_at p k) (seen_reply c.reply)) (h.ended_at p k c (ap (λ (q : ℕ). slice_get (row_of ended q) k) e ∙ old))
                | inr last ↦
                    let number = ended_place in
                    let k_is = last.0 in
                    let same : id ≡ call_at p k = same_call id (call_at p k) (sym e) (omega (arith, number, k_is)) in
                    subst (λ (y : Ended). slice_get after_end y.place ≡ Some (End (call_at p k) (seen_reply y.reply))) last.1
                    (ap (slice_get after_end) place ∙ place_here history [] end ∙ ap (λ (i : CallId). Some (End i (seen_reply x.reply))) same)
              ]
          | inr ne ↦ place_left history (end ∷ []) c.place (End (call_at p k) (seen_reply c.reply)) (h.ended_at p k c (ap (λ (l : List Ended). slice_get l k) (sym (ended_other p ne)) ∙ at))
        ]

    pub noted_end : AreNoted after_end processes begun ended_more
    noted_end = record {
      begun_count = h.begun_count;
      ended_count = length-set ended id.process (row_of ended id.process ++ x ∷ []) ∙ h.ended_count;
      calls = λ p lt. h.calls p lt ∙ ap length (sym (calls_kept history end p refl));
      replies = end_replies;
      begun_at = λ p k b at. place_left history (end ∷ []) b.place (Begin (call_at p k) (seen_call b.call)) (h.begun_at p k b at);
      ended_at = end_at;
      few = let old = h.few in let all = longer history end in omega (arith, old, all);
    }

-- rows without items hold the history without events
pub noted_none : (processes : ℕ) → AreNoted [] processes (replicate processes []) (replicate processes [])
noted_none processes = record {
  begun_count = length-replicate processes [];
  ended_count = length-replicate processes [];
  calls = λ p lt. ap length (empty Begun processes p);
  replies = λ p lt. ap length (empty Ended processes p);
  begun_at = λ p k b at. let none : slice_get [] k ≡ Some b = ap (λ (l : List Begun). slice_get l k) (sym (empty Begun processes p)) ∙ at in absurd (cc);
  ended_at = λ p k e at. let none : slice_get [] k ≡ Some e = ap (λ (l : List Ended). slice_get l k) (sym (empty Ended processes p)) ∙ at in absurd (cc);
  few = let none = total_none Begun processes in omega (arith, none);
}
