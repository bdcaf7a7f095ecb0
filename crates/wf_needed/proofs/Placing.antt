-- What the rows of a history say of a call; and one call more in a list.
use Rattle.std.proofs.Common.{◌≡◌, sym, ap, ◌∙◌, subst, ℕ, ◌+◌, ◌<◌, ◌≤◌, List, [], ◌∷◌, ◌++◌, length, get_or, take, option_map, Option, Some, None, inl, inr, refl, arith}
use Rattle.std.proofs.lemmas.List.{map-append, take_more}
use Rattle.std.proofs.lemmas.Option.{MatchOption-at_some}
use Rattle.std.specs.Prelude.{slice_get, Contains, MatchOption}
use Rattle.ob_interface.specs.Call.{ObjectCall, Reply}
use Rattle.wf_history.proofs.Positions.{contains_at, place_push, same_call}
use Rattle.wf_history.specs.View.{seen_call, seen_reply}
use Rattle.wf_history.specs.declared.event.CallId.{CallId}
use Rattle.wf_history.specs.declared.seen_event.SeenReply.{SeenReply}
use Rattle.wf_history.specs.History.{Event, Begin, End}
use Rattle.wf_history.specs.Legal.{HasBegun}
use Rattle.wf_needed.specs.Listed.{AreListed, IsListed, id_of, ids_of}
use Rattle.wf_needed.specs.Needed.{IsOpen}
use Rattle.wf_needed.specs.declared.listed_calls.Listed.{Listed}
use Rattle.wf_order.specs.Rows.{AreRows, begun_rows, call_at, ended_rows, row_of}
use Rattle.wf_order.specs.declared.rows.Begun.{Begun}
use Rattle.wf_order.specs.declared.rows.Ended.{Ended}
use Rattle.wf_order.specs.declared.kept_rows.Rows.{Rows}

module _ (history : List (Event ObjectCall Reply)) (processes : ℕ) (rows : Rows) (are : AreRows history processes rows) (id : CallId) where
  -- a call that has begun has a number from 1 on
  pub not_numbered : (1 ≤ id.number → ⊥) → (call : ObjectCall) → HasBegun history id call → ⊥
  not_numbered none call begun =
      let there = are.every_begun id call begun in
      let positive = there.1 in
      none (omega (arith, positive))

  module _ (place : ℕ) (is : place + 1 ≡ id.number) where
    named : call_at id.process place ≡ id
    named = same_call (call_at id.process place) id refl is

    -- no call stands at the place of its number
    pub not_begun : slice_get (row_of (begun_rows rows) id.process) place ≡ None → (call : ObjectCall) → HasBegun history id call → ⊥
    not_begun none call begun =
        let there = are.every_begun id call begun in
        let at : slice_get (row_of (begun_rows rows) id.process) place ≡ Some there.2 = ap (slice_get (row_of (begun_rows rows) id.process)) (omega (arith, is)) ∙ there.3 in
        let both : ◌≡◌ {A = Option Begun} None (Some there.2) = sym none ∙ at in
        absurd (cc)

    pub begun_here : (b : Begun) → slice_get (row_of (begun_rows rows) id.process) place ≡ Some b → HasBegun history id (seen_call b.call)
    begun_here b at =
        contains_at history b.place (Begin id (seen_call b.call)) (are.begun id.process place b at ∙ ap (λ (i : CallId). Some (Begin i (seen_call b.call))) named)

    -- its reply, or none
    replied : (end : Option Ended) → slice_get (row_of (ended_rows rows) id.process) place ≡ end →
        MatchOption (option_map (λ (e : Ended). e.reply) end) (IsOpen history id) (λ r. Contains history (End id (seen_reply r)))
    replied None none = λ reply ended.
        let there = are.every_ended id reply ended in
        let at : slice_get (row_of (ended_rows rows) id.process) place ≡ Some there.2 = ap (slice_get (row_of (ended_rows rows) id.process)) (omega (arith, is)) ∙ there.3 in
        let both : ◌≡◌ {A = Option Ended} None (Some there.2) = sym none ∙ at in
        absurd (cc)
    replied (Some e) at =
        contains_at history e.place (End id (seen_reply e.reply)) (are.ended id.process place e at ∙ ap (λ (i : CallId). Some (End i (seen_reply e.reply))) named)

    pub replied_here : (reply : Option SeenReply) → reply ≡ option_map (λ (e : Ended). e.reply) (slice_get (row_of (ended_rows rows) id.process) place) →
        MatchOption reply (IsOpen history id) (λ r. Contains history (End id (seen_reply r)))
    replied_here reply same =
        subst (λ (r : Option SeenReply). MatchOption r (IsOpen history id) (λ s. Contains history (End id (seen_reply s)))) (sym same)
        (replied (slice_get (row_of (ended_rows rows) id.process) place) refl)

-- a call that has a reply is not open
pub ended_here : (history : List (Event ObjectCall Reply)) (id : CallId) (c : Listed) (r : SeenReply) → IsListed history c → c.id ≡ id → c.reply ≡ Some r → ¬ IsOpen history id
ended_here history id c r is named at opens =
    opens (seen_reply r) (subst (λ (i : CallId). Contains history (End i (seen_reply r))) named (MatchOption-at_some (IsOpen history c.id) (λ (s : SeenReply). Contains history (End c.id (seen_reply s))) r at is.reply))

-- one call more is listed
pub listed_more : (history : List (Event ObjectCall Reply)) (all more : List Listed) (c : Listed) → more ≡ all ++ c ∷ [] → AreListed history all → IsListed history c → AreListed history more
listed_more history all more c grows are is =
    subst (λ (cs : List Listed). AreListed history cs) (sym grows)
    (λ k d at. elim (place_push all c k d at) [ inl before ↦ are k d before | inr last ↦ subst (λ (x : Listed). IsListed history x) last.1 is ])

pub ids_more : (all more : List Listed) (c : Listed) (order : List CallId) (i : ℕ) (id : CallId) → more ≡ all ++ c ∷ [] → ids_of all ≡ take i order → c.id ≡ id → i < length order → id ≡ get_or order i id →
    ids_of more ≡ take (i + 1) order
ids_more all more c order i id grows same named lt is =
    ap ids_of grows ∙ map-append id_of all (c ∷ []) ∙ ap (λ (xs : List CallId). xs ++ c.id ∷ []) same ∙ ap (λ (x : CallId). take i order ++ x ∷ []) (named ∙ is) ∙ sym (take_more order i id lt)
