-- An end of a history with another reply.
use Rattle.std.proofs.Common.{◌≡◌, ◌∙◌, ℕ, ◌+◌, ◌≤◌, ◌<◌, List, [], ◌∷◌, ◌++◌, Some, length, option_map, take, sym, ap, arith, inl, inr}
use Rattle.std.proofs.lemmas.Bool.{cases_lt}
use Rattle.std.proofs.lemmas.List.{length-map}
use Rattle.std.proofs.lemmas.Option.{same_Some, slice_get-map, slice_get_within}
use Rattle.std.specs.List.{slice_get}
use Rattle.ob_interface.specs.Call.{ObjectCall, Reply}
use Rattle.ob_object_search.specs.EndEvidence.{EndsNowhere}
use Rattle.ob_text_reading.specs.Names.{named, named_all}
use Rattle.wf_lookup.proofs.Nexts.{next_whole}
use Rattle.wf_history.proofs.Positions.{place_of}
use Rattle.wf_history.proofs.Turns.{own_events-push}
use Rattle.wf_history.specs.History.{Event, End, IsHistory, OwnEvent, in_turn, own_events}
use Rattle.wf_history.specs.declared.event.CallId.{CallId}

-- its process sees the same
pub other_reply : (before : List (Event ObjectCall Reply)) (id : CallId) (reply other : Reply) → IsHistory (before ++ End id reply ∷ []) → IsHistory (before ++ End id other ∷ [])
other_reply before id reply other whole process =
    let same : own_events process (before ++ End id other ∷ []) ≡ own_events process (before ++ End id reply ∷ []) =
    own_events-push process before (End id other) ∙ sym (own_events-push process before (End id reply)) in
    same ∙ whole process ∙ ap (λ (es : List OwnEvent). in_turn 1 (length es)) (sym same)

-- so where a call ends behind the first events, it may end with any reply
pub ends_with : (history : List (Event ObjectCall Reply)) (place : ℕ) (id : CallId) (reply other : Reply) → IsHistory history → slice_get history place ≡ Some (End id reply) →
    IsHistory (take place history ++ End id other ∷ [])
ends_with history place id reply other whole here = other_reply (take place history) id reply other (next_whole history place (End id reply) whole here)

-- An end that is looked for, by the names of processes.
module _ (names : List ℕ) (history : List (Event ObjectCall Reply)) (id : CallId) where
  -- none of the first events is the end
  abbrev pub NoEndBelow : ℕ → Type 0
  NoEndBelow n = (k : ℕ) (reply : Reply) → k < n → slice_get (named_all names history) k ≡ Some (End id reply) → ⊥

  pub no_end_more : (n : ℕ) (e : Event ObjectCall Reply) → slice_get history n ≡ Some e → NoEndBelow n → ((reply : Reply) → named names e ≡ End id reply → ⊥) → NoEndBelow (n + 1)
  no_end_more n e here none other k reply lt at =
      elim (cases_lt k n) [
        | inl less ↦ none k reply less at
        | inr ge ↦
            let same : k ≡ n = omega (arith, lt, ge) in
            let there : slice_get (named_all names history) k ≡ Some (named names e) =
            ap (slice_get (named_all names history)) same ∙ slice_get-map (named names) history n ∙ ap (option_map (named names)) here in
            other reply (same_Some (named names e) (End id reply) (sym there ∙ at))
      ]

  pub no_end_at_all : (n : ℕ) → length history ≤ n → NoEndBelow n → EndsNowhere (named_all names history) id
  no_end_at_all n past none reply ends =
      let p = place_of (named_all names history) (End id reply) ends in
      let within = slice_get_within (named_all names history) p.0 (End id reply) p.1 in
      let size = length-map history (named names) in
      none p.0 reply (omega (arith, past, within, size)) p.1
