-- The names of processes that have each begun a call are no more than any that the events are of.
use Rattle.std.proofs.Common.{◌≡◌, ◌∙◌, ℕ, ◌<◌, ◌≤◌, List, [], ◌∷◌, ◌++◌, Bool, cond, length, Some, All, sym, ap, subst, refl, inl, inr, get_or}
use Rattle.indexmap.proofs.IndexTableLemmas.Probe.{pigeonhole}
use Rattle.std.proofs.lemmas.Bool.{cases_eq, ne_eqb}
use Rattle.std.proofs.lemmas.List.Elements.{All-contains}
use Rattle.std.proofs.lemmas.Option.{get_or_from_slice_get, slice_get-get_or, slice_get_within}
use Rattle.std.specs.List.{Contains}
use Rattle.std.specs.Prelude.{nat_eq}
use Rattle.ob_interface.specs.Call.{ObjectCall, Reply}
use Rattle.ob_object_search.proofs.Renamed.{behind, contains_map, place_found, place_in}
use Rattle.ob_text_reading.specs.HistoryLines.{IsOfOne}
use Rattle.ob_text_reading.specs.Names.{AreApart, named, named_all}
use Rattle.wf_history.proofs.Positions.{contains_at, place_of}
use Rattle.wf_history.specs.History.{Event, Begin, Applied, End, OwnEvent, Begins, Ends, own_events}

-- the event is of the process
abbrev IsOf : ℕ → Event ObjectCall Reply → Type 0
IsOf process (Begin id call) = id.process ≡ process
IsOf process (Applied ids) = ⊥
IsOf process (End id reply) = id.process ≡ process

others_own : (n process : ℕ) (own : OwnEvent) (rest : List OwnEvent) → (n ≡ process → ⊥) → rest ≡ [] → cond (nat_eq n process) (own ∷ []) [] ++ rest ≡ []
others_own n process own rest ne none = ap (λ (b : Bool). cond b (own ∷ []) [] ++ rest) (ne_eqb n process ne) ∙ none

-- what a process has done stands among the events
own_there : (process : ℕ) (history : List (Event ObjectCall Reply)) → (own_events process history ≡ [] → ⊥) → (e : Event ObjectCall Reply) × Contains history e × IsOf process e
own_there process [] some = absurd (some refl)
own_there process (Begin id call ∷ history) some =
    elim (cases_eq id.process process) [
      | inl same ↦ (Begin id call, contains_at (Begin id call ∷ history) 0 (Begin id call) refl, same)
      | inr other ↦
          let r = own_there process history (λ none. some (others_own id.process process (Begins id.number) (own_events process history) other none)) in
          (r.0, behind (Begin id call) history r.0 r.1, r.2)
    ]
own_there process (Applied ids ∷ history) some =
    let r = own_there process history some in
    (r.0, behind (Applied ids) history r.0 r.1, r.2)
own_there process (End id reply ∷ history) some =
    elim (cases_eq id.process process) [
      | inl same ↦ (End id reply, contains_at (End id reply ∷ history) 0 (End id reply) refl, same)
      | inr other ↦
          let r = own_there process history (λ none. some (others_own id.process process (Ends id.number) (own_events process history) other none)) in
          (r.0, behind (End id reply) history r.0 r.1, r.2)
    ]

module _ (names : List ℕ) (history : List (Event ObjectCall Reply)) (apart : AreApart names) (begun : (process : ℕ) → process < length names → own_events process history ≡ [] → ⊥)
    (others : List ℕ) (each : All (IsOfOne others) (named_all names history)) where
  name_of : (process : ℕ) (e : Event ObjectCall Reply) → IsOf process e → IsOfOne others (named names e) → Contains others (get_or names process 0)
  name_of process (Begin id call) is h = subst (λ (p : ℕ). Contains others (get_or names p 0)) is h
  name_of process (Applied ids) is h = absurd is
  name_of process (End id reply) is h = subst (λ (p : ℕ). Contains others (get_or names p 0)) is h

  among : (process : ℕ) → process < length names → Contains others (get_or names process 0)
  among process lt =
      let e = own_there process history (begun process lt) in
      name_of process e.0 e.2 (All-contains (IsOfOne others) (named_all names history) (named names e.0) each (contains_map (named names) history e.0 e.1))

  abbrev place : ℕ → ℕ
  place process = place_in others (get_or names process 0)

  found : (process : ℕ) → process < length names → (place process < length others) × (get_or others (place process) 0 ≡ get_or names process 0)
  found process lt =
      let name = get_or names process 0 in
      let p = place_of others name (among process lt) in
      place_found others p.0 name (slice_get_within others p.0 name p.1) (get_or_from_slice_get others p.0 name 0 p.1)

  one_to_one : (i j : ℕ) → i < length names → j < length names → place i ≡ place j → i ≡ j
  one_to_one i j lt less same =
      let names_same : get_or names j 0 ≡ get_or names i 0 = sym (found j less).1 ∙ ap (λ (k : ℕ). get_or others k 0) (sym same) ∙ (found i lt).1 in
      apart i j (get_or names i 0) (slice_get-get_or names i 0 lt) (slice_get-get_or names j 0 less ∙ ap (λ (n : ℕ). Some n) names_same)

  pub no_more : length names ≤ length others
  no_more = pigeonhole (length names) (length others) place (λ i lt. (found i lt).0) one_to_one
