-- The calls applied when a block became the root: what an event more leaves of them.
use Rattle.std.proofs.Common.{◌≡◌, ◌≢◌, ℕ, zero, suc, ◌+◌, ◌<◌, ◌≤◌, false, List, [], ◌∷◌, ◌++◌, length, take, get_or, refl, sym, ap, ◌∙◌, arith, inl, inr, subst}
use Rattle.std.specs.Prelude.{Option, Some, None}
use Rattle.std.specs.List.{Contains}
use Rattle.std.proofs.lemmas.List.{take-append-le, get_or-set_other}
use Rattle.std.proofs.lemmas.List.Elements.{Contains-append_cases, Contains-append_left, Contains-append_right}
use Rattle.ob_interface.specs.Call.{ObjectCall, Reply}
use Rattle.wf_history.specs.declared.event.CallId.{CallId}
use Rattle.wf_history.specs.History.{Event, Begin, Applied, End}
use Rattle.wf_table.specs.declared.process.Label.{Label}
use Rattle.wf_table.specs.declared.process.Sizes.{Sizes}
use Rattle.wf_table.specs.Object.{Records, noted, history_after}
use Rattle.wf_table.specs.Marks.{IsMarked, applied_in}
use Rattle.wf_table.proofs.HelpAndOrderSteps.{applies, same_marks}
use Rattle.wf_table.specs.Stands.{since}

abbrev Events : Type 0
Events = List (Event ObjectCall Reply)

-- more events apply no fewer calls
pub applied_later : (events : Events) (a b : ℕ) (id : CallId) → a ≤ b → Contains (applied_in (take a events)) id → Contains (applied_in (take b events)) id
applied_later [] zero zero id le h = h
applied_later [] zero (suc b) id le h = h
applied_later [] (suc a) zero id le h = h
applied_later [] (suc a) (suc b) id le h = h
applied_later (e ∷ events) zero b id le h = absurd (omega (arith, h.1))
applied_later (e ∷ events) (suc a) zero id le h = absurd (omega (arith, le))
applied_later (Begin i call ∷ events) (suc a) (suc b) id le h = applied_later events a b id (omega (arith, le)) h
applied_later (Applied ids ∷ events) (suc a) (suc b) id le h = elim (Contains-append_cases ids (applied_in (take a events)) id h) [
  | inl here ↦ Contains-append_left ids (applied_in (take b events)) id here
  | inr there ↦ Contains-append_right ids (applied_in (take b events)) id (applied_later events a b id (omega (arith, le)) there)
]
applied_later (End i reply ∷ events) (suc a) (suc b) id le h = applied_later events a b id (omega (arith, le)) h

-- a bound on all that stands in a list
bounded : (xs : List ℕ) (k m : ℕ) → ((i : ℕ) → i < length xs → get_or xs i 0 ≤ m) → get_or xs k 0 ≤ m
bounded [] k m h = omega arith
bounded (x ∷ xs) zero m h = h 0 (omega arith)
bounded (x ∷ xs) (suc k) m h = bounded xs k m (λ i lt. h (suc i) (omega (arith, lt)))

module _ (z : Sizes) (root : ℕ) (r : Records) (marks : IsMarked z root r) where
  pub mark_older : (b : ℕ) → get_or r.root_marks b 0 ≤ get_or r.root_marks root 0
  mark_older b = bounded r.root_marks b (get_or r.root_marks root 0) (λ i lt. marks.roots i (omega (arith, lt, marks.count_roots)))

  pub mark_within : (b : ℕ) → get_or r.root_marks b 0 ≤ length r.history
  mark_within b = omega (arith, mark_older b, marks.newest)

  -- what was applied before any block became the root was applied before the root did: it is in the order
  pub since_root : (b : ℕ) (id : CallId) → Contains (since r b) id → Contains (since r root) id
  since_root b id h = applied_later r.history (get_or r.root_marks b 0) (get_or r.root_marks root 0) id (mark_older b) h

  pub in_order : (b : ℕ) (id : CallId) → Contains (since r b) id → Contains r.order id
  in_order b id h = subst (λ (ids : List CallId). Contains ids id) marks.since (since_root b id h)

  pub from_order : (id : CallId) → Contains r.order id → Contains (since r root) id
  from_order id h = subst (λ (ids : List CallId). Contains ids id) (sym marks.since) h

  earlier : (event : Event ObjectCall Reply) (b : ℕ) → applied_in (take (get_or r.root_marks b 0) (r.history ++ event ∷ [])) ≡ since r b
  earlier event b = ap applied_in (take-append-le (get_or r.root_marks b 0) r.history (event ∷ []) (mark_within b))

  later : (event : Option (Event ObjectCall Reply)) (b : ℕ) → applied_in (take (get_or r.root_marks b 0) (history_after r.history event)) ≡ since r b
  later None b = refl
  later (Some event) b = earlier event b

  -- an event that applies nothing leaves every block's
  pub since_stays : (p : ℕ) (l : Label) (block : ℕ) (event : Option (Event ObjectCall Reply)) (b : ℕ) → applies event ≡ false → since (noted r p l block event) b ≡ since r b
  since_stays p l block event b none =
      ap (λ (marks : List ℕ). applied_in (take (get_or marks b 0) (history_after r.history event))) (same_marks r.root_marks block (length r.history + 1) event none)
      ∙ later event b

  -- an exchange leaves those of the blocks that don't become the root
  pub since_other : (p : ℕ) (l : Label) (block : ℕ) (ids : List CallId) (b : ℕ) → b ≢ block → since (noted r p l block (Some (Applied ids))) b ≡ since r b
  since_other p l block ids b d =
      ap (λ (a : ℕ). applied_in (take a (r.history ++ Applied ids ∷ []))) (get_or-set_other r.root_marks block b (length r.history + 1) 0 d)
      ∙ earlier (Applied ids) b
