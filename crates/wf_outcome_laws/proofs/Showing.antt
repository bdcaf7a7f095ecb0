-- What is seen while a process makes its call, and no other process steps: the call begins, calls are applied once or not at all, and it ends.
use Rattle.std.proofs.Common.{◌≡◌, ◌≢◌, ℕ, ◌+◌, Bool, true, false, cond, List, [], ◌∷◌, ◌++◌, ◌⊎◌, refl, ap, ◌∙◌, arith, inl, inr, append_assoc}
use Rattle.std.specs.Prelude.{Some, None, nat_eq}
use Rattle.std.proofs.lemmas.Bool.Decides.{nat_tests}
use Rattle.ll_cell.specs.Cell.{Cell, is_linked, block_of}
use Rattle.ob_interface.specs.Call.{ObjectCall, Reply}
use Rattle.wf_history.specs.declared.event.CallId.{CallId}
use Rattle.wf_history.specs.History.{Event, Applied}
use Rattle.wf_table.specs.declared.engine_turn.EngineTurn.{EngineTurn}
use Rattle.wf_table.specs.declared.engine_turn.EngineTurn.TheVariants.{On, Returned, Trapped, Stuck}
use Rattle.wf_table.specs.declared.process.Label.{Label}
use Rattle.wf_table.specs.declared.process.Label.TheVariants.{Next, Try, Body, Commit, Read, Take, Give}
use Rattle.wf_table.specs.declared.process.Sizes.{Sizes}
use Rattle.wf_table.specs.Labels.{at_next}
use Rattle.wf_table.specs.Meaning.{Meaning}
use Rattle.wf_table.specs.Object.{event_at, history_after, applied_ids, begun_of}
use Rattle.wf_table.specs.StepTable.{Process, row, after_body, body_turn, own_block, to}

abbrev pub Events : Type 0
Events = List (Event ObjectCall Reply)

-- behind the exchange
abbrev pub is_behind : Label → Bool
is_behind Read = true
is_behind Take = true
is_behind Give = true
is_behind _ = false

-- where the process stands at the label, this was seen behind what was seen before
abbrev pub Shape : (before : Events) → (begins : Event ObjectCall Reply) → Label → (now : Events) → Type 0
Shape before begins l now = (now ≡ before ++ begins ∷ []) ⊎ ((ids : List CallId) × (is_behind l ≡ true) × (now ≡ before ++ begins ∷ Applied ids ∷ []))

-- and behind the end of the call
abbrev pub EndShape : (before : Events) → (begins ends : Event ObjectCall Reply) → (now : Events) → Type 0
EndShape before begins ends now = (now ≡ before ++ begins ∷ ends ∷ []) ⊎ ((ids : List CallId) × (now ≡ before ++ begins ∷ Applied ids ∷ ends ∷ []))

module _ {Run : Type 0} where
  body_next : (z : Sizes) (t : EngineTurn) (q : Process Run) → q.label ≡ Body → at_next (after_body z t q).label ≡ false
  body_next z On q is = ap at_next is
  body_next z Returned q is = refl
  body_next z (Trapped k) q is = grind (arith, nat_tests)
  body_next z Stuck q is = ap at_next is

  -- a row but NEXT and GIVE leads to no NEXT
  pub still_open : (l : Label) (m : Meaning Run) (z : Sizes) (c : Cell) (p : ℕ) (q : Process Run) → l ≢ Next → l ≢ Give → q.label ≡ l → at_next (row l m z c p q).process.label ≡ false
  still_open Next m z c p q n g is = absurd (n refl)
  still_open Give m z c p q n g is = absurd (g refl)
  still_open Body m z c p q n g is = body_next z (body_turn m z c p q).turn (record q { run = (body_turn m z c p q).run }) is
  still_open l m z c p q n g is = let k = ap at_next is in grind (arith, nat_tests, k)

module _ (before : Events) (begins : Event ObjectCall Reply) where
  take_on : (b : Bool) (l : Label) → is_behind l ≡ true → is_behind (cond b Give l) ≡ true
  take_on true l h = refl
  take_on false l h = h

  stays : (l after : Label) (now : Events) → is_behind l ≡ false → Shape before begins l now → Shape before begins after now
  stays l after now not (inl e) = inl e
  stays l after now not (inr h) = let t = h.1 in absurd (cc)

  exchanged : (ids : List CallId) (now : Events) → Shape before begins Commit now → Shape before begins Read (now ++ Applied ids ∷ [])
  exchanged ids now (inl e) = inr (ids, refl, ap (λ (x : Events). x ++ Applied ids ∷ []) e ∙ append_assoc before (begins ∷ []) (Applied ids ∷ []))
  exchanged ids now (inr h) = let t = h.1 in absurd (cc)

  pub shape_on : {Run : Type 0} (l : Label) (m : Meaning Run) (z : Sizes) (c : Cell) (ps : List (Process Run)) (p : ℕ) (q : Process Run) (now : Events) → l ≢ Next → l ≢ Give → q.label ≡ l →
      Shape before begins l now → Shape before begins (row l m z c p q).process.label (history_after now (event_at l m z c ps p q))
  shape_on Next m z c ps p q now n g is h = absurd (n refl)
  shape_on Give m z c ps p q now n g is h = absurd (g refl)
  shape_on Commit m z c ps p q now n g is h =
      let ids = applied_ids z (block_of c c.root) (own_block c p) (begun_of ps) in
      elim (is_linked c p) as (λ b. Shape before begins (cond b (to Read q) (to Try q)).label (history_after now (cond b (Some (Applied ids)) None))) [
        | true ↦ exchanged ids now h
        | false ↦ stays Commit Try now refl h
      ]
  shape_on Read m z c ps p q now n g is (inl e) = inl e
  shape_on Read m z c ps p q now n g is (inr h) = inr (h.0, refl, h.2)
  shape_on Take m z c ps p q now n g is (inl e) = inl e
  shape_on Take m z c ps p q now n g is (inr h) = inr (h.0, take_on (nat_eq (q.registers.i + 1) (z.replies + 1)) q.label (ap is_behind is), h.2)
  shape_on l m z c ps p q now n g is h = stays l (row l m z c p q).process.label now refl h

  pub shape_ends : (ends : Event ObjectCall Reply) (l : Label) (now : Events) → Shape before begins l now → EndShape before begins ends (now ++ ends ∷ [])
  shape_ends ends l now (inl e) = inl (ap (λ (x : Events). x ++ ends ∷ []) e ∙ append_assoc before (begins ∷ []) (ends ∷ []))
  shape_ends ends l now (inr h) = inr (h.0, ap (λ (x : Events). x ++ ends ∷ []) h.2 ∙ append_assoc before (begins ∷ Applied h.0 ∷ []) (ends ∷ []))
