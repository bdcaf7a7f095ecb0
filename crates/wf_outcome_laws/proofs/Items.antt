-- The item p! stands for the steps of a process that makes its next call alone, up to its end.
use Rattle.std.proofs.Common.{◌≡◌, ◌≢◌, ℕ, zero, suc, ◌+◌, ◌<◌, Bool, true, false, cond, not, ◌&&◌, List, refl, sym, ap, ◌∙◌, arith, subst, inl, inr}
use Rattle.std.specs.Prelude.{ℤ, Option, Some, None, slice_get}
use Rattle.std.proofs.lemmas.Bool.{cases_eq, false≢true}
use Rattle.ll_cell.specs.Cell.{Cell, block_of, is_linked}
use Rattle.ob_interface.specs.Call.{ObjectCall}
use Rattle.ob_text_words.specs.declared.item.Item.TheVariants as Items
use Rattle.wf_history.specs.History.{Applied, Begin}
use Rattle.wf_table.specs.declared.process.Label.{Label}
use Rattle.wf_table.specs.declared.process.Label.TheVariants.{Next, Commit, Give}
use Rattle.wf_table.specs.declared.process.Sizes.{Sizes}
use Rattle.wf_table.specs.Labels.{at_next}
use Rattle.wf_table.specs.Law.{Effects}
use Rattle.wf_table.specs.Meaning.{Meaning}
use Rattle.wf_table.specs.Object.{State, answer_by, answer_of, applied_ids, begun_of, event_at, label_by, seen_by}
use Rattle.wf_table.specs.Runs.{Act}
use Rattle.wf_table.specs.Start.{sizes_of}
use Rattle.wf_table.specs.StepTable.{Process, call_at, own_block}
use Rattle.wf_table.specs.Spent.{has_more}
use Rattle.wf_object.specs.Halted.{is_halted, is_halted_by}
use Rattle.wf_play.specs.ItemSteps.{IsAtEnd, IsReply, StandsFor}
use Rattle.wf_outcome_laws.proofs.Blocks.{Reached, after}
use Rattle.wf_outcome_laws.proofs.Opened.{Opened}

and_false : (b : Bool) → (b && false) ≡ true → ⊥
and_false true h = absurd (false≢true h)
and_false false h = absurd (false≢true h)

module _ {Run : Type 0} (m : Meaning Run) (z : Sizes) where
  -- within a call, but at GIVE, a step doesn't answer
  quiet : (l : Label) (c : Cell) (ps : List (Process Run)) (p : ℕ) (q : Process Run) → at_next l ≡ false → l ≢ Give → IsReply (answer_by l (event_at l m z c ps p q)) → ⊥
  quiet Next c ps p q out going h = absurd (cc)
  quiet Give c ps p q out going h = absurd (going refl)
  quiet Commit c ps p q out going h =
      (elim (is_linked c p) as (λ b. IsReply (answer_by Commit (cond b (Some (Applied (applied_ids z (block_of c c.root) (own_block c p) (begun_of ps)))) None)) → ⊥) [ true ↦ (λ x. x) | false ↦ (λ x. x) ]) h
  quiet l c ps p q out going h = h

  -- nor does one that begins a call
  begins_quietly : (c : Cell) (ps : List (Process Run)) (p : ℕ) (q : Process Run) (l : Label) → l ≡ Next → IsReply (answer_by l (event_at l m z c ps p q)) → ⊥
  begins_quietly c ps p q Next is h =
      (elim (has_more q) as (λ b. IsReply (answer_by Next (cond b (Some (Begin (record { process = p; number = q.begun + 1 }) (call_at q q.begun))) None)) → ⊥) [ true ↦ (λ x. x) | false ↦ (λ x. x) ]) h
  begins_quietly c ps p q l is h = absurd (cc)

  silent : (t : State Run) (p : ℕ) (q : Process Run) → slice_get t.processes p ≡ Some q → (IsReply (answer_by q.label (event_at q.label m z t.cell t.processes p q)) → ⊥) → IsReply (answer_of m z t p) → ⊥
  silent t p q at none h = none (subst (λ (o : Option (Process Run)). IsReply (answer_by (label_by o) (seen_by m z t.cell t.processes p o))) at h)

  answers_at : (t : State Run) (p : ℕ) (q : Process Run) → slice_get t.processes p ≡ Some q → q.label ≡ Give → IsReply (answer_of m z t p)
  answers_at t p q at gives =
      subst (λ (o : Option (Process Run)). IsReply (answer_by (label_by o) (seen_by m z t.cell t.processes p o))) (sym at)
      (subst (λ (l : Label). IsReply (answer_by l (event_at l m z t.cell t.processes p q))) (sym gives) tt)

  open_goes_on : (t : State Run) (p : ℕ) (q : Process Run) → slice_get t.processes p ≡ Some q → at_next q.label ≡ false → is_halted t p ≡ true → ⊥
  open_goes_on t p q at out h = absurd (false≢true (ap (λ (b : Bool). b && not (has_more q)) (sym out) ∙ ap is_halted_by (sym at) ∙ h))

  more_goes_on : (t : State Run) (p : ℕ) (q : Process Run) → slice_get t.processes p ≡ Some q → has_more q ≡ true → is_halted t p ≡ true → ⊥
  more_goes_on t p q at more h = and_false (at_next q.label) (ap (λ (b : Bool). at_next q.label && not b) (sym more) ∙ ap is_halted_by (sym at) ∙ h)

module _ {Run : Type 0} (m : Meaning Run) (lawful : List ℤ → Type 0) (fits : ObjectCall → Type 0) (ready : Run → Type 0) (Effect : Effects) (n limit : ℕ) (opening : List ℤ) (acts : List Act) (s : State Run) (p : ℕ) (first : Process Run) (at : slice_get s.processes p ≡ Some first) (is : first.label ≡ Next) (more : has_more first ≡ true) (k : ℕ) (reached : Reached m lawful fits ready Effect n limit opening acts s p first k) where
  opened_at : (i : ℕ) → suc i < suc k → Opened m (sizes_of m n) p s first (after m lawful fits ready Effect n limit opening acts s p first (suc i))
  opened_at i less = elim (cases_eq (suc i) k) [
    | inl same ↦ subst (λ (j : ℕ). Opened m (sizes_of m n) p s first (after m lawful fits ready Effect n limit opening acts s p first j)) (sym same) reached.opened
    | inr apart ↦ (reached.before (suc i) (omega arith) (omega (arith, less, apart))).0
  ]

  none_before : (j : ℕ) → j < suc k → IsAtEnd m (sizes_of m n) (Items.ToAnswer p) j s → ⊥
  none_before zero less (inl answered) = answered
  none_before zero less (inr halted) = more_goes_on m (sizes_of m n) s p first at more halted
  none_before (suc zero) less (inl answered) = silent m (sizes_of m n) s p first at (begins_quietly m (sizes_of m n) s.cell s.processes p first first.label is) answered
  none_before (suc (suc i)) less (inl answered) =
      let t = after m lawful fits ready Effect n limit opening acts s p first (suc i) in
      let o = reached.before (suc i) (omega arith) (omega (arith, less)) in
      silent m (sizes_of m n) t p o.0.process o.0.at (quiet m (sizes_of m n) o.0.process.label t.cell t.processes p o.0.process o.0.is_open o.1) answered
  none_before (suc i) less (inr halted) = let o = opened_at i less in open_goes_on m (sizes_of m n) (after m lawful fits ready Effect n limit opening acts s p first (suc i)) p o.process o.at o.is_open halted

  pub item_stands : StandsFor m (sizes_of m n) (Items.ToAnswer p) (suc k) s
  item_stands = record {
    ends = inl (answers_at m (sizes_of m n) (after m lawful fits ready Effect n limit opening acts s p first k) p reached.opened.process reached.opened.at reached.gives);
    least = none_before;
  }
