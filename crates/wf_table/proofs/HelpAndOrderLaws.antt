-- What the invariants say of calls: when a call is in the order, and what the order is.
use Rattle.std.proofs.Common.{◌≡◌, ℕ, ◌-◌, ◌<◌, ◌≤◌, Bool, true, false, List, ◌++◌, length, get_or, set, drop, sym, ap, ◌∙◌, arith, cond, inl, inr, subst}
use Rattle.std.specs.Prelude.{◌⊎◌, Option, Some, None, slice_get}
use Rattle.std.specs.List.{Contains}
use Rattle.std.proofs.lemmas.Bool.{cases_lt}
use Rattle.std.proofs.lemmas.Option.{slice_get_within}
use Rattle.ll_cell.specs.Cell.{Cell, is_linked, exchanged}
use Rattle.wf_history.specs.declared.event.CallId.{CallId}
use Rattle.wf_history.specs.History.{Applied}
use Rattle.wf_history.specs.Legal.{NoRepeats}
use Rattle.wf_table.specs.declared.process.Label.{Label}
use Rattle.wf_table.specs.declared.process.Label.TheVariants.{Try, Commit, Read}
use Rattle.wf_table.specs.declared.process.Sizes.{Sizes}
use Rattle.wf_table.specs.Meaning.{Meaning}
use Rattle.wf_table.specs.StepTable.{Process, to}
use Rattle.wf_table.specs.Object.{State, Records, event_at, order_after, step_by, label_by}
use Rattle.wf_table.specs.Labels.{unannounced, at_next}
use Rattle.wf_table.specs.Helping.{IsPending, IsNewer}
use Rattle.wf_table.specs.HelpAndOrder.{lost_rounds, flips_at, announced_call, standing, own_toggles, IsFounded, IsHelpful, IsOrdered, IsCommitted}
use Rattle.wf_table.specs.Order.{applied_count, exchanges_in}
use Rattle.wf_table.proofs.Exchange.{asked_is_given}
use Rattle.wf_table.proofs.HelpAndOrderSteps.{flips_is}
use Rattle.wf_table.proofs.Applied.{new_ids, note, exchange_step}
use Rattle.wf_table.proofs.KeepsHelp.{At, exchanger, all_looked_at}
use Rattle.wf_table.proofs.KeepsOrder.{exchanging}
use Rattle.wf_table.proofs.Numbers.{in_order, order_below, no_repeats}

module _ {Run : Type 0} (z : Sizes) where
  -- an announced call that is not pending is in the order
  pub made : (c : Cell) (ps : List (Process Run)) (r : Records) (k : ℕ) → IsOrdered z c ps r → 0 < flips_at ps k → ¬ IsPending (standing z c ps r) k → Contains r.order (announced_call ps k)
  made c ps r k h some none =
      let most : flips_at ps k ≤ applied_count r.order k = elim (cases_lt (applied_count r.order k) (flips_at ps k)) [ inl pending ↦ absurd (none pending) | inr le ↦ le ] in
      in_order r.order k (flips_at ps k) (h.in_turn k) some most

  pub after_two : (c : Cell) (ps : List (Process Run)) (r : Records) (k : ℕ) → IsOrdered z c ps r → k < z.processes → 0 < flips_at ps k → 1 < exchanges_in (drop (get_or r.flip_marks k 0) r.history) → Contains r.order (announced_call ps k)
  after_two c ps r k h lt some two = made c ps r k h some (λ pending. absurd (omega (arith, h.one_passed k lt pending, two)))

  pub announced_below : (c : Cell) (ps : List (Process Run)) (r : Records) (id : CallId) → IsHelpful z c ps r → IsOrdered z c ps r → Contains r.order id → (id.process < z.processes) × (0 < id.number) × (id.number ≤ flips_at ps id.process)
  announced_below c ps r id help h within =
      let below = order_below r.order id (h.in_turn id.process) within in
      elim (cases_lt id.process z.processes) [
        | inl lt ↦ (lt, below.0, omega (arith, below.1, help.counted.begun id.process lt))
        | inr le ↦ absurd (omega (arith, below.0, below.1, ap length (h.of_object id.process le)))
      ]

  pub order_once : (c : Cell) (ps : List (Process Run)) (r : Records) → IsOrdered z c ps r → NoRepeats r.order
  order_once c ps r h = no_repeats r.order (λ k. (1, h.in_turn k))

module _ {Run : Type 0} (m : Meaning Run) (z : Sizes) where
  -- the order behind an exchange
  order_is : (c : Cell) (ps : List (Process Run)) (r : Records) (p : ℕ) (q : Process Run) → q.label ≡ Commit → is_linked c p ≡ true → order_after r.order (event_at q.label m z c ps p q) ≡ r.order ++ new_ids z c ps r p
  order_is c ps r p q is linked =
      ap (λ (l : Label). order_after r.order (event_at l m z c ps p q)) is
      ∙ ap (λ (b : Bool). order_after r.order (cond b (Some (Applied (new_ids z c ps r p))) None)) linked

  -- an exchange gives what is asked
  gives : (c : Cell) (ps : List (Process Run)) (r : Records) (p k : ℕ) (q : Process Run) → slice_get ps p ≡ Some q → q.label ≡ Commit → is_linked c p ≡ true → IsFounded z c ps r → IsHelpful z c ps r → IsOrdered z c ps r → k < z.processes → 0 < flips_at ps k → (k ≡ p) ⊎ IsNewer (standing z c ps r) k → Contains (r.order ++ new_ids z c ps r p) (announced_call ps k)
  gives c ps r p k q at is linked base help h lt some asked =
      let own = subst (At m z c ps r p q) is (help.helping p q at) in
      let mine = exchanger m z c ps r p q linked own in
      let all = all_looked_at m z c ps r p q at is base in
      let exchange = exchange_step z c ps r p q at is base in
      let new = standing z (exchanged c p) (set ps p (to Read q)) (note z c ps r p) in
      let none : ¬ IsPending new k = asked_is_given z.processes (standing z c ps r) new help.counted p (own_toggles z c p) q.registers.j (q.registers.round - 1) mine all exchange k lt asked in
      let most : flips_at ps k ≤ applied_count (r.order ++ new_ids z c ps r p) k = elim (cases_lt (new.applied k) (new.flips k)) [ inl pending ↦ absurd (none pending) | inr le ↦ omega (arith, le, exchange.flips k) ] in
      in_order (r.order ++ new_ids z c ps r p) k (flips_at ps k) ((exchanging m z c ps r p q at is linked base own help h).in_turn k) some most

  pub exchange_gives : (s : State Run) (p k : ℕ) (o : Option (Process Run)) → slice_get s.processes p ≡ o → IsFounded z s.cell s.processes s.records → IsCommitted z s → label_by o ≡ Commit → is_linked s.cell p ≡ true → k < z.processes → 0 < flips_at s.processes k → (k ≡ p) ⊎ IsNewer (standing z s.cell s.processes s.records) k → Contains (step_by m z s p o).records.order (announced_call s.processes k)
  exchange_gives s p k None at base h is linked lt some asked = absurd (cc)
  exchange_gives s p k (Some q) at base h is linked lt some asked =
      subst (λ (order : List CallId). Contains order (announced_call s.processes k)) (sym (order_is s.cell s.processes s.records p q is linked))
      (gives s.cell s.processes s.records p k q at is linked base h.helpful h.ordered lt some asked)

  open_flips : (s : State Run) (p : ℕ) (q : Process Run) → slice_get s.processes p ≡ Some q → IsFounded z s.cell s.processes s.records → at_next q.label ≡ false → unannounced q.label ≡ false → 0 < flips_at s.processes p
  open_flips s p q at base out said =
      let began = (base.in_range p q at).opened out in
      omega (arith, began, flips_is s.processes p q at ∙ ap (λ (b : Bool). cond b (q.begun - 1) q.begun) said)

  -- at COMMIT a call is announced
  pub announced : (s : State Run) (p : ℕ) (o : Option (Process Run)) → slice_get s.processes p ≡ o → IsFounded z s.cell s.processes s.records → label_by o ≡ Commit → (p < z.processes) × (0 < flips_at s.processes p)
  announced s p None at base is = absurd (cc)
  announced s p (Some q) at base is = (omega (arith, slice_get_within s.processes p q at, base.count), open_flips s p q at base (ap at_next is) (ap unannounced is))

  -- where two rounds are lost the call is in the order
  pub two_lost : (s : State Run) (p : ℕ) (q : Process Run) → slice_get s.processes p ≡ Some q → IsFounded z s.cell s.processes s.records → IsCommitted z s → q.label ≡ Try → q.registers.round ≡ 2 → Contains s.records.order (announced_call s.processes p)
  two_lost s p q at base h is two =
      let c = s.cell in
      let own = h.helpful.helping p q at in
      let lost : lost_rounds q.label (is_linked c p) q.registers.round ≡ 2 = ap (λ (l : Label). lost_rounds l (is_linked c p) q.registers.round) is ∙ two in
      made z c s.processes s.records p h.ordered (open_flips s p q at base (ap at_next is) (ap unannounced is)) (own.lost_two (omega (arith, lost)))
