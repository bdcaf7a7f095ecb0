-- Every step keeps time order.
use Rattle.std.proofs.Common.{◌≡◌, ℕ, ◌+◌, ◌-◌, ◌<◌, ◌≤◌, Bool, true, false, List, length, refl, ap, ◌∙◌, arith, cond, inl, inr}
use Rattle.std.specs.Prelude.{Option, Some, None, slice_get, nat_lt}
use Rattle.std.specs.List.{Contains}
use Rattle.std.proofs.lemmas.Bool.{cases_lt}
use Rattle.std.proofs.lemmas.Option.{slice_get_within}
use Rattle.ll_cell.specs.Cell.{Cell, is_linked}
use Rattle.ob_interface.specs.Call.{ObjectCall, Reply}
use Rattle.wf_history.specs.History.{Event, Begin, Applied}
use Rattle.wf_table.specs.declared.process.Label.{Label}
use Rattle.wf_table.specs.declared.process.Label.TheVariants.{Next, Commit, Give}
use Rattle.wf_table.specs.declared.process.Sizes.{Sizes}
use Rattle.wf_table.specs.Meaning.{Meaning}
use Rattle.wf_table.specs.StepTable.{Process, call_at, open_call}
use Rattle.wf_table.specs.Object.{Records, event_at, history_after, order_after}
use Rattle.wf_table.specs.Labels.{at_next, unannounced}
use Rattle.wf_table.specs.HelpAndOrder.{phase, flips_at, IsFounded, IsHelpful, IsOrdered}
use Rattle.wf_table.specs.Order.{applied_count, IsTimed}
use Rattle.wf_table.proofs.Numbers.{in_order, order_below}
use Rattle.wf_table.proofs.Timed.{time_begins, time_ends, time_applies}
use Rattle.wf_table.proofs.Applied.{new_ids}
use Rattle.wf_table.proofs.HelpAndOrderSteps.{flips_is}

module _ {Run : Type 0} (m : Meaning Run) (z : Sizes) (c : Cell) (ps : List (Process Run)) (r : Records) (p : ℕ) (q : Process Run) where
  -- the calls announced at NEXT and at GIVE are those that began
  all_announced : slice_get ps p ≡ Some q → unannounced q.label ≡ false → flips_at ps p ≡ q.begun
  all_announced at e = flips_is ps p q at ∙ ap (λ (b : Bool). cond b (q.begun - 1) q.begun) e

  -- the next call is not in the order
  next_is_new : slice_get ps p ≡ Some q → q.label ≡ Next → p < z.processes → IsHelpful z c ps r → IsOrdered z c ps r → ¬ Contains r.order (record { process = p; number = q.begun + 1 })
  next_is_new at is lt help h within = absurd (omega (arith, (order_below r.order (record { process = p; number = q.begun + 1 }) (h.in_turn p) within).1, help.counted.begun p lt, all_announced at (ap unannounced is)))

  -- the call that ends is in the order
  ended_is_in : slice_get ps p ≡ Some q → q.label ≡ Give → 0 < q.begun → IsHelpful z c ps r → IsOrdered z c ps r → Contains r.order (record { process = p; number = q.begun })
  ended_is_in at is began help h =
      let all = all_announced at (ap unannounced is) in
      let most : q.begun ≤ applied_count r.order p = elim (cases_lt (applied_count r.order p) (flips_at ps p)) [
        | inl pending ↦ absurd ((help.helping p q at).settled (ap phase is) pending)
        | inr le ↦ omega (arith, le, all)
      ] in
      in_order r.order p q.begun (h.in_turn p) began most

  abbrev Timed : Option (Event ObjectCall Reply) → Type 0
  Timed event = IsTimed (history_after r.history event) (order_after r.order event)

  events : (l : Label) → slice_get ps p ≡ Some q → q.label ≡ l → IsFounded z c ps r → IsHelpful z c ps r → IsOrdered z c ps r → IsTimed r.history r.order → Timed (event_at l m z c ps p q)
  events Next at is founded help h timed =
      let lt : p < z.processes = omega (arith, slice_get_within ps p q at, founded.count) in
      elim (nat_lt q.begun (length q.calls)) as (λ b. Timed (cond b (Some (Begin (record { process = p; number = q.begun + 1 }) (call_at q q.begun))) None)) [
        | true ↦ time_begins r.history r.order timed (record { process = p; number = q.begun + 1 }) (call_at q q.begun) (next_is_new at is lt help h)
        | false ↦ timed
      ]
  events Commit at is founded help h timed = elim (is_linked c p) as (λ b. Timed (cond b (Some (Applied (new_ids z c ps r p))) None)) [
    | true ↦ time_applies r.history r.order timed (new_ids z c ps r p)
    | false ↦ timed
  ]
  events Give at is founded help h timed =
      let began = (founded.in_range p q at).opened (ap at_next is) in
      time_ends r.history r.order timed (record { process = p; number = q.begun }) (m.reply (open_call q) q.replies) (ended_is_in at is began help h)
  events l at is founded help h timed = timed

  -- every step of p keeps it
  pub keeps_time : slice_get ps p ≡ Some q → IsFounded z c ps r → IsHelpful z c ps r → IsOrdered z c ps r → IsTimed r.history r.order → Timed (event_at q.label m z c ps p q)
  keeps_time at founded help h timed = events q.label at refl founded help h timed
