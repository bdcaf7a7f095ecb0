-- The call that a linked process serves behind FETCH: it is open, not in the order, and the list is its whole announcement.
use Rattle.std.proofs.Common.{◌≡◌, ◌≢◌, ℕ, ◌-◌, Bool, true, false, List, refl, sym, ap, ◌∙◌, arith, cond, subst}
use Rattle.std.specs.Prelude.{ℤ, pos}
use Rattle.std.specs.List.{Contains}
use Rattle.std.proofs.lemmas.List.{ext_get_or}
use Rattle.ll_cell.specs.Cell.{is_linked}
use Rattle.ob_interface.specs.Call.{ObjectCall}
use Rattle.wf_table.specs.declared.process.Label.{Label}
use Rattle.wf_table.specs.declared.process.Label.TheVariants.{Next, Post, Check2}
use Rattle.wf_table.specs.declared.process.Sizes.{Sizes}
use Rattle.wf_table.specs.Meaning.{Meaning}
use Rattle.wf_table.specs.Law.{Effects, IsLawful}
use Rattle.wf_table.specs.StepTable.{Process, open_call, announced_toggle}
use Rattle.wf_table.specs.Object.{State}
use Rattle.wf_table.specs.Labels.{at_next, fetching}
use Rattle.wf_table.specs.Ranges.{index_in}
use Rattle.wf_table.specs.Announcements.{words_laid}
use Rattle.wf_table.specs.Sound.{IsSound}
use Rattle.wf_table.specs.Helping.{IsPending, Settled, Serving, IsHelping}
use Rattle.wf_table.specs.HelpAndOrder.{phase, lost_rounds, flips_at, standing, own_toggles, IsCommitted}
use Rattle.wf_table.specs.Fetched.{ServesCall}
use Rattle.wf_table.proofs.Seen.{served_pending}
use Rattle.wf_table.proofs.HelpAndOrderSteps.{flips_is}
use Rattle.wf_table.proofs.Numbers.{order_below}
use Rattle.wf_table.proofs.KeepsOrder.{open_announced}

-- the announcement of an announced open call is whole
trying_laid : (z : Sizes) (l : Label) (i : ℕ) → phase l ≢ Settled → words_laid z l i ≡ z.arguments
trying_laid z Next i d = absurd (d refl)
trying_laid z Post i d = absurd (d refl)
trying_laid z l i d = refl

trying_open : (l : Label) → phase l ≢ Settled → at_next l ≡ false
trying_open Next d = absurd (d refl)
trying_open l d = refl

module _ {Run : Type 0} (m : Meaning Run) (lawful : List ℤ → Type 0) (fits : ObjectCall → Type 0) (ready : Run → Type 0) (Effect : Effects) (law : IsLawful m lawful fits ready Effect) (z : Sizes) (opening : List ℤ) (s : State Run) (p : ℕ) (q o : Process Run) (sound : IsSound m lawful fits ready z opening s) (committed : IsCommitted z s) (h : ServesCall s p q o) where
  index : index_in z Check2 q.registers
  index = subst (λ (l : Label). index_in z l q.registers) h.label (sound.in_range p q h.here).index

  mine : IsHelping z.processes (standing z s.cell s.processes s.records) p true (own_toggles z s.cell p) Serving q.registers.j (q.registers.round - 1)
  mine =
      subst (λ (b : Bool). IsHelping z.processes (standing z s.cell s.processes s.records) p b (own_toggles z s.cell p) Serving q.registers.j (cond b (q.registers.round - 1) q.registers.round)) h.linked
      (subst (λ (l : Label). IsHelping z.processes (standing z s.cell s.processes s.records) p (is_linked s.cell p) (own_toggles z s.cell p) (phase l) q.registers.j (lost_rounds l (is_linked s.cell p) q.registers.round)) h.label (committed.helpful.helping p q h.here))

  pending : IsPending (standing z s.cell s.processes s.records) q.registers.j
  pending = served_pending z.processes (standing z s.cell s.processes s.records) committed.helpful.counted p (own_toggles z s.cell p) Serving q.registers.j (q.registers.round - 1) mine refl index.1

  trying : phase o.label ≢ Settled
  trying e = (committed.helpful.helping q.registers.j o h.there).settled e pending

  pub served_open : at_next o.label ≡ false
  served_open = trying_open o.label trying

  pub served_wanted : own_toggles z s.cell p q.registers.j ≢ announced_toggle z s.cell q.registers.j
  served_wanted = mine.wanted_help refl refl

  pub served_new : ¬ Contains s.records.order (record { process = q.registers.j; number = o.begun })
  served_new within =
      let below = order_below s.records.order (record { process = q.registers.j; number = o.begun }) (committed.ordered.in_turn q.registers.j) within in
      let all : flips_at s.processes q.registers.j ≡ o.begun = flips_is s.processes q.registers.j o h.there ∙ ap (λ (b : Bool). cond b (o.begun - 1) o.begun) (open_announced o.label trying) in
      absurd (omega (arith, below.1, all, pending))

  pub served_whole : q.list ≡ m.lay (open_call o)
  served_whole =
      let range = sound.in_range p q h.here in
      let other = sound.in_range q.registers.j o h.there in
      let began = other.opened served_open in
      let laid = trying_laid z o.label o.registers.i trying in
      let fit : fits (open_call o) = (sound.calls_fit q.registers.j o h.there).fit (o.begun - 1) (omega (arith, began, other.begun)) in
      ext_get_or (pos 0) q.list (m.lay (open_call o)) (range.list ∙ sound.arguments ∙ sym (law.length_lay (open_call o) fit))
      (λ i lt. (committed.fetched p q h.here).words (ap fetching h.label) h.linked i (omega (arith, lt, range.list, index.0))
      ∙ (sound.laid_words q.registers.j o h.there).said i (omega (arith, lt, range.list, laid)))
