-- Steps of a process that is halted: they change nothing but the schedule.
use Rattle.std.proofs.Common.{◌≡◌, ℕ, zero, suc, Bool, true, false, List, set, get_or, refl, sym, ap, ◌∙◌, subst}
use Rattle.std.specs.Prelude.{ℤ, ◌&&◌, not, Some, slice_get}
use Rattle.std.proofs.lemmas.List.{set-get_or}
use Rattle.ll_cell.specs.Cell.{own_of}
use Rattle.ll_cell.specs.declared.form.Form.{Form}
use Rattle.ob_interface.specs.Call.{ObjectCall}
use Rattle.wf_table.specs.declared.process.Label.{Label}
use Rattle.wf_table.specs.declared.process.Label.TheVariants.{Next}
use Rattle.wf_table.specs.declared.process.Sizes.{Sizes}
use Rattle.wf_table.specs.Labels.{at_next}
use Rattle.wf_table.specs.Meaning.{Meaning}
use Rattle.wf_table.specs.Law.{Effects, IsLawful}
use Rattle.wf_table.specs.StepTable.{Process, cell_after, row}
use Rattle.wf_table.specs.Object.{State, event_at, noted, step_by, step_of}
use Rattle.wf_table.specs.Schedule.{counted}
use Rattle.wf_table.proofs.Stuck.{set_same}
use Rattle.wf_table.specs.declared.spent.Spent.{Spent}
use Rattle.wf_table.specs.Spent.{has_more, spent_after, unspent}
use Rattle.wf_table.specs.Counted.{count_by, spent_by_step}
use Rattle.wf_object.specs.Halted.{is_halted_by}
use Rattle.wf_object.specs.InARow.{after_steps, spent_after_steps}
use Rattle.wf_object.specs.Kept.{IsKept}
use Rattle.wf_object.proofs.InARow.{kept_after}
use Rattle.wf_records.specs.Times.{counted_times}

next_by : (l : Label) (b : Bool) → (at_next l && not b) ≡ true → l ≡ Next
next_by Next b h = refl
next_by _ b h = absurd (cc)

none_by : (l : Label) (b : Bool) → (at_next l && not b) ≡ true → b ≡ false
none_by Next true h = absurd (cc)
none_by l false h = refl
none_by _ true h = absurd (cc)

module _ {Run : Type 0} where
  -- the state with so many turns more in the schedule
  abbrev pub rested : ℕ → ℕ → State Run → State Run
  rested p k s = record s { records = record s.records { schedule = counted_times s.records.schedule p k } }

  module _ (m : Meaning Run) (z : Sizes) (p : ℕ) (q : Process Run) (halted : is_halted_by (Some q) ≡ true) where
    next : q.label ≡ Next
    next = next_by q.label (has_more q) halted

    none_left : has_more q ≡ false
    none_left = none_by q.label (has_more q) halted

    module _ (s : State Run) (at : slice_get s.processes p ≡ Some q) where
      at_label : (l : Label) → l ≡ Next → ◌≡◌ {A = State Run} (record { cell = cell_after s.cell p (row l m z s.cell p q).change; processes = set s.processes p (row l m z s.cell p q).process; records = noted s.records p l (own_of s.cell p) (event_at l m z s.cell s.processes p q) }) (rested p 1 s)
      at_label l is = subst (λ (k : Label). ◌≡◌ {A = State Run} (record { cell = cell_after s.cell p (row k m z s.cell p q).change; processes = set s.processes p (row k m z s.cell p q).process; records = noted s.records p k (own_of s.cell p) (event_at k m z s.cell s.processes p q) }) (rested p 1 s)) (sym is) (rw none_left (ap (λ (ps : List (Process Run)). record s { processes = ps; records = record s.records { schedule = counted s.records.schedule p } }) (set_same s.processes p q at)))

      one_step : step_of m z s p ≡ rested p 1 s
      one_step = ap (step_by m z s p) at ∙ at_label q.label next

    pub rests : (s : State Run) → slice_get s.processes p ≡ Some q → (k : ℕ) → after_steps m z p k s ≡ rested p k s
    rests s at zero = refl
    rests s at (suc k) = ap (λ (t : State Run). step_of m z t p) (rests s at k) ∙ one_step (rested p k s) at

    unspent_at : (l : Label) (x : Spent) → l ≡ Next → spent_after l (has_more q) x ≡ x
    unspent_at l x is = subst (λ (k : Label). spent_after k (has_more q) x ≡ x) (sym is) (ap (λ (b : Bool). spent_after Next b x) none_left)

    spends_nothing : (s : State Run) (xs : List Spent) → slice_get s.processes p ≡ Some q → spent_by_step s xs p ≡ xs
    spends_nothing s xs at =
        ap (count_by spent_after unspent xs p) at
        ∙ ap (set xs p) (unspent_at q.label (get_or xs p unspent) next)
        ∙ set-get_or xs p unspent

    pub rests_free : (s : State Run) (xs : List Spent) → slice_get s.processes p ≡ Some q → (k : ℕ) → spent_after_steps m z p k s xs ≡ xs
    rests_free s xs at zero = refl
    rests_free s xs at (suc k) =
        ap (λ (ys : List Spent). spent_by_step (after_steps m z p k s) ys p) (rests_free s xs at k)
        ∙ ap (λ (t : State Run). spent_by_step t xs p) (rests s at k)
        ∙ spends_nothing (rested p k s) xs at

module _ {Run : Type 0} (m : Meaning Run) (lawful : List ℤ → Type 0) (fits : ObjectCall → Type 0) (ready : Run → Type 0) (Effect : Effects) (law : IsLawful m lawful fits ready Effect) (z : Sizes) (opening : List ℤ) (s : State Run) (p : ℕ) (q : Process Run) (at : slice_get s.processes p ≡ Some q) (halted : is_halted_by (Some q) ≡ true) (spent : List Spent) (form : Form) where
  pub rests_kept : (k : ℕ) → IsKept m lawful fits ready z opening s spent form → IsKept m lawful fits ready z opening (rested p k s) spent form
  rests_kept k h =
      subst (λ (t : State Run). IsKept m lawful fits ready z opening t spent form) (rests m z p q halted s at k)
      (subst (λ (xs : List Spent). IsKept m lawful fits ready z opening (after_steps m z p k s) xs form) (rests_free m z p q halted s spent at k)
      (kept_after m lawful fits ready Effect law z opening p form k s spent h))
