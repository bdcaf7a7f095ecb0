-- A step that shows nothing.
use Rattle.std.proofs.Common.{◌≡◌, ℕ, Bool, true, false, List, ap, sym, refl, ◌∙◌}
use Rattle.std.specs.Prelude.{Option, Some, None, slice_get}
use Rattle.ll_cell.specs.Cell.{Cell, own_of}
use Rattle.wf_table.specs.declared.process.Label.{Label}
use Rattle.wf_table.specs.declared.process.Label.TheVariants.{Next, Flip, Commit, Give}
use Rattle.wf_table.specs.declared.process.Sizes.{Sizes}
use Rattle.wf_table.specs.Meaning.{Meaning}
use Rattle.wf_table.specs.StepTable.{Process}
use Rattle.wf_table.specs.Object.{State, Records, GoesOn, noted, event_at, answer_by, answer_of, label_by, seen_by}
use Rattle.wf_table.specs.declared.spent.Spent.{Spent}
use Rattle.wf_table.specs.Spent.{spent_after}
use Rattle.wf_object.specs.Quiet.{is_quiet, is_unmarked}

pub unmarked_quiet : (l : Label) → is_unmarked l ≡ true → is_quiet l ≡ true
unmarked_quiet Next h = absurd (cc)
unmarked_quiet Flip h = absurd (cc)
unmarked_quiet Commit h = absurd (cc)
unmarked_quiet Give h = absurd (cc)
unmarked_quiet _ h = refl

-- three labels show something
pub only_commit : (l : Label) → is_quiet l ≡ false → (l ≡ Next → ⊥) → (l ≡ Give → ⊥) → l ≡ Commit
only_commit Next h a b = absurd (a refl)
only_commit Commit h a b = refl
only_commit Give h a b = absurd (b refl)
only_commit _ h a b = absurd (cc)

-- it counts the same whether or not the script has more calls
pub counts_same : (l : Label) (b : Bool) (x : Spent) → is_quiet l ≡ true → spent_after l false x ≡ spent_after l b x
counts_same Next b x h = absurd (cc)
counts_same _ b x h = refl

module _ {Run : Type 0} (m : Meaning Run) (z : Sizes) where
  no_event : (l : Label) (c : Cell) (ps : List (Process Run)) (p : ℕ) (q : Process Run) → is_quiet l ≡ true → event_at l m z c ps p q ≡ None
  no_event Next c ps p q h = absurd (cc)
  no_event Commit c ps p q h = absurd (cc)
  no_event Give c ps p q h = absurd (cc)
  no_event _ c ps p q h = refl

  goes_on : (l : Label) → is_quiet l ≡ true → answer_by l None ≡ GoesOn
  goes_on Next h = absurd (cc)
  goes_on _ h = refl

  -- what is noted of it
  pub noted_quiet : (r : Records) (c : Cell) (ps : List (Process Run)) (p : ℕ) (q : Process Run) → is_quiet q.label ≡ true → noted r p q.label 0 None ≡ noted r p q.label (own_of c p) (event_at q.label m z c ps p q)
  noted_quiet r c ps p q h = ap (noted r p q.label (own_of c p)) (sym (no_event q.label c ps p q h))

  -- what it answers
  pub answers_quiet : (s : State Run) (p : ℕ) (q : Process Run) → slice_get s.processes p ≡ Some q → is_quiet q.label ≡ true → answer_of m z s p ≡ GoesOn
  answers_quiet s p q at h =
      ap (λ (o : Option (Process Run)). answer_by (label_by o) (seen_by m z s.cell s.processes p o)) at
      ∙ ap (answer_by q.label) (no_event q.label s.cell s.processes p q h)
      ∙ goes_on q.label h
