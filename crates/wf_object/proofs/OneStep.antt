-- A step of the code, put together from its parts.
use Rattle.std.proofs.Common.{◌≡◌, ℕ, zero, suc, Bool, true, false, arith, ◌+◌, ◌<◌, List, [], ◌∷◌, ◌++◌, length, set, get_or, sym, ap, refl, ◌∙◌}
use Rattle.std.specs.Prelude.{Option, Some, None, slice_get, if◌then◌else◌}
use Rattle.std.proofs.lemmas.List.{length_push}
use Rattle.std.proofs.lemmas.Option.{slice_get_read, slice_get-get_or}
use Rattle.ll_cell.specs.Cell.{Cell, own_of}
use Rattle.ob_interface.specs.Call.{ObjectCall, Reply}
use Rattle.wf_history.specs.declared.event.CallId.{CallId}
use Rattle.wf_history.specs.History.{Event, Applied}
use Rattle.wf_table.specs.declared.process.Label.TheVariants.{Commit}
use Rattle.wf_table.specs.declared.process.Sizes.{Sizes}
use Rattle.wf_table.specs.Meaning.{Meaning}
use Rattle.wf_table.specs.StepTable.{Process, cell_after, row}
use Rattle.wf_table.specs.declared.process.Label.{Label}
use Rattle.wf_table.specs.declared.spent.Spent.{Spent}
use Rattle.wf_table.specs.Spent.{spent_after, has_more}
use Rattle.wf_object.specs.Shown.{spent_by}
use Rattle.wf_table.specs.Object.{State, Records, Answer, GoesOn, noted, event_at, step_of, step_by, answer_by, answer_of, label_by, label_of, seen_by, script_by, script_of}

-- what was read at a place stands there
pub stands : {X : Type 0} (xs : List X) (n p : ℕ) (x : X) → length xs ≡ n → p < n → x ≡ get_or xs p x → slice_get xs p ≡ Some x
stands xs n p x e lt read = slice_get_read xs n p x (sym e) lt read

-- what stands there, if anything is asked for past the end
pub stands_by : {X : Type 0} (xs : List X) (n p : ℕ) (d : X) → length xs ≡ n → p < n → slice_get xs p ≡ Some (get_or xs p d)
stands_by xs n p d e lt = slice_get-get_or xs p d (omega (arith, e, lt))

pub some_at : {X : Type 0} (xs : List X) (p : ℕ) → p < length xs → (x : X) × (slice_get xs p ≡ Some x)
some_at [] p lt = absurd (omega arith)
some_at (x ∷ xs) zero lt = (x, refl)
some_at (x ∷ xs) (suc p) lt = some_at xs p (omega arith)

-- a COMMIT answers nothing
pub commit_goes_on : (b : Bool) (ids : List CallId) → GoesOn ≡ answer_by Commit (if b then Some (Applied ids) else None)
commit_goes_on true ids = refl
commit_goes_on false ids = refl

module _ {Run : Type 0} (m : Meaning Run) (z : Sizes) (s : State Run) (p : ℕ) (q : Process Run) (at : slice_get s.processes p ≡ Some q) where
  pub step_is : (cell : Cell) (after : Process Run) (records : Records) → cell ≡ cell_after s.cell p (row q.label m z s.cell p q).change → after ≡ (row q.label m z s.cell p q).process → records ≡ noted s.records p q.label (own_of s.cell p) (event_at q.label m z s.cell s.processes p q) → ◌≡◌ {A = State Run} (record { cell = cell; processes = set s.processes p after; records = records }) (step_of m z s p)
  step_is cell after records a b d =
      ap (λ (k : Cell). record { cell = k; processes = set s.processes p after; records = records }) a
      ∙ ap (λ (k : Process Run). record { cell = cell_after s.cell p (row q.label m z s.cell p q).change; processes = set s.processes p k; records = records }) b
      ∙ ap (λ (k : Records). record { cell = cell_after s.cell p (row q.label m z s.cell p q).change; processes = set s.processes p (row q.label m z s.cell p q).process; records = k }) d
      ∙ sym (ap (step_by m z s p) at)

  pub answer_is : (out : Answer) (event : Option (Event ObjectCall Reply)) → out ≡ answer_by q.label event → event ≡ event_at q.label m z s.cell s.processes p q → out ≡ answer_of m z s p
  answer_is out event a b = a ∙ ap (answer_by q.label) b ∙ sym (ap (λ (o : Option (Process Run)). answer_by (label_by o) (seen_by m z s.cell s.processes p o)) at)

  pub label_is : q.label ≡ label_of s p
  label_is = sym (ap label_by at)

  -- the number of a call that was put at the end of the script
  pub number_is : (number : ℕ) (calls : List ObjectCall) (call : ObjectCall) → number ≡ length calls → calls ≡ q.calls ++ call ∷ [] → number ≡ length (script_of s p) + 1
  number_is number calls call a b = a ∙ ap length b ∙ length_push q.calls call ∙ ap (λ (cs : List ObjectCall). length cs + 1) (sym (ap script_by at))

  pub noted_is : (records : Records) (ps : List (Process Run)) (y : Process Run) → records ≡ noted s.records p y.label (own_of s.cell p) (event_at y.label m z s.cell ps p y) → ps ≡ s.processes → y ≡ q → records ≡ noted s.records p q.label (own_of s.cell p) (event_at q.label m z s.cell s.processes p q)
  noted_is records ps y a b d =
      a ∙ ap (λ (k : List (Process Run)). noted s.records p y.label (own_of s.cell p) (event_at y.label m z s.cell k p y)) b
      ∙ ap (λ (k : Process Run). noted s.records p k.label (own_of s.cell p) (event_at k.label m z s.cell s.processes p k)) d

  -- the same, by a label that it is known to have
  module _ (l : Label) (e : q.label ≡ l) where
    pub step_at : (cell : Cell) (after : Process Run) (records : Records) → cell ≡ cell_after s.cell p (row l m z s.cell p q).change → after ≡ (row l m z s.cell p q).process → records ≡ noted s.records p l (own_of s.cell p) (event_at l m z s.cell s.processes p q) → ◌≡◌ {A = State Run} (record { cell = cell; processes = set s.processes p after; records = records }) (step_of m z s p)
    step_at cell after records a b d =
        step_is cell after records
        (a ∙ ap (λ (k : Label). cell_after s.cell p (row k m z s.cell p q).change) (sym e))
        (b ∙ ap (λ (k : Label). (row k m z s.cell p q).process) (sym e))
        (d ∙ ap (λ (k : Label). noted s.records p k (own_of s.cell p) (event_at k m z s.cell s.processes p q)) (sym e))

    pub spent_at : (x after : Spent) → after ≡ spent_after l (has_more q) x → after ≡ spent_by (slice_get s.processes p) x
    spent_at x after a =
        a ∙ ap (λ (k : Label). spent_after k (has_more q) x) (sym e)
        ∙ sym (ap (λ (o : Option (Process Run)). spent_by o x) at)

    pub answer_at : (out : Answer) → out ≡ answer_by l (event_at l m z s.cell s.processes p q) → out ≡ answer_of m z s p
    answer_at out a = answer_is out (event_at q.label m z s.cell s.processes p q) (a ∙ ap (λ (k : Label). answer_by k (event_at k m z s.cell s.processes p q)) (sym e)) refl
