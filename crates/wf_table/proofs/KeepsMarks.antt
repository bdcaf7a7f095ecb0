-- One order and the marks: the order is what the history applied, and the root is the block that became root last.
use Rattle.std.proofs.Common.{◌≡◌, ℕ, ◌+◌, ◌<◌, ◌≤◌, Bool, true, false, List, [], ◌∷◌, ◌++◌, length, set, get_or, refl, sym, ap, ◌∙◌, arith, cond, append_assoc}
use Rattle.std.specs.Prelude.{Some, None, nat_lt}
use Rattle.std.proofs.lemmas.List.{append-nil, length-set, length_push, get_or-set_same, take_all, take-append-le}
use Rattle.ll_cell.specs.Cell.{Cell, is_linked, own_of, block_of, exchanged}
use Rattle.ob_interface.specs.Call.{ObjectCall, Reply}
use Rattle.wf_history.specs.declared.event.CallId.{CallId}
use Rattle.wf_history.specs.History.{Event, Begin, Applied, End}
use Rattle.wf_table.specs.declared.process.Label.{Label}
use Rattle.wf_table.specs.declared.process.Label.TheVariants.{Next, Commit, Give}
use Rattle.wf_table.specs.declared.process.Sizes.{Sizes}
use Rattle.wf_table.specs.Meaning.{Meaning}
use Rattle.wf_table.specs.StepTable.{Process, row, cell_after, call_at, own_block}
use Rattle.wf_table.specs.Object.{Records, noted, event_at, order_after, root_marks_after, applied_ids, begun_of}
use Rattle.wf_table.specs.Labels.{at_flip}
use Rattle.wf_table.specs.Marks.{IsMarked, applied_in}
use Rattle.wf_table.proofs.Words.{set_or}

abbrev Events : Type 0
Events = List (Event ObjectCall Reply)

applied_in-push : (events : Events) (event : Event ObjectCall Reply) → applied_in (events ++ event ∷ []) ≡ applied_in events ++ applied_in (event ∷ [])
applied_in-push [] event = refl
applied_in-push (Begin id call ∷ events) event = applied_in-push events event
applied_in-push (Applied ids ∷ events) event = ap (λ (more : List CallId). ids ++ more) (applied_in-push events event) ∙ sym (append_assoc ids (applied_in events) (applied_in (event ∷ [])))
applied_in-push (End id reply ∷ events) event = applied_in-push events event

-- the marks of FLIPs, behind a step at the label
flips_marked : (z : Sizes) (flipped : List ℕ) (p old new : ℕ) (flips : Bool) → old ≤ new → ((q : ℕ) → q < z.processes → get_or flipped q 0 ≤ old) → (q : ℕ) → q < z.processes → get_or (cond flips (set flipped p old) flipped) q 0 ≤ new
flips_marked z flipped p old new true le h q lt = set_or (λ (n : ℕ). n ≤ new) flipped p q old 0 (λ _. le) (omega (arith, le, h q lt))
flips_marked z flipped p old new false le h q lt = omega (arith, le, h q lt)

length-flips : (flipped : List ℕ) (p n : ℕ) (flips : Bool) → length (cond flips (set flipped p n) flipped) ≡ length flipped
length-flips flipped p n true = length-set flipped p n
length-flips flipped p n false = refl

-- no event, or one that applies nothing: root and marks of roots stay
quiet : (z : Sizes) (root : ℕ) (r : Records) (p : ℕ) (l : Label) (block : ℕ) → IsMarked z root r → IsMarked z root (noted r p l block None)
quiet z root r p l block h = record {
  count_flips = length-flips r.flip_marks p (length r.history) (at_flip l) ∙ h.count_flips;
  count_roots = h.count_roots;
  flips = flips_marked z r.flip_marks p (length r.history) (length r.history) (at_flip l) (omega arith) h.flips;
  roots = h.roots;
  newest = h.newest;
  order = h.order;
  since = h.since;
}

-- an event that applies nothing
spoken : (z : Sizes) (root : ℕ) (r : Records) (p : ℕ) (l : Label) (block : ℕ) (event : Event ObjectCall Reply) → applied_in (event ∷ []) ≡ [] → order_after r.order (Some event) ≡ r.order → root_marks_after r.root_marks block (length r.history + 1) (Some event) ≡ r.root_marks → IsMarked z root r → IsMarked z root (noted r p l block (Some event))
spoken z root r p l block event none order rooted h =
    let more : length r.history ≤ length (r.history ++ event ∷ []) = omega (arith, length_push r.history event) in
    record {
      count_flips = length-flips r.flip_marks p (length r.history) (at_flip l) ∙ h.count_flips;
      count_roots = ap length rooted ∙ h.count_roots;
      flips = flips_marked z r.flip_marks p (length r.history) (length (r.history ++ event ∷ [])) (at_flip l) more h.flips;
      roots = rw rooted h.roots;
      newest = rw rooted (omega (arith, more, h.newest));
      order = rw order (applied_in-push r.history event ∙ ap (λ (ids : List CallId). applied_in r.history ++ ids) none ∙ append-nil (applied_in r.history) ∙ h.order);
      since = rw (order, rooted) (ap applied_in (take-append-le (get_or r.root_marks root 0) r.history (event ∷ []) h.newest) ∙ h.since);
    }

-- an exchange: the block becomes the root
marked : (z : Sizes) (root : ℕ) (r : Records) (p : ℕ) (l : Label) (block : ℕ) (ids : List CallId) → block < z.processes + 1 → IsMarked z root r → IsMarked z block (noted r p l block (Some (Applied ids)))
marked z root r p l block ids within h =
    let event = Applied ids in
    let grown = length_push r.history event in
    let mark = length r.history + 1 in
    let new : get_or (set r.root_marks block mark) block 0 ≡ mark = get_or-set_same r.root_marks block mark 0 (omega (arith, within, h.count_roots)) in
    let order : applied_in (r.history ++ event ∷ []) ≡ r.order ++ ids = applied_in-push r.history event ∙ ap (λ (more : List CallId). applied_in r.history ++ more) (append-nil ids) ∙ ap (λ (first : List CallId). first ++ ids) h.order in
    record {
      count_flips = length-flips r.flip_marks p (length r.history) (at_flip l) ∙ h.count_flips;
      count_roots = length-set r.root_marks block mark ∙ h.count_roots;
      flips = flips_marked z r.flip_marks p (length r.history) (length (r.history ++ event ∷ [])) (at_flip l) (omega (arith, grown)) h.flips;
      roots = λ b lt. rw new (set_or (λ (n : ℕ). n ≤ mark) r.root_marks block b mark 0 (λ _. omega arith) (omega (arith, h.roots b lt, h.newest)));
      newest = rw new (omega (arith, grown));
      order = order;
      since = ap applied_in (take_all (get_or (set r.root_marks block mark) block 0) (r.history ++ event ∷ []) (omega (arith, new, grown))) ∙ order;
    }

module _ {Run : Type 0} where
  pub keeps_marks : (l : Label) (m : Meaning Run) (z : Sizes) (c : Cell) (ps : List (Process Run)) (p : ℕ) (q : Process Run) (r : Records) → own_of c p < z.processes + 1 → q.label ≡ l → IsMarked z c.root r → IsMarked z (cell_after c p (row l m z c p q).change).root (noted r p q.label (own_of c p) (event_at l m z c ps p q))
  keeps_marks Next m z c ps p q r within is h =
      let event = Begin (record { process = p; number = q.begun + 1 }) (call_at q q.begun) in
      elim (nat_lt q.begun (length q.calls)) as (λ b. IsMarked z c.root (noted r p q.label (own_of c p) (cond b (Some event) None))) [
        | true ↦ spoken z c.root r p q.label (own_of c p) event refl refl refl h
        | false ↦ quiet z c.root r p q.label (own_of c p) h
      ]
  keeps_marks Commit m z c ps p q r within is h =
      let event = Applied (applied_ids z (block_of c c.root) (own_block c p) (begun_of ps)) in
      elim (is_linked c p) as (λ b. IsMarked z (cond b (exchanged c p) c).root (noted r p q.label (own_of c p) (cond b (Some event) None))) [
        | true ↦ marked z c.root r p q.label (own_of c p) (applied_ids z (block_of c c.root) (own_block c p) (begun_of ps)) within h
        | false ↦ quiet z c.root r p q.label (own_of c p) h
      ]
  keeps_marks Give m z c ps p q r within is h = spoken z c.root r p q.label (own_of c p) _ refl refl refl h
  keeps_marks l m z c ps p q r within is h = quiet z c.root r p q.label (own_of c p) h
