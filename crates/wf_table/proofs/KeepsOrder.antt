-- Every step keeps the order and the exchanges: ids in turn, none empty, at most one behind a pending call's FLIP.
use Rattle.std.proofs.Common.{◌≡◌, ◌≢◌, ℕ, zero, suc, ◌+◌, ◌-◌, ◌<◌, ◌≤◌, Bool, true, false, List, [], ◌∷◌, ◌++◌, length, set, get_or, drop, refl, sym, ap, ◌∙◌, arith, cond, inl, inr, subst, not, int_eq}
use Rattle.std.specs.Prelude.{Some, None, slice_get}
use Rattle.std.specs.List.{range_with_len}
use Rattle.std.proofs.lemmas.Bool.{cases_eq, cases_lt}
use Rattle.std.proofs.lemmas.List.{append-nil, length_push, get_or-set_same, get_or-set_other}
use Rattle.std.proofs.lemmas.Option.{same_Some, slice_get_within}
use Rattle.ll_cell.specs.Cell.{Cell, own_of, is_linked, block_of, exchanged}
use Rattle.ob_interface.specs.Call.{ObjectCall, Reply}
use Rattle.wf_history.specs.History.{Event, Applied}
use Rattle.wf_table.specs.declared.process.Label.{Label}
use Rattle.wf_table.specs.declared.process.Label.TheVariants.{Post, Flip, Try, Commit, Read}
use Rattle.wf_table.specs.declared.process.Sizes.{Sizes}
use Rattle.wf_table.specs.Meaning.{Meaning}
use Rattle.wf_table.specs.StepTable.{Process, cell_after, row, toggle_in, to}
use Rattle.wf_table.specs.Object.{Records, noted, event_at, history_after, begun_of}
use Rattle.wf_table.specs.Toggles.{flips}
use Rattle.wf_table.specs.Labels.{unannounced}
use Rattle.wf_table.specs.Helping.{IsPending, Settled, Looking}
use Rattle.wf_table.proofs.Changes.{IsSame}
use Rattle.wf_table.specs.HelpAndOrder.{phase, flips_at, standing, own_toggles, IsFounded, IsHelpful, IsOrdered}
use Rattle.wf_table.specs.Order.{own_numbers, applied_count, exchanges_in}
use Rattle.wf_table.proofs.Seen.{given, made_pending}
use Rattle.wf_table.proofs.Exchange.{cases_words, asked_is_given, still_open}
use Rattle.wf_table.proofs.HelpAndOrderIds.{own_numbers-append, none_above, range_snoc}
use Rattle.wf_table.proofs.Applied.{new_ids, note, no_number, its_number, exchange_step}
use Rattle.wf_table.proofs.Counts.{fewer_later, none_behind, exchanges_more, exchanges_same, none_empty-append, none_empty_after}
use Rattle.wf_table.proofs.HelpAndOrderSteps.{member, row_applies, same_order, private_step, flips_other, flips_is}
use Rattle.wf_table.proofs.KeepsHelp.{Kind, Flips, Exchanges, Neither, kind, At, exchanger, all_looked_at}

pub open_announced : (l : Label) → phase l ≢ Settled → unannounced l ≡ false
open_announced Post d = absurd (d refl)
open_announced Flip d = absurd (d refl)
open_announced l d = refl

module _ {Run : Type 0} where
  begun_is : (ps : List (Process Run)) (k : ℕ) (o : Process Run) → slice_get ps k ≡ Some o → get_or (begun_of ps) k 0 ≡ o.begun
  begun_is [] k o at = absurd (cc)
  begun_is (x ∷ ps) zero o at = ap (λ (y : Process Run). y.begun) (same_Some x o at)
  begun_is (x ∷ ps) (suc k) o at = begun_is ps k o at

  flips_begun : (o : Process Run) → unannounced o.label ≡ false → flips o ≡ o.begun
  flips_begun o e = ap (λ (b : Bool). cond b (o.begun - 1) o.begun) e

  -- the last call that began is the announced one, where a call is pending
  pub pending_begun : (z : Sizes) (c : Cell) (ps : List (Process Run)) (r : Records) → IsFounded z c ps r → IsHelpful z c ps r → (k : ℕ) → k < z.processes → IsPending (standing z c ps r) k → get_or (begun_of ps) k 0 ≡ flips_at ps k
  pending_begun z c ps r founded h k lt pending =
      let found = member ps k (omega (arith, lt, founded.count)) in
      let o = found.0 in
      begun_is ps k o found.1 ∙ sym (flips_begun o (open_announced o.label (λ e. (h.helping k o found.1).settled e pending))) ∙ sym (flips_is ps k o found.1)

module _ {Run : Type 0} (m : Meaning Run) (z : Sizes) (c : Cell) (ps : List (Process Run)) (r : Records) (p : ℕ) (q : Process Run) where
  abbrev pub Then : Label → Type 0
  Then l = IsOrdered z (cell_after c p (row l m z c p q).change) (set ps p (row l m z c p q).process) (noted r p l (own_of c p) (event_at l m z c ps p q))

  no_more : (k : ℕ) → z.processes ≤ k → own_numbers k (new_ids z c ps r p) ≡ []
  no_more k le = none_above (λ (i : ℕ). not (int_eq (toggle_in z (block_of c c.root) i) (own_toggles z c p i))) (λ (i : ℕ). get_or (begun_of ps) i 0) k 0 z.processes (omega (arith, le))

  neither : (l : Label) → slice_get ps p ≡ Some q → q.label ≡ l → l ≢ Flip → (l ≡ Commit → is_linked c p ≡ false) → IsFounded z c ps r → IsOrdered z c ps r → Then l
  neither l at is other none founded h =
      let owns : p < length c.own = omega (arith, slice_get_within ps p q at, founded.count, founded.shaped.owns) in
      let change = (row l m z c p q).change in
      let after = (row l m z c p q).process in
      let event = event_at l m z c ps p q in
      let silent = row_applies l m z c ps p q none in
      let order = same_order r.order event silent in
      let new = standing z (cell_after c p change) (set ps p after) (noted r p l (own_of c p) event) in
      let same : IsSame (standing z c ps r) new = private_step l m z c ps r p q is at owns founded.numbered (founded.in_range p q at) other none in
      record {
        in_turn = λ k. ap (own_numbers k) order ∙ h.in_turn k ∙ ap (range_with_len 1) (sym (same.applied k));
        of_object = λ k le. ap (own_numbers k) order ∙ h.of_object k le;
        none_empty = none_empty_after r.history event silent h.none_empty;
        none_later = ap (λ (a : ℕ). exchanges_in (drop a (history_after r.history event))) same.root_mark ∙ exchanges_same r.history event _ founded.marks.newest silent ∙ h.none_later;
        one_passed = λ k lt pending. (let before = h.one_passed k lt (omega (arith, pending, same.applied k, same.flips k)) in
            omega (arith, before, ap (λ (a : ℕ). exchanges_in (drop a (history_after r.history event))) (same.flip_mark k), exchanges_same r.history event (get_or r.flip_marks k 0) (founded.marks.flips k lt) silent));
      }

  flipping : slice_get ps p ≡ Some q → IsFounded z c ps r → IsOrdered z c ps r → Then Flip
  flipping at founded h =
      let within : p < z.processes = omega (arith, slice_get_within ps p q at, founded.count) in
      let end = length r.history in
      let marked : get_or (set r.flip_marks p end) p 0 ≡ end = get_or-set_same r.flip_marks p end 0 (omega (arith, within, founded.marks.count_flips)) in
      record {
        in_turn = h.in_turn;
        of_object = h.of_object;
        none_empty = h.none_empty;
        none_later = h.none_later;
        one_passed = λ k lt pending. elim (cases_eq k p) [
          | inl e ↦ (let none : exchanges_in (drop (get_or (set r.flip_marks p end) k 0) r.history) ≡ 0 = none_behind r.history (get_or (set r.flip_marks p end) k 0) (subst (λ (n : ℕ). end ≤ get_or (set r.flip_marks p end) n 0) (sym e) (omega (arith, marked))) in omega (arith, none))
          | inr d ↦ (let before = h.one_passed k lt (omega (arith, pending, flips_other ps p k (row Flip m z c p q).process d)) in
              omega (arith, before, ap (λ (a : ℕ). exchanges_in (drop a r.history)) (get_or-set_other r.flip_marks p k end 0 d)))
        ];
      }

  pub exchanging : slice_get ps p ≡ Some q → q.label ≡ Commit → is_linked c p ≡ true → IsFounded z c ps r → At m z c ps r p q Commit → IsHelpful z c ps r → IsOrdered z c ps r → IsOrdered z (exchanged c p) (set ps p (to Read q)) (note z c ps r p)
  exchanging at is linked founded own help h =
      let within : p < z.processes = omega (arith, slice_get_within ps p q at, founded.count) in
      let old = standing z c ps r in
      let new = standing z (exchanged c p) (set ps p (to Read q)) (note z c ps r p) in
      let j = q.registers.j in
      let lost = q.registers.round - 1 in
      let toggles = own_toggles z c p in
      let all = all_looked_at m z c ps r p q at is founded in
      let mine = exchanger m z c ps r p q linked own in
      let exchange = exchange_step z c ps r p q at is founded in
      let ids = new_ids z c ps r p in
      let root = λ (k : ℕ). toggle_in z (block_of c c.root) k in
      let event : Event ObjectCall Reply = Applied ids in
      let given_own : toggles p ≢ root p = given z.processes old help.counted p toggles Looking j lost mine refl all p within (mine.own_open refl refl) (inl refl) in
      let end = length r.history in
      let marked : get_or (set r.root_marks (own_of c p) (end + 1)) (own_of c p) 0 ≡ end + 1 = get_or-set_same r.root_marks (own_of c p) (end + 1) 0 (omega (arith, founded.marks.count_roots, founded.shaped.own_in p (omega (arith, within, founded.shaped.owns)))) in
      record {
        in_turn = λ k. elim (cases_lt k z.processes) [
          | inl lt ↦ elim (cases_words (toggles k) (root k)) [
            | inl e ↦ own_numbers-append k r.order ids ∙ ap (λ (more : List ℕ). own_numbers k r.order ++ more) (no_number z c ps r p k lt e) ∙ append-nil (own_numbers k r.order) ∙ h.in_turn k ∙ ap (range_with_len 1) (sym (exchange.stays k lt e))
            | inr d ↦ (let pending = made_pending z.processes old help.counted p toggles Looking j lost mine refl k lt d in
                let number : get_or (begun_of ps) k 0 ≡ 1 + applied_count r.order k = omega (arith, pending_begun z c ps r founded help k lt pending, pending, help.counted.one_open k lt) in
                let count : suc (applied_count r.order k) ≡ new.applied k = omega (arith, exchange.one_more k lt d) in
                own_numbers-append k r.order ids ∙ ap (λ (more : List ℕ). own_numbers k r.order ++ more) (its_number z c ps r p k lt d ∙ ap (λ (n : ℕ). n ∷ []) number)
                ∙ ap (λ (first : List ℕ). first ++ (1 + applied_count r.order k) ∷ []) (h.in_turn k) ∙ range_snoc 1 (applied_count r.order k) ∙ ap (range_with_len 1) count)
          ]
          | inr le ↦ (let none : own_numbers k (r.order ++ ids) ≡ [] = own_numbers-append k r.order ids ∙ ap (λ (first : List ℕ). first ++ own_numbers k ids) (h.of_object k le) ∙ no_more k le in none ∙ ap (λ (n : List ℕ). range_with_len 1 (length n)) (sym none))
        ];
        of_object = λ k le. own_numbers-append k r.order ids ∙ ap (λ (first : List ℕ). first ++ own_numbers k ids) (h.of_object k le) ∙ no_more k le;
        none_empty = none_empty-append r.history (event ∷ []) h.none_empty ((λ none. absurd (omega (arith, ap length (sym (its_number z c ps r p p within given_own) ∙ ap (own_numbers p) none)))), tt);
        none_later = none_behind (r.history ++ event ∷ []) _ (omega (arith, marked, length_push r.history event));
        one_passed = λ k lt pending. (let before = still_open z.processes old new help.counted p toggles j lost mine all exchange k lt pending in
            elim (cases_lt (get_or r.flip_marks k 0) (get_or r.root_marks c.root 0)) [
              | inl newer ↦ absurd (asked_is_given z.processes old new help.counted p toggles j lost mine all exchange k lt (inr newer) pending)
              | inr later ↦ omega (arith, h.none_later, fewer_later r.history _ _ later, exchanges_more r.history event (get_or r.flip_marks k 0) (founded.marks.flips k lt))
            ]);
      }

  kinds : (l : Label) → Kind l (is_linked c p) → slice_get ps p ≡ Some q → q.label ≡ l → IsFounded z c ps r → IsHelpful z c ps r → IsOrdered z c ps r → Then l
  kinds l (Flips e) at is founded help h = subst Then (sym e) (flipping at founded h)
  kinds l (Exchanges e linked) at is founded help h =
      subst Then (sym e)
      (subst (λ (b : Bool). IsOrdered z (cond b (exchanged c p) c) (set ps p (cond b (to Read q) (to Try q))) (noted r p Commit (own_of c p) (cond b (Some (Applied (new_ids z c ps r p))) None))) (sym linked)
      (exchanging at (is ∙ e) linked founded (subst (At m z c ps r p q) (is ∙ e) (help.helping p q at)) help h))
  kinds l (Neither other none) at is founded help h = neither l at is other none founded h

  -- every step of p keeps it
  pub keeps_order : slice_get ps p ≡ Some q → IsFounded z c ps r → IsHelpful z c ps r → IsOrdered z c ps r → Then q.label
  keeps_order at founded help h = kinds q.label (kind q.label (is_linked c p)) at refl founded help h
