-- What an exchange adds to the order: the calls of those whose toggles differ between the own block and the root.
use Rattle.std.proofs.Common.{◌≡◌, ◌≢◌, ℕ, ◌+◌, ◌<◌, Bool, true, false, not, List, [], ◌∷◌, length, set, get_or, refl, sym, ap, ◌∙◌, arith, cond, inl, inr, subst, int_eq}
use Rattle.std.specs.Prelude.{ℤ, Some, slice_get}
use Rattle.std.proofs.lemmas.Bool.{cases_eq}
use Rattle.std.proofs.lemmas.Bool.Decides.{nat_tests, Decides-int_eq}
use Rattle.std.proofs.lemmas.List.{get_or-set_same}
use Rattle.std.proofs.lemmas.Option.{slice_get_within}
use Rattle.ll_cell.specs.Cell.{Cell, own_of, block_of, exchanged}
use Rattle.wf_history.specs.declared.event.CallId.{CallId}
use Rattle.wf_history.specs.History.{Applied}
use Rattle.wf_table.specs.declared.process.Label.TheVariants.{Commit, Read}
use Rattle.wf_table.specs.declared.process.Sizes.{Sizes}
use Rattle.wf_table.specs.StepTable.{Process, own_block, toggle_in, to}
use Rattle.wf_table.specs.Object.{Records, noted, applied_ids, begun_of}
use Rattle.wf_table.specs.Toggles.{flips}
use Rattle.wf_table.specs.Labels.{unannounced}
use Rattle.wf_table.proofs.Changes.{IsExchanged}
use Rattle.wf_table.specs.HelpAndOrder.{flips_at, standing, own_toggles, IsFounded}
use Rattle.wf_table.specs.Order.{own_numbers}
use Rattle.wf_table.proofs.HelpAndOrderIds.{applied_more, own_numbers-ids, not_true}
use Rattle.wf_table.proofs.HelpAndOrderSteps.{flips_other, flips_own, flips_is}

read_flips : {Run : Type 0} (q : Process Run) → q.label ≡ Commit → flips (to Read q) ≡ flips q
read_flips q is = let k = ap unannounced is in grind (arith, nat_tests, k)

-- by a test on two words
same_word : (x y : ℤ) → y ≡ x → not (int_eq x y) ≡ false
same_word x y e = ap not ((Decides-int_eq x y).1 (sym e))

other_word : (x y : ℤ) → y ≢ x → not (int_eq x y) ≡ true
other_word x y d = ap not (not_true (int_eq x y) (λ e. d (sym ((Decides-int_eq x y).0 e))))

module _ {Run : Type 0} (z : Sizes) (c : Cell) (ps : List (Process Run)) (r : Records) (p : ℕ) where
  -- the ids of an exchange by p, and what is noted of it
  abbrev pub new_ids : List CallId
  new_ids = applied_ids z (block_of c c.root) (own_block c p) (begun_of ps)

  abbrev pub note : Records
  note = noted r p Commit (own_of c p) (Some (Applied new_ids))

  numbers_by : (k : ℕ) → k < z.processes → own_numbers k new_ids ≡ cond (not (int_eq (toggle_in z (block_of c c.root) k) (own_toggles z c p k))) (get_or (begun_of ps) k 0 ∷ []) []
  numbers_by k lt = own_numbers-ids (λ (i : ℕ). not (int_eq (toggle_in z (block_of c c.root) i) (own_toggles z c p i))) (λ (i : ℕ). get_or (begun_of ps) i 0) k 0 z.processes (omega arith) (omega (arith, lt))

  pub no_number : (k : ℕ) → k < z.processes → own_toggles z c p k ≡ toggle_in z (block_of c c.root) k → own_numbers k new_ids ≡ []
  no_number k lt e = numbers_by k lt ∙ ap (λ (b : Bool). cond b (get_or (begun_of ps) k 0 ∷ []) []) (same_word (toggle_in z (block_of c c.root) k) (own_toggles z c p k) e)

  pub its_number : (k : ℕ) → k < z.processes → own_toggles z c p k ≢ toggle_in z (block_of c c.root) k → own_numbers k new_ids ≡ get_or (begun_of ps) k 0 ∷ []
  its_number k lt d = numbers_by k lt ∙ ap (λ (b : Bool). cond b (get_or (begun_of ps) k 0 ∷ []) []) (other_word (toggle_in z (block_of c c.root) k) (own_toggles z c p k) d)

  -- the standing behind it
  pub exchange_step : (q : Process Run) → slice_get ps p ≡ Some q → q.label ≡ Commit → IsFounded z c ps r → IsExchanged z.processes (own_toggles z c p) (standing z c ps r) (standing z (exchanged c p) (set ps p (to Read q)) note)
  exchange_step q at is founded =
      let member : p < length ps = slice_get_within ps p q at in
      let owns : p < length c.own = omega (arith, member, founded.count, founded.shaped.owns) in
      let after = to Read q in
      let marked : get_or (set r.root_marks (own_of c p) (length r.history + 1)) (own_of c p) 0 ≡ length r.history + 1 = get_or-set_same r.root_marks (own_of c p) (length r.history + 1) 0 (omega (arith, founded.marks.count_roots, founded.shaped.own_in p owns)) in
      record {
        flips = λ k. elim (cases_eq k p) [
          | inl e ↦ subst (λ (n : ℕ). flips_at (set ps p after) n ≡ flips_at ps n) (sym e) (flips_own ps p after member ∙ read_flips q is ∙ sym (flips_is ps p q at))
          | inr d ↦ flips_other ps p k after d
        ];
        announced = λ k. refl;
        flip_mark = λ k. refl;
        root = λ k lt. refl;
        stays = λ k lt e. omega (arith, applied_more k r.order new_ids, ap length (no_number k lt e));
        one_more = λ k lt d. omega (arith, applied_more k r.order new_ids, ap length (its_number k lt d));
        newer = λ k lt. omega (arith, marked, founded.marks.flips k lt);
      }
