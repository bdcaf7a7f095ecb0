-- The own block while its process serves a call, up to the body.
use Rattle.std.proofs.Common.{◌≡◌, ◌≢◌, ℕ, ◌+◌, ◌<◌, ◌≤◌, Bool, true, false, List, length, set, get_or, take, refl, sym, ap, ◌∙◌, arith, inl, inr, subst}
use Rattle.std.specs.Prelude.{ℤ, pos}
use Rattle.std.specs.List.{Contains}
use Rattle.std.proofs.lemmas.Bool.{cases_eq}
use Rattle.std.proofs.lemmas.List.Elements.{All-contains, Contains-append_cases}
use Rattle.std.proofs.lemmas.List.{get_or-set_same, get_or-set_other, get_or-take}
use Rattle.ll_cell.specs.Cell.{word_at}
use Rattle.ob_interface.specs.Call.{ObjectCall, Reply}
use Rattle.wf_history.specs.declared.event.CallId.{CallId}
use Rattle.wf_history.specs.History.{Event}
use Rattle.wf_history.specs.Legal.{HasBegun}
use Rattle.wf_table.specs.declared.process.Label.{Label}
use Rattle.wf_table.specs.declared.process.Label.TheVariants.{Check2, Save, Enter, Body, Undo, Keep}
use Rattle.wf_table.specs.declared.process.Sizes.{Sizes}
use Rattle.wf_table.specs.Meaning.{Meaning}
use Rattle.wf_table.specs.Marks.{applied_in}
use Rattle.wf_table.specs.StepTable.{Process, toggle_in}
use Rattle.wf_table.specs.Helping.{looked_at}
use Rattle.wf_table.specs.HelpAndOrder.{phase}
use Rattle.wf_table.specs.Contents.{reply_word}
use Rattle.wf_table.specs.Helps.{Witness, Works}
use Rattle.wf_table.specs.Labels.{holding, holds_variables, at_keep}
use Rattle.wf_table.proofs.HelpOrders.{upto_all}
use Rattle.wf_table.proofs.HelpIds.{made_below-same}
use Rattle.wf_table.proofs.Looking.{Packed}

holding_looks : (l : Label) (j : ℕ) → holding l ≡ true → looked_at (phase l) j ≡ j
holding_looks Save j e = refl
holding_looks Enter j e = refl
holding_looks Body j e = refl
holding_looks Undo j e = refl
holding_looks Keep j e = refl
holding_looks l j e = absurd (cc)

-- no other call is served, but its steps are counted
abbrev pub counts : Witness → ℕ → Witness
counts w n = record w { count = n }

-- CHECK2 was passed: the calls applied by now are those that were applied when the link was last seen to stand
abbrev pub renewed : Witness → List (Event ObjectCall Reply) → ℕ → ObjectCall → Witness
renewed w history number call = record w { length = length history; number = number; call = call }

module _ {Run : Type 0} (m : Meaning Run) (lawful : List ℤ → Type 0) (fits : ObjectCall → Type 0) (z : Sizes) (opening : List ℤ) (history : List (Event ObjectCall Reply)) (order : List CallId) (flips : List ℕ) (linked : Bool) (root : List ℤ) where
  abbrev At : List ℤ → Label → Process Run → Witness → Type 0
  At own l q w = Packed m lawful fits z opening history order flips linked root own l q w

  -- the same call is served, and replies and toggles stay, but those that are being written
  pub serves_on : (own own' : List ℤ) (l l' : Label) (q q' : Process Run) (w : Witness) (n : ℕ) → q.registers.j ≤ z.processes → holding l ≡ true → holding l' ≡ true → q'.registers.j ≡ q.registers.j → q'.list ≡ q.list → (at_keep l ≡ true → at_keep l' ≡ true) → ((k i : ℕ) → k < z.processes → i < z.replies + 1 → (at_keep l' ≡ true → k ≢ q.registers.j) → reply_word z own' k i ≡ reply_word z own k i) → ((k : ℕ) → k < z.processes → toggle_in z own' k ≡ toggle_in z own k) → (holds_variables l' ≡ true → take z.variables own' ≡ w.last) → Works l' m z own' (counts w n) q' → At own l q w → At own' l' q' (counts w n)
  serves_on own own' l l' q q' w n within here there same lists keeps replies toggles variables works h =
      let looks : looked_at (phase l') q'.registers.j ≡ looked_at (phase l) q.registers.j = holding_looks l' q'.registers.j there ∙ same ∙ sym (holding_looks l q.registers.j here) in
      record {
        listed = rw looks (record { within = h.listed.within; copied = h.listed.copied; below = h.listed.below; made = h.listed.made });
        current = λ on. rw looks (record { before = (h.current on).before; helped = (h.current on).helped ∙ made_below-same z root own root own' flips flips (looked_at (phase l) q.registers.j) (λ k lt. refl) (λ k lt. sym (toggles k (omega (arith, lt, within, holding_looks l q.registers.j here)))) (λ k lt d. refl) });
        parts = record {
          replies = λ k i lt less apart. replies k i lt less (λ e. subst (λ (j : ℕ). k ≢ j) same (apart e)) ∙ h.parts.replies k i lt less (λ e. subst (λ (j : ℕ). k ≢ j) same (apart (keeps e)));
          toggles = λ k lt. toggles k lt ∙ h.parts.toggles k lt;
        };
        variables = variables;
        passed = λ _. rw (same, lists) (record { begun = (h.passed here).begun; fit = (h.passed here).fit; absent = (h.passed here).absent; laid = (h.passed here).laid; announced = (h.passed here).announced });
        works = works;
      }

  -- CHECK2: the list is of the announced call of the process that is served
  pub accepts : (own : List ℤ) (l : Label) (q q' : Process Run) (w : Witness) (call : ObjectCall) → holding l ≡ true → at_keep l ≡ false → q'.registers.j ≡ q.registers.j → q'.list ≡ q.list → linked ≡ true → order ≡ applied_in history → HasBegun history (record { process = q.registers.j; number = get_or flips q.registers.j 0 }) call → fits call → ¬ Contains order (record { process = q.registers.j; number = get_or flips q.registers.j 0 }) → q.list ≡ m.lay call → Works l m z own (renewed w history (get_or flips q.registers.j 0) call) q' → At own Check2 q w → At own l q' (renewed w history (get_or flips q.registers.j 0) call)
  accepts own l q q' w call there keeps same lists on one begun fit absent laid works h =
      let now = h.current on in
      let number = get_or flips q.registers.j 0 in
      let id : CallId = record { process = q.registers.j; number = number } in
      let looks : looked_at (phase l) q'.registers.j ≡ q.registers.j = holding_looks l q'.registers.j there ∙ same in
      record {
        listed = rw looks (record {
          within = omega arith;
          copied = now.before ∙ one ∙ sym (upto_all history);
          below = h.listed.below;
          made = h.listed.made;
        });
        current = λ _. rw looks (record { before = now.before; helped = now.helped });
        parts = record {
          replies = λ k i lt less apart. h.parts.replies k i lt less (λ e. absurd (cc));
          toggles = h.parts.toggles;
        };
        variables = λ _. h.variables refl;
        passed = λ _. rw (same, lists) (record {
          begun = begun;
          fit = fit;
          absent = λ within. elim (Contains-append_cases w.before w.helped id within) [
            | inl there ↦ absent (subst (λ (ids : List CallId). Contains ids id) now.before there)
            | inr there ↦ absurd (omega (arith, All-contains (λ (i : CallId). i.process < q.registers.j) w.helped id h.listed.below there))
          ];
          laid = laid;
          announced = λ _. refl;
        });
        works = works;
      }

  -- SAVE: one more variable
  pub saves_more : (own : List ℤ) (q q' : Process Run) (w : Witness) → length q.save ≡ z.variables → q.registers.i < z.variables → q'.save ≡ set q.save q.registers.i (word_at own q.registers.i) → At own Save q w → ((k : ℕ) → k < q.registers.i + 1 → word_at q'.save k ≡ word_at w.last k)
  saves_more own q q' w long lt is h k less =
      let i = q.registers.i in
      ap (λ (ws : List ℤ). word_at ws k) is ∙ elim (cases_eq k i) [
        | inl e ↦ subst (λ (n : ℕ). word_at (set q.save i (word_at own i)) n ≡ word_at w.last n) (sym e)
            (get_or-set_same q.save i (word_at own i) (pos 0) (omega (arith, long, lt)) ∙ sym (get_or-take z.variables own i (pos 0) lt) ∙ ap (λ (ws : List ℤ). word_at ws i) (h.variables refl))
        | inr d ↦ get_or-set_other q.save i k (word_at own i) (pos 0) d ∙ h.works.front k (omega (arith, less, d))
      ]

  -- ENTER: the body starts
  pub enters : (own : List ℤ) (q : Process Run) (w : Witness) → q.registers.j ≤ z.processes → At own Enter q w → At own Body (record q { label = Body; run = m.start q.list }) (counts w 0)
  enters own q w within h =
      serves_on own own Enter Body q (record q { label = Body; run = m.start q.list }) w 0 within refl refl refl refl (λ e. absurd (cc)) (λ k i lt less apart. refl) (λ k lt. refl) (λ e. absurd (cc))
      (record { saved = h.works.saved; on = refl; run = ap m.start (sym (h.passed refl).laid); variables = sym (h.variables refl) })
      h
