-- Flip parity and laid words: what a process has announced stays the open call, with a toggle that counts.
use Rattle.std.proofs.Common.{◌≡◌, ◌≢◌, ℕ, ◌+◌, ◌-◌, ◌%◌, ◌<◌, Bool, true, false, List, [], length, set, get_or, refl, sym, ap, ◌∙◌, subst, arith, cond, inl, inr}
use Rattle.std.specs.Prelude.{ℤ, pos, nat_lt}
use Rattle.std.proofs.lemmas.Bool.Decides.{nat_tests}
use Rattle.std.proofs.lemmas.List.{get_or-set_same, get_or-set_other}
use Rattle.ll_cell.specs.Cell.{Cell, announcement_of, word_at}
use Rattle.ll_cell.proofs.Exchange.{exchange_cases}
use Rattle.ob_interface.specs.Call.{ObjectCall}
use Rattle.wf_table.specs.declared.engine_turn.EngineTurn.{EngineTurn}
use Rattle.wf_table.specs.declared.engine_turn.EngineTurn.TheVariants.{On, Returned, Trapped, Stuck}
use Rattle.wf_table.specs.declared.process.Label.{Label}
use Rattle.wf_table.specs.declared.process.Label.TheVariants.{Next, Post, Flip, Body}
use Rattle.wf_table.specs.declared.process.Sizes.{Sizes}
use Rattle.wf_table.specs.Meaning.{Meaning}
use Rattle.wf_table.specs.StepTable.{Process, after_body, body_turn, announced_toggle, inverted, open_call, call_at, Change, Nothing, Own, Refill, Announce, Links, Exchanges, cell_after, row}
use Rattle.wf_table.specs.Ranges.{IsShaped, IsInRange, index_in}
use Rattle.wf_table.specs.Labels.{at_next, unannounced, at_post}
use Rattle.wf_table.specs.Toggles.{CountsFlips, flips}
use Rattle.wf_table.specs.Announcements.{LaysCall, words_laid}
use Rattle.std.proofs.lemmas.Bool.{false≢true, cases_eq}
use Rattle.wf_table.proofs.Words.{next_parity}
use Rattle.wf_table.proofs.Moves.{same_calls, same_begun}

-- the announcement of a process behind a change of another one
same_announcement : (c : Cell) (p k : ℕ) (change : Change) → k ≢ p → announcement_of (cell_after c p change) k ≡ announcement_of c k
same_announcement c p k Nothing d = refl
same_announcement c p k (Own i w) d = refl
same_announcement c p k (Refill ws) d = refl
same_announcement c p k (Announce i w) d = get_or-set_other c.announcements p k _ [] d
same_announcement c p k Links d = refl
same_announcement c p k Exchanges d = exchange_cases (λ a. announcement_of a k ≡ announcement_of c k) c p (λ _. refl) (λ _. refl)

-- a change that writes no announcement
abbrev pub is_silent : Change → Bool
is_silent (Announce i w) = false
is_silent _ = true

pub still_announced : (c : Cell) (p k : ℕ) (change : Change) → is_silent change ≡ true → announcement_of (cell_after c p change) k ≡ announcement_of c k
still_announced c p k Nothing d = refl
still_announced c p k (Own i w) d = refl
still_announced c p k (Refill ws) d = refl
still_announced c p k (Announce i w) d = absurd (cc)
still_announced c p k Links d = refl
still_announced c p k Exchanges d = exchange_cases (λ a. announcement_of a k ≡ announcement_of c k) c p (λ _. refl) (λ _. refl)

-- a word of the own announcement behind the write of a word
own_word : (c : Cell) (p i k : ℕ) (w : ℤ) → p < length c.announcements → k ≢ i → word_at (announcement_of (cell_after c p (Announce i w)) p) k ≡ word_at (announcement_of c p) k
own_word c p i k w lt d = ap (λ (ws : List ℤ). word_at ws k) (get_or-set_same c.announcements p (set (announcement_of c p) i w) [] lt) ∙ get_or-set_other (announcement_of c p) i k w (pos 0) d

new_word : (c : Cell) (p i : ℕ) (w : ℤ) → p < length c.announcements → i < length (announcement_of c p) → word_at (announcement_of (cell_after c p (Announce i w)) p) i ≡ w
new_word c p i w lt within = ap (λ (ws : List ℤ). word_at ws i) (get_or-set_same c.announcements p (set (announcement_of c p) i w) [] lt) ∙ get_or-set_same (announcement_of c p) i w (pos 0) within

module _ {Run : Type 0} where
  pub others_flips : (z : Sizes) (c : Cell) (p k : ℕ) (change : Change) (o : Process Run) → k ≢ p → CountsFlips z c k o → CountsFlips z (cell_after c p change) k o
  others_flips z c p k change o d h = record { parity = ap (λ (ws : List ℤ). word_at ws z.arguments) (same_announcement c p k change d) ∙ h.parity }

  pub others_lay : (m : Meaning Run) (z : Sizes) (c : Cell) (p k : ℕ) (change : Change) (o : Process Run) → k ≢ p → LaysCall m z c k o → LaysCall m z (cell_after c p change) k o
  others_lay m z c p k change o d h = record { listed = h.listed; said = λ i lt. ap (λ (ws : List ℤ). word_at ws i) (same_announcement c p k change d) ∙ h.said i lt }

  -- the process itself, where its flips stay and no word is announced
  flips_stay : (z : Sizes) (c : Cell) (p : ℕ) (change : Change) (q after : Process Run) → is_silent change ≡ true → flips after ≡ flips q → CountsFlips z c p q → CountsFlips z (cell_after c p change) p after
  flips_stay z c p change q after silent same h = record { parity = ap (λ (ws : List ℤ). word_at ws z.arguments) (still_announced c p p change silent) ∙ h.parity ∙ ap (λ (k : ℕ). pos (k % 2)) (sym same) }

  pub body_flips : (z : Sizes) (t : EngineTurn) (q : Process Run) → unannounced q.label ≡ false → flips (after_body z t q) ≡ q.begun
  body_flips z On q e = grind (arith, nat_tests, e)
  body_flips z Returned q e = refl
  body_flips z (Trapped k) q e = grind (arith, nat_tests)
  body_flips z Stuck q e = grind (arith, nat_tests, e)

  pub own_flips : (l : Label) (m : Meaning Run) (z : Sizes) (c : Cell) (p : ℕ) (q : Process Run) → p < z.processes → IsShaped z c → q.label ≡ l → IsInRange z q → CountsFlips z c p q → CountsFlips z (cell_after c p (row l m z c p q).change) p (row l m z c p q).process
  own_flips Post m z c p q lt shaped is h flipped =
      let k = ap unannounced is in
      let index : q.registers.i < z.arguments = subst (λ (k : Label). index_in z k q.registers) is h.index in
      let same : flips (row Post m z c p q).process ≡ flips q = grind (arith, nat_tests, k) in
      record { parity = own_word c p q.registers.i z.arguments _ (omega (arith, shaped.announcements)) (omega (arith, index)) ∙ flipped.parity ∙ ap (λ (k : ℕ). pos (k % 2)) (sym same) }
  own_flips Flip m z c p q lt shaped is h flipped =
      let k = ap unannounced is in
      let began = h.opened (ap at_next is) in
      let within : p < length c.announcements = omega (arith, shaped.announcements) in
      let before : flips q ≡ q.begun - 1 = grind (arith, nat_tests, k) in
      let count : q.begun - 1 + 1 ≡ q.begun = omega (arith, began) in
      record { parity = new_word c p z.arguments _ within (omega (arith, shaped.announcement p within)) ∙ ap inverted (flipped.parity ∙ ap (λ (k : ℕ). pos (k % 2)) before) ∙ next_parity (q.begun - 1) ∙ ap (λ (k : ℕ). pos (k % 2)) count }
  own_flips Body m z c p q lt shaped is h flipped = let k = ap unannounced is in flips_stay z c p (row Body m z c p q).change q (row Body m z c p q).process refl (body_flips z (body_turn m z c p q).turn _ k ∙ grind (arith, nat_tests, k)) flipped
  own_flips l m z c p q lt shaped is h flipped = let k = ap unannounced is in flips_stay z c p (row l m z c p q).change q (row l m z c p q).process refl (grind (arith, nat_tests, k)) flipped

  -- the process itself, where nothing is announced and its open call stays
  lay_stays : (m : Meaning Run) (z : Sizes) (c : Cell) (p : ℕ) (change : Change) (q after : Process Run) → is_silent change ≡ true → at_post after.label ≡ false → ((k : ℕ) → k < words_laid z after.label after.registers.i → k < words_laid z q.label q.registers.i) → after.calls ≡ q.calls → after.begun ≡ q.begun → LaysCall m z c p q → LaysCall m z (cell_after c p change) p after
  lay_stays m z c p change q after silent out less calls begun h =
      let same : open_call after ≡ open_call q = ap (λ (cs : List ObjectCall). get_or cs (after.begun - 1) (record { export = 0; arguments = [] })) calls ∙ ap (λ (k : ℕ). call_at q (k - 1)) begun in
      record {
        listed = λ e. absurd (false≢true (sym out ∙ e));
        said = λ k lt. ap (λ (ws : List ℤ). word_at ws k) (still_announced c p p change silent) ∙ h.said k (less k lt) ∙ ap (λ (call : ObjectCall). word_at (m.lay call) k) (sym same);
      }

  body_lays : (z : Sizes) (t : EngineTurn) (q : Process Run) → q.label ≡ Body → (at_post (after_body z t q).label ≡ false) × (words_laid z (after_body z t q).label (after_body z t q).registers.i ≡ z.arguments)
  body_lays z On q is = rw is (refl, refl)
  body_lays z Returned q is = (refl, refl)
  body_lays z (Trapped k) q is = (grind (arith, nat_tests), grind (arith, nat_tests))
  body_lays z Stuck q is = rw is (refl, refl)

  pub own_lays : (l : Label) (m : Meaning Run) (z : Sizes) (c : Cell) (p : ℕ) (q : Process Run) → p < z.processes → IsShaped z c → q.label ≡ l → IsInRange z q → LaysCall m z c p q → LaysCall m z (cell_after c p (row l m z c p q).change) p (row l m z c p q).process
  own_lays Next m z c p q lt shaped is h lays =
      let next : Process Run = record q { label = Post; begun = q.begun + 1; registers = record q.registers { i = 0 }; list = m.lay (call_at q q.begun) } in
      let same : q.begun + 1 - 1 ≡ q.begun = omega arith in
      elim (nat_lt q.begun (length q.calls)) as (λ b. LaysCall m z c p (cond b next q)) [
        | true ↦ record { listed = λ _. ap (λ (k : ℕ). m.lay (call_at q k)) (sym same); said = λ k less. absurd (omega (arith, less)) }
        | false ↦ lays
      ]
  own_lays Post m z c p q lt shaped is h lays =
      let index : q.registers.i < z.arguments = subst (λ (k : Label). index_in z k q.registers) is h.index in
      let listed : q.list ≡ m.lay (open_call q) = lays.listed (ap at_post is) in
      let laid : words_laid z q.label q.registers.i ≡ q.registers.i = ap (λ (k : Label). words_laid z k q.registers.i) is in
      let within : p < length c.announcements = omega (arith, shaped.announcements) in
      let long = shaped.announcement p within in
      let here = new_word c p q.registers.i (word_at q.list q.registers.i) within (omega (arith, index, long)) in
      record {
        listed = λ _. listed;
        said = λ k less. (let below : k < q.registers.i + 1 = grind (arith, nat_tests, less, is) in
            elim (cases_eq k q.registers.i) [
              | inl e ↦ rw e (here ∙ ap (λ (ws : List ℤ). word_at ws q.registers.i) listed)
              | inr d ↦ own_word c p q.registers.i k (word_at q.list q.registers.i) within d ∙ lays.said k (omega (arith, below, d, laid))
            ]);
      }
  own_lays Flip m z c p q lt shaped is h lays =
      let laid : words_laid z q.label q.registers.i ≡ z.arguments = ap (λ (k : Label). words_laid z k q.registers.i) is in
      record {
        listed = λ e. absurd (cc);
        said = λ k less. own_word c p z.arguments k (inverted (announced_toggle z c p)) (omega (arith, shaped.announcements)) (omega (arith, less)) ∙ lays.said k (omega (arith, less, laid));
      }
  own_lays Body m z c p q lt shaped is h lays =
      let body = body_lays z (body_turn m z c p q).turn (record q { run = (body_turn m z c p q).run }) is in
      let laid : words_laid z q.label q.registers.i ≡ z.arguments = ap (λ (k : Label). words_laid z k q.registers.i) is in
      lay_stays m z c p (row Body m z c p q).change q (row Body m z c p q).process refl body.0 (λ k less. omega (arith, less, laid, body.1)) (same_calls Body m z c p q) (same_begun Body m z c p q refl) lays
  own_lays l m z c p q lt shaped is h lays =
      lay_stays m z c p (row l m z c p q).change q (row l m z c p q).process refl (grind (arith, nat_tests)) (let e = is in λ k. grind (arith, nat_tests, e)) (same_calls l m z c p q) (same_begun l m z c p q refl) lays
