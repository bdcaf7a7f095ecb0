-- What a step makes of the cell, the processes and the records, in the words of the standing.
use Rattle.std.proofs.Common.{◌≡◌, ◌≢◌, ℕ, zero, suc, ◌+◌, ◌<◌, Bool, true, false, List, [], ◌∷◌, length, set, get_or, refl, sym, ap, ◌∙◌, arith, cond, inl, inr, subst}
use Rattle.std.specs.Prelude.{ℤ, pos, Option, Some, None, slice_get, nat_lt}
use Rattle.std.proofs.lemmas.Option.{same_Some, slice_get_within}
use Rattle.std.proofs.lemmas.Bool.{cases_eq}
use Rattle.std.proofs.lemmas.Bool.Decides.{nat_tests}
use Rattle.std.proofs.lemmas.List.{get_or-set_other}
use Rattle.ll_cell.specs.Cell.{Cell, IsNumbered, own_of, is_linked, block_of, exchange, exchanged, word_at}
use Rattle.ob_interface.specs.Call.{ObjectCall, Reply}
use Rattle.wf_history.specs.declared.event.CallId.{CallId}
use Rattle.wf_history.specs.History.{Event, Begin, Applied, End}
use Rattle.wf_table.specs.declared.process.Label.{Label}
use Rattle.wf_table.specs.declared.process.Label.TheVariants.{Next, Post, Flip, Body, Commit}
use Rattle.wf_table.specs.declared.process.Sizes.{Sizes}
use Rattle.wf_table.specs.Meaning.{Meaning}
use Rattle.wf_table.specs.StepTable.{Process, Change, Nothing, Own, Refill, Announce, Links, Exchanges, cell_after, row, body_turn, own_block, toggle_in, announced_toggle, call_at}
use Rattle.wf_table.specs.Object.{Records, noted, event_at, order_after, root_marks_after, applied_ids, begun_of}
use Rattle.wf_table.specs.Labels.{at_flip, unannounced}
use Rattle.wf_table.proofs.KeepsAnnouncements.{body_flips}
use Rattle.wf_table.specs.Ranges.{IsInRange, index_in}
use Rattle.wf_table.specs.Toggles.{flips}
use Rattle.wf_table.specs.HelpAndOrder.{flips_at, standing}
use Rattle.wf_table.specs.Order.{applied_count}
use Rattle.wf_table.proofs.Changes.{IsSame}

-- what stands in a place of a list
pub member : {X : Type 0} (xs : List X) (k : ℕ) → k < length xs → (x : X) × (slice_get xs k ≡ Some x)
member [] k lt = absurd (omega (arith, lt))
member (x ∷ xs) zero lt = (x, refl)
member (x ∷ xs) (suc k) lt = member xs k (omega (arith, lt))

pub linked_exchanges : (c : Cell) (p : ℕ) → is_linked c p ≡ true → exchange c p ≡ exchanged c p
linked_exchanges c p linked = ap (λ (b : Bool). cond b (exchanged c p) c) linked

pub unlinked_stays : (c : Cell) (p : ℕ) → is_linked c p ≡ false → exchange c p ≡ c
unlinked_stays c p unlinked = ap (λ (b : Bool). cond b (exchanged c p) c) unlinked

-- the change exchanges
abbrev pub exchanges : Change → Bool → Bool
exchanges Exchanges linked = linked
exchanges _ linked = false

-- a change that announces no toggle
abbrev pub flips_none : Sizes → Change → Type 0
flips_none z (Announce i w) = i ≢ z.arguments
flips_none z _ = Unit {0}

pub same_root : (c : Cell) (p : ℕ) (change : Change) → p < length c.own → IsNumbered c.root c.own → exchanges change (is_linked c p) ≡ false → block_of (cell_after c p change) (cell_after c p change).root ≡ block_of c c.root
same_root c p Nothing lt numbers none = refl
same_root c p (Own i w) lt numbers none = get_or-set_other c.blocks (own_of c p) c.root _ [] (λ e. numbers.root_apart p lt (sym e))
same_root c p (Refill ws) lt numbers none = get_or-set_other c.blocks (own_of c p) c.root _ [] (λ e. numbers.root_apart p lt (sym e))
same_root c p (Announce i w) lt numbers none = refl
same_root c p Links lt numbers none = refl
same_root c p Exchanges lt numbers none = ap (λ (d : Cell). block_of d d.root) (unlinked_stays c p none)

pub same_rooted : (c : Cell) (p : ℕ) (change : Change) → exchanges change (is_linked c p) ≡ false → (cell_after c p change).root ≡ c.root
same_rooted c p Nothing none = refl
same_rooted c p (Own i w) none = refl
same_rooted c p (Refill ws) none = refl
same_rooted c p (Announce i w) none = refl
same_rooted c p Links none = refl
same_rooted c p Exchanges none = ap (λ (d : Cell). d.root) (unlinked_stays c p none)

-- another process's own block
pub same_own : (c : Cell) (p k : ℕ) (change : Change) → p < length c.own → k < length c.own → k ≢ p → IsNumbered c.root c.own → exchanges change (is_linked c p) ≡ false → own_block (cell_after c p change) k ≡ own_block c k
same_own c p k Nothing lt within d numbers none = refl
same_own c p k (Own i w) lt within d numbers none = get_or-set_other c.blocks (own_of c p) (own_of c k) _ [] (numbers.own_apart k p within lt d)
same_own c p k (Refill ws) lt within d numbers none = get_or-set_other c.blocks (own_of c p) (own_of c k) _ [] (numbers.own_apart k p within lt d)
same_own c p k (Announce i w) lt within d numbers none = refl
same_own c p k Links lt within d numbers none = refl
same_own c p k Exchanges lt within d numbers none = ap (λ (c' : Cell). own_block c' k) (unlinked_stays c p none)

-- another process's link
pub same_link : (c : Cell) (p k : ℕ) (change : Change) → k ≢ p → exchanges change (is_linked c p) ≡ false → is_linked (cell_after c p change) k ≡ is_linked c k
same_link c p k Nothing d none = refl
same_link c p k (Own i w) d none = refl
same_link c p k (Refill ws) d none = refl
same_link c p k (Announce i w) d none = refl
same_link c p k Links d none = get_or-set_other c.linked p k true false d
same_link c p k Exchanges d none = ap (λ (c' : Cell). is_linked c' k) (unlinked_stays c p none)

-- a word of a row behind a write of another word in that row or another
pub word_stays : (rows : List (List ℤ)) (p k i a : ℕ) (w : ℤ) → (k ≡ p → a ≢ i) → word_at (get_or (set rows p (set (get_or rows p []) i w)) k []) a ≡ word_at (get_or rows k []) a
word_stays [] p k i a w apart = refl
word_stays (x ∷ rows) zero zero i a w apart = get_or-set_other x i a w (pos 0) (apart refl)
word_stays (x ∷ rows) zero (suc k) i a w apart = refl
word_stays (x ∷ rows) (suc p) zero i a w apart = refl
word_stays (x ∷ rows) (suc p) (suc k) i a w apart = word_stays rows p k i a w (λ e. apart (ap suc e))

pub same_announced : (z : Sizes) (c : Cell) (p k : ℕ) (change : Change) → flips_none z change → announced_toggle z (cell_after c p change) k ≡ announced_toggle z c k
same_announced z c p k Nothing none = refl
same_announced z c p k (Own i w) none = refl
same_announced z c p k (Refill ws) none = refl
same_announced z c p k (Announce i w) none = word_stays c.announcements p k i z.arguments w (λ _ e. none (sym e))
same_announced z c p k Links none = refl
same_announced z c p k Exchanges none =
    elim (is_linked c p) as (λ b. announced_toggle z (cond b (exchanged c p) c) k ≡ announced_toggle z c k) [ true ↦ refl | false ↦ refl ]

-- an event that applies calls
abbrev pub applies : Option (Event ObjectCall Reply) → Bool
applies (Some (Applied ids)) = true
applies _ = false

pub same_order : (order : List CallId) (event : Option (Event ObjectCall Reply)) → applies event ≡ false → order_after order event ≡ order
same_order order None none = refl
same_order order (Some (Begin id call)) none = refl
same_order order (Some (Applied ids)) none = absurd (cc)
same_order order (Some (End id reply)) none = refl

pub same_marks : (rooted : List ℕ) (block end : ℕ) (event : Option (Event ObjectCall Reply)) → applies event ≡ false → root_marks_after rooted block end event ≡ rooted
same_marks rooted block end None none = refl
same_marks rooted block end (Some (Begin id call)) none = refl
same_marks rooted block end (Some (Applied ids)) none = absurd (cc)
same_marks rooted block end (Some (End id reply)) none = refl

not_flip : (l : Label) → l ≢ Flip → at_flip l ≡ false
not_flip Flip other = absurd (other refl)
not_flip l other = refl

module _ {Run : Type 0} where
  -- the flips of a process that is written anew
  pub flips_other : (ps : List (Process Run)) (p k : ℕ) (q : Process Run) → k ≢ p → flips_at (set ps p q) k ≡ flips_at ps k
  flips_other [] p k q d = refl
  flips_other (o ∷ ps) zero zero q d = absurd (d refl)
  flips_other (o ∷ ps) zero (suc k) q d = refl
  flips_other (o ∷ ps) (suc p) zero q d = refl
  flips_other (o ∷ ps) (suc p) (suc k) q d = flips_other ps p k q (λ e. d (ap suc e))

  pub flips_own : (ps : List (Process Run)) (p : ℕ) (q : Process Run) → p < length ps → flips_at (set ps p q) p ≡ flips q
  flips_own [] p q lt = absurd (omega (arith, lt))
  flips_own (o ∷ ps) zero q lt = refl
  flips_own (o ∷ ps) (suc p) q lt = flips_own ps p q (omega (arith, lt))

  pub flips_is : (ps : List (Process Run)) (p : ℕ) (q : Process Run) → slice_get ps p ≡ Some q → flips_at ps p ≡ flips q
  flips_is [] p q at = absurd (cc)
  flips_is (o ∷ ps) zero q at = ap flips (same_Some o q at)
  flips_is (o ∷ ps) (suc p) q at = flips_is ps p q at

  -- but at FLIP the announced calls stay
  pub same_flips : (l : Label) (m : Meaning Run) (z : Sizes) (c : Cell) (p : ℕ) (q : Process Run) → l ≢ Flip → q.label ≡ l → flips (row l m z c p q).process ≡ flips q
  same_flips Flip m z c p q other is = absurd (other refl)
  same_flips Body m z c p q other is = let k = ap unannounced is in body_flips z (body_turn m z c p q).turn _ k ∙ grind (arith, nat_tests, k)
  same_flips l m z c p q other is = let k = ap unannounced is in grind (arith, nat_tests, k)

  -- what a row announces, exchanges and shows
  pub row_announces : (l : Label) (m : Meaning Run) (z : Sizes) (c : Cell) (p : ℕ) (q : Process Run) → l ≢ Flip → q.label ≡ l → IsInRange z q → flips_none z (row l m z c p q).change
  row_announces Flip m z c p q other is range = absurd (other refl)
  row_announces Post m z c p q other is range = (let index : q.registers.i < z.arguments = subst (λ (k : Label). index_in z k q.registers) is range.index in λ e. absurd (omega (arith, e, index)))
  row_announces l m z c p q other is range = tt

  pub row_exchanges : (l : Label) (m : Meaning Run) (z : Sizes) (c : Cell) (p : ℕ) (q : Process Run) → (l ≡ Commit → is_linked c p ≡ false) → exchanges (row l m z c p q).change (is_linked c p) ≡ false
  row_exchanges Commit m z c p q none = none refl
  row_exchanges l m z c p q none = refl

  pub row_applies : (l : Label) (m : Meaning Run) (z : Sizes) (c : Cell) (ps : List (Process Run)) (p : ℕ) (q : Process Run) → (l ≡ Commit → is_linked c p ≡ false) → applies (event_at l m z c ps p q) ≡ false
  row_applies Next m z c ps p q none = elim (nat_lt q.begun (length q.calls)) as (λ b. applies (cond b (Some (Begin (record { process = p; number = q.begun + 1 }) (call_at q q.begun))) None) ≡ false) [ true ↦ refl | false ↦ refl ]
  row_applies Commit m z c ps p q none = ap (λ (b : Bool). applies (cond b (Some (Applied (applied_ids z (block_of c c.root) (own_block c p) (begun_of ps)))) None)) (none refl)
  row_applies l m z c ps p q none = refl

  -- the standing behind a step that neither flips nor exchanges
  pub private_step : (l : Label) (m : Meaning Run) (z : Sizes) (c : Cell) (ps : List (Process Run)) (r : Records) (p : ℕ) (q : Process Run) → q.label ≡ l → slice_get ps p ≡ Some q → p < length c.own → IsNumbered c.root c.own → IsInRange z q → l ≢ Flip → (l ≡ Commit → is_linked c p ≡ false) → IsSame (standing z c ps r) (standing z (cell_after c p (row l m z c p q).change) (set ps p (row l m z c p q).process) (noted r p l (own_of c p) (event_at l m z c ps p q)))
  private_step l m z c ps r p q is at lt numbers range other none =
      let change = (row l m z c p q).change in
      let after = (row l m z c p q).process in
      let event = event_at l m z c ps p q in
      let quiet = row_exchanges l m z c p q none in
      let silent = row_applies l m z c ps p q none in
      record {
        flips = λ k. elim (cases_eq k p) [
          | inl e ↦ subst (λ (n : ℕ). flips_at (set ps p after) n ≡ flips_at ps n) (sym e) (flips_own ps p after (slice_get_within ps p q at) ∙ same_flips l m z c p q other is ∙ sym (flips_is ps p q at))
          | inr d ↦ flips_other ps p k after d
        ];
        applied = λ k. ap (λ (order : List CallId). applied_count order k) (same_order r.order event silent);
        root = λ k. ap (λ (b : List ℤ). toggle_in z b k) (same_root c p change lt numbers quiet);
        announced = λ k. same_announced z c p k change (row_announces l m z c p q other is range);
        flip_mark = λ k. ap (λ (b : Bool). get_or (cond b (set r.flip_marks p (length r.history)) r.flip_marks) k 0) (not_flip l other);
        root_mark = ap (λ (marks : List ℕ). get_or marks (cell_after c p change).root 0) (same_marks r.root_marks (own_of c p) (length r.history + 1) event silent) ∙ ap (λ (b : ℕ). get_or r.root_marks b 0) (same_rooted c p change quiet);
      }
