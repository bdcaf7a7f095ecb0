-- Copied front: what a linked process has copied is the root's beginning, kept by every step.
use Rattle.std.proofs.Common.{◌≡◌, ◌≢◌, ℕ, ◌<◌, Bool, true, false, List, [], length, set, get_or, refl, sym, ap, ◌∙◌, subst, arith, cond, inl, inr}
use Rattle.std.specs.Prelude.{ℤ, pos}
use Rattle.std.proofs.lemmas.Bool.{false≢true, cases_eq}
use Rattle.std.proofs.lemmas.Bool.Decides.{nat_tests}
use Rattle.std.proofs.lemmas.List.{get_or-set_same, get_or-set_other}
use Rattle.ll_cell.specs.Cell.{Cell, IsNumbered, is_linked, own_of, block_of, word_at}
use Rattle.ll_cell.proofs.Exchange.{exchange_cases}
use Rattle.wf_table.specs.declared.engine_turn.EngineTurn.{EngineTurn}
use Rattle.wf_table.specs.declared.engine_turn.EngineTurn.TheVariants.{On, Returned, Trapped, Stuck}
use Rattle.wf_table.specs.declared.process.Label.{Label}
use Rattle.wf_table.specs.declared.process.Label.TheVariants.{Try, Link, Load, Store, Check1, Mine, Body}
use Rattle.wf_table.specs.declared.process.Sizes.{Sizes}
use Rattle.wf_table.specs.Meaning.{Meaning}
use Rattle.wf_table.specs.StepTable.{Process, after_body, body_turn, block_words, own_block, Change, Nothing, Own, Refill, Announce, Links, Exchanges, cell_after, row}
use Rattle.wf_table.specs.Ranges.{IsShaped, IsInRange, index_in}
use Rattle.wf_table.specs.Labels.{in_round, copying, at_store}
use Rattle.wf_table.specs.Copies.{HoldsRoot, CopiesRoot, AllCopyRoot}
use Rattle.wf_table.proofs.KeepsLinks.{cleared}

module _ {Run : Type 0} where
  -- the same links and words
  carry : (linked linked' : Bool) (root root' own own' : List ℤ) (o : Process Run) → linked' ≡ linked → root' ≡ root → own' ≡ own → CopiesRoot linked root own o → CopiesRoot linked' root' own' o
  carry linked linked' root root' own own' o a b c h = rw (a, b, c) (record { front = h.front; loaded = h.loaded })

  unlinked : (linked : Bool) (root own : List ℤ) (o : Process Run) → linked ≡ false → CopiesRoot linked root own o
  unlinked linked root own o none = record { front = λ _ l. absurd (false≢true (sym none ∙ l)); loaded = λ _ l. absurd (false≢true (sym none ∙ l)) }

  -- a process that copies nothing
  out : (linked : Bool) (root own : List ℤ) (o : Process Run) → copying o.label ≡ false → at_store o.label ≡ false → CopiesRoot linked root own o
  out linked root own o a b = record { front = λ e. absurd (false≢true (sym a ∙ e)); loaded = λ e. absurd (false≢true (sym b ∙ e)) }

  -- the others: p changes its own block, which is neither the root nor theirs
  pub others_copy : (c : Cell) (p k : ℕ) (change : Change) (o : Process Run) → p < length c.own → k < length c.own → k ≢ p → IsNumbered c.root c.own → AllCopyRoot c k o → AllCopyRoot (cell_after c p change) k o
  others_copy c p k Nothing o lt within d numbers h = h
  others_copy c p k (Own i w) o lt within d numbers h = carry _ _ _ _ _ _ o refl (get_or-set_other c.blocks (own_of c p) c.root _ [] (λ e. numbers.root_apart p lt (sym e))) (get_or-set_other c.blocks (own_of c p) (own_of c k) _ [] (numbers.own_apart k p within lt d)) h
  others_copy c p k (Refill ws) o lt within d numbers h = carry _ _ _ _ _ _ o refl (get_or-set_other c.blocks (own_of c p) c.root _ [] (λ e. numbers.root_apart p lt (sym e))) (get_or-set_other c.blocks (own_of c p) (own_of c k) _ [] (numbers.own_apart k p within lt d)) h
  others_copy c p k (Announce i w) o lt within d numbers h = h
  others_copy c p k Links o lt within d numbers h = carry _ _ _ _ _ _ o (get_or-set_other c.linked p k true false d) refl refl h
  others_copy c p k Exchanges o lt within d numbers h =
      exchange_cases (λ a. AllCopyRoot a k o) c p (λ _. unlinked _ _ _ o (cleared (length c.linked) k)) (λ _. h)

  body_out : (z : Sizes) (t : EngineTurn) (q : Process Run) → q.label ≡ Body → (copying (after_body z t q).label ≡ false) × (at_store (after_body z t q).label ≡ false)
  body_out z On q is = rw is (refl, refl)
  body_out z Returned q is = (refl, refl)
  body_out z (Trapped k) q is = (grind (arith, nat_tests), grind (arith, nat_tests))
  body_out z Stuck q is = rw is (refl, refl)

  -- where the row leads out of the copy, or to its beginning
  leads_out : (l : Label) (m : Meaning Run) (z : Sizes) (c : Cell) (p : ℕ) (q : Process Run) → l ≢ Link → copying l ≡ false → q.label ≡ l → (copying (row l m z c p q).process.label ≡ false) × (at_store (row l m z c p q).process.label ≡ false)
  leads_out Link m z c p q other none is = absurd (other refl)
  leads_out Body m z c p q other none is = body_out z (body_turn m z c p q).turn (record q { run = (body_turn m z c p q).run }) is
  leads_out l m z c p q other none is = let a = ap copying is in let b = ap at_store is in (grind (arith, nat_tests, a, none), grind (arith, nat_tests, b, none))

  pub own_copies : (l : Label) (m : Meaning Run) (z : Sizes) (c : Cell) (p : ℕ) (q : Process Run) → p < z.processes → IsShaped z c → IsNumbered c.root c.own → q.label ≡ l → IsInRange z q → HoldsRoot c.root (is_linked c p) q → AllCopyRoot c p q → AllCopyRoot (cell_after c p (row l m z c p q).change) p (row l m z c p q).process
  own_copies Link m z c p q lt shaped numbers is h links copies = record { front = λ _ _ k less. absurd (omega (arith, less)); loaded = λ e. absurd (cc) }
  own_copies Load m z c p q lt shaped numbers is h links copies =
      record { front = λ _ l k less. copies.front (ap copying is) l k less; loaded = λ _ l. ap (λ (b : ℕ). word_at (block_of c b) q.registers.i) (links.held (ap in_round is) l) }
  own_copies Store m z c p q lt shaped numbers is h links copies =
      let index : q.registers.i < block_words z = subst (λ (k : Label). index_in z k q.registers) is h.index in
      let owns : p < length c.own = omega (arith, shaped.owns) in
      let within : own_of c p < length c.blocks = omega (arith, shaped.blocks, shaped.own_in p owns) in
      let new = set (own_block c p) q.registers.i q.registers.acc in
      let own : get_or (set c.blocks (own_of c p) new) (own_of c p) [] ≡ new = get_or-set_same c.blocks (own_of c p) new [] within in
      let root : get_or (set c.blocks (own_of c p) new) c.root [] ≡ block_of c c.root = get_or-set_other c.blocks (own_of c p) c.root new [] (λ e. numbers.root_apart p owns (sym e)) in
      record {
        front = λ _ l k less. ap (λ (ws : List ℤ). word_at ws k) own ∙ (elim (cases_eq k q.registers.i) as (λ _. word_at new k ≡ word_at (block_of c c.root) k) [
          | inl e ↦ rw e (get_or-set_same (own_block c p) q.registers.i q.registers.acc (pos 0) (omega (arith, index, shaped.block (own_of c p) within)) ∙ copies.loaded (ap at_store is) l)
          | inr d ↦ get_or-set_other (own_block c p) q.registers.i k q.registers.acc (pos 0) d ∙ copies.front (ap copying is) l k (omega (arith, less, d))
        ]) ∙ sym (ap (λ (ws : List ℤ). word_at ws k) root);
        loaded = λ e. absurd (grind (arith, nat_tests));
      }
  own_copies Check1 m z c p q lt shaped numbers is h links copies =
      elim (is_linked c p) as (λ b. AllCopyRoot c p (cond b (record q { label = Mine; registers = record q.registers { i = 0 } }) (record q { label = Try }))) [ true ↦ out _ _ _ _ refl refl | false ↦ out _ _ _ _ refl refl ]
  own_copies l m z c p q lt shaped numbers is h links copies =
      let ends = leads_out l m z c p q (λ e. absurd (cc)) refl is in out _ _ _ (row l m z c p q).process ends.0 ends.1
