-- Link: a linked process in its round holds the root, kept by every step.
use Rattle.std.proofs.Common.{◌≡◌, ◌≢◌, ℕ, Bool, true, false, List, length, set, get_or, refl, sym, ap, arith, cond, replicate, zero, suc, ◌∙◌}
use Rattle.std.specs.Prelude.{Some, slice_get}
use Rattle.wf_table.specs.declared.engine_turn.EngineTurn.{EngineTurn}
use Rattle.wf_table.specs.declared.engine_turn.EngineTurn.TheVariants.{On, Returned, Trapped, Stuck}
use Rattle.std.proofs.lemmas.Bool.Decides.{nat_tests}
use Rattle.std.proofs.lemmas.List.{get_or-set_other}
use Rattle.ll_cell.specs.Cell.{Cell, is_linked}
use Rattle.ll_cell.proofs.Exchange.{exchange_cases}
use Rattle.wf_table.specs.declared.process.Label.{Label}
use Rattle.wf_table.specs.declared.process.Label.TheVariants.{Link, Body}
use Rattle.wf_table.specs.declared.process.Sizes.{Sizes}
use Rattle.wf_table.specs.Meaning.{Meaning}
use Rattle.wf_table.specs.StepTable.{Process, after_body, body_turn, Change, Nothing, Own, Refill, Announce, Links, Exchanges, cell_after, row}
use Rattle.wf_table.specs.Labels.{in_round}
use Rattle.wf_table.specs.Copies.{HoldsRoot, AllHoldRoot}
use Rattle.wf_table.specs.Each.{Each}
use Rattle.std.proofs.lemmas.Bool.{false≢true}
use Rattle.wf_table.proofs.Frame.{each_after}

-- no link stands after an exchange
pub cleared : (n k : ℕ) → get_or (replicate n false) k false ≡ false
cleared zero k = (refl)
cleared (suc n) zero = refl
cleared (suc n) (suc k) = cleared n k

-- a change by p: who else is linked after it was linked before, to the same root
others : {Run : Type 0} (c : Cell) (p k : ℕ) (change : Change) (o : Process Run) → k ≢ p → HoldsRoot c.root (is_linked c k) o → HoldsRoot (cell_after c p change).root (is_linked (cell_after c p change) k) o
others c p k Nothing o d h = h
others c p k (Own i w) o d h = h
others c p k (Refill ws) o d h = h
others c p k (Announce i w) o d h = h
others c p k Links o d h = record { held = λ a b. h.held a (sym (get_or-set_other c.linked p k true false d) ∙ b) }
others c p k Exchanges o d h =
    exchange_cases (λ a. HoldsRoot a.root (is_linked a k) o) c p
    (λ _. record { held = λ a b. absurd (false≢true (sym (cleared (length c.linked) k) ∙ b)) })
    (λ _. h)

module _ {Run : Type 0} {root : ℕ} {linked : Bool} where
  either : (b : Bool) {x y : Process Run} → HoldsRoot root linked x → HoldsRoot root linked y → HoldsRoot root linked (cond b x y)
  either true h k = h
  either false h k = k

  -- in no round
  out : {x : Process Run} → in_round x.label ≡ false → HoldsRoot root linked x
  out e = record { held = λ a b. absurd (false≢true (sym e ∙ a)) }

  body_turns : (z : Sizes) (t : EngineTurn) (q : Process Run) → HoldsRoot root linked q → (linked ≡ true → q.registers.r ≡ root) → HoldsRoot root linked (after_body z t q)
  body_turns z On q h k = h
  body_turns z Returned q h k = record { held = λ a b. k b }
  body_turns z (Trapped n) q h k = record { held = λ a b. k b }
  body_turns z Stuck q h k = h

own : {Run : Type 0} (l : Label) (m : Meaning Run) (z : Sizes) (c : Cell) (p : ℕ) (q : Process Run) → q.label ≡ l → HoldsRoot c.root (is_linked c p) q → HoldsRoot (cell_after c p (row l m z c p q).change).root (is_linked (cell_after c p (row l m z c p q).change) p) (row l m z c p q).process
own Link m z c p q is h = record { held = λ a b. refl }
own Body m z c p q is h = body_turns z (body_turn m z c p q).turn _ (record { held = h.held }) (h.held (ap in_round is))
own l m z c p q is h = let k = ap in_round is in record { held = λ a b. grind (arith, nat_tests, k, h.held) }

-- the pass: every step keeps it, of every process
pub keeps_links : {Run : Type 0} (m : Meaning Run) (z : Sizes) (c : Cell) (ps : List (Process Run)) (p : ℕ) (q : Process Run) → slice_get ps p ≡ Some q → Each (AllHoldRoot c) ps → Each (AllHoldRoot (cell_after c p (row q.label m z c p q).change)) (set ps p (row q.label m z c p q).process)
keeps_links m z c ps p q at each =
    each_after (AllHoldRoot c) (AllHoldRoot (cell_after c p (row q.label m z c p q).change)) ps p (row q.label m z c p q).process each
    (own q.label m z c p q refl (each p q at))
    (λ k o d h. others c p k (row q.label m z c p q).change o d h)
