-- Every index stays in range.
use Rattle.std.proofs.Common.{◌≡◌, ℕ, ◌<◌, true, false, List, [], length, set, get_or, ap, arith, subst, ◌∙◌, length-append, length-take}
use Rattle.std.specs.Prelude.{ℤ}
use Rattle.std.proofs.lemmas.Bool.Decides.{nat_tests}
use Rattle.std.proofs.lemmas.Bool.{cases_eq}
use Rattle.std.proofs.lemmas.List.{length-set, length-drop, length-replicate}
use Rattle.std.proofs.lemmas.Grind.{common_steps}
use Rattle.ll_cell.specs.Cell.{Cell, own_of, block_of, announcement_of, refilled}
use Rattle.ll_cell.proofs.Exchange.{exchange_cases}
use Rattle.wf_table.specs.declared.process.Label.{Label}
use Rattle.wf_table.specs.declared.process.Label.TheVariants.{Body}
use Rattle.wf_table.specs.declared.process.Sizes.{Sizes}
use Rattle.ob_interface.specs.Call.{ObjectCall}
use Rattle.wf_table.specs.declared.engine_turn.EngineTurn.{EngineTurn}
use Rattle.wf_table.specs.declared.engine_turn.EngineTurn.TheVariants.{On, Returned, Trapped, Stuck}
use Rattle.wf_table.specs.Meaning.{Meaning}
use Rattle.wf_table.specs.StepTable.{Process, call_at, after_body, body_turn, Change, Nothing, Own, Refill, Announce, Links, Exchanges, cell_after, row}
use Rattle.wf_table.specs.Ranges.{IsSized, IsShaped, IsInRange, index_in}
use Rattle.wf_table.specs.Labels.{at_next, in_try}
use Rattle.wf_table.specs.Scripts.{CallsFit}
use Rattle.wf_table.proofs.Moves.{same_calls}

length-refilled : (block ws : List ℤ) → length (refilled block ws) ≡ length block
length-refilled block ws = simp (length-take, length-append, length-drop) (omega arith)

-- a row of the same length in the place of one
same_row : (rows : List (List ℤ)) (o : ℕ) (ws : List ℤ) (n : ℕ) → ((b : ℕ) → b < length rows → length (get_or rows b []) ≡ n) → length ws ≡ length (get_or rows o []) → (b : ℕ) → b < length (set rows o ws) → length (get_or (set rows o ws) b []) ≡ n
same_row rows o ws n each same b lt = grind (arith, common_steps, each b, each o, cases_eq b o)

pub keeps_shape : (z : Sizes) (c : Cell) (p : ℕ) (change : Change) → p < z.processes → IsShaped z c → IsShaped z (cell_after c p change)
keeps_shape z c p Nothing lt h = h
keeps_shape z c p (Own i w) lt h = record {
  owns = h.owns;
  links = h.links;
  announcements = h.announcements;
  announcement = h.announcement;
  root_in = h.root_in;
  own_in = h.own_in;
  blocks = length-set c.blocks _ _ ∙ h.blocks;
  block = same_row c.blocks (own_of c p) (set (block_of c (own_of c p)) i w) _ h.block (length-set _ i w);
}
keeps_shape z c p (Refill ws) lt h = record {
  owns = h.owns;
  links = h.links;
  announcements = h.announcements;
  announcement = h.announcement;
  root_in = h.root_in;
  own_in = h.own_in;
  blocks = length-set c.blocks _ _ ∙ h.blocks;
  block = same_row c.blocks (own_of c p) (refilled (block_of c (own_of c p)) ws) _ h.block (length-refilled _ ws);
}
keeps_shape z c p (Announce i w) lt h = record {
  owns = h.owns;
  links = h.links;
  blocks = h.blocks;
  block = h.block;
  root_in = h.root_in;
  own_in = h.own_in;
  announcements = length-set c.announcements _ _ ∙ h.announcements;
  announcement = same_row c.announcements p (set (announcement_of c p) i w) _ h.announcement (length-set _ i w);
}
keeps_shape z c p Links lt h = record {
  owns = h.owns;
  blocks = h.blocks;
  block = h.block;
  announcements = h.announcements;
  announcement = h.announcement;
  root_in = h.root_in;
  own_in = h.own_in;
  links = length-set c.linked p true ∙ h.links;
}
keeps_shape z c p Exchanges lt h =
    exchange_cases (IsShaped z) c p
    (λ _. record {
      blocks = h.blocks;
      block = h.block;
      announcements = h.announcements;
      announcement = h.announcement;
      owns = length-set c.own p c.root ∙ h.owns;
      links = length-replicate (length c.linked) false ∙ h.links;
      root_in = h.own_in p (omega (arith, h.owns));
      own_in = λ q w. grind (arith, common_steps, h.own_in q, h.root_in, cases_eq q p);
    })
    (λ _. h)

body_in : {Run : Type 0} (z : Sizes) (t : EngineTurn) (q : Process Run) → q.label ≡ Body → IsInRange z q → IsInRange z (after_body z t q)
body_in z On q is h = h
body_in z Returned q is h =
    let index : q.registers.j < z.processes = subst (λ (k : Label). index_in z k q.registers) is h.index in
    record { list = h.list; replies = h.replies; save = h.save; r = h.r; round = h.round; begun = h.begun; opened = λ e. h.opened (ap at_next is); tried = λ e. h.tried (ap in_try is); index = (omega arith, index) }
body_in z (Trapped n) q is h =
    let index : q.registers.j < z.processes = subst (λ (k : Label). index_in z k q.registers) is h.index in
    record { list = h.list; replies = h.replies; save = h.save; r = h.r; round = h.round; begun = h.begun; opened = λ e. h.opened (ap at_next is); tried = λ e. h.tried (ap in_try is); index = grind (arith, nat_tests, index) }
body_in z Stuck q is h = h

pub keeps_range : {Run : Type 0} (l : Label) (m : Meaning Run) (fits : ObjectCall → Type 0) (z : Sizes) (c : Cell) (p : ℕ) (q : Process Run) → IsSized z → IsShaped z c → ((call : ObjectCall) → fits call → length (m.lay call) ≡ z.arguments) → CallsFit fits q → q.label ≡ l → IsInRange z q → IsInRange z (row l m z c p q).process
keeps_range Body m fits z c p q sized shaped lay fit is h = body_in z (body_turn m z c p q).turn _ is (record { list = h.list; replies = h.replies; save = h.save; r = h.r; round = h.round; begun = h.begun; opened = h.opened; tried = h.tried; index = h.index })
keeps_range l m fits z c p q sized shaped lay fit is h =
    let index : index_in z l q.registers = subst (λ (k : Label). index_in z k q.registers) is h.index in
    let next : q.begun < length q.calls → length (m.lay (call_at q q.begun)) ≡ z.arguments = λ lt. lay (call_at q q.begun) (fit.fit q.begun lt) in
    record {
      list = grind (arith, common_steps, nat_tests, h.list, next);
      replies = grind (arith, common_steps, h.replies);
      save = grind (arith, common_steps, h.save);
      r = grind (arith, nat_tests, h.r, shaped.root_in);
      round = grind (arith, nat_tests, h.round);
      begun = grind (arith, nat_tests, h.begun);
      opened = let k = ap at_next is in λ e. grind (arith, nat_tests, k, h.opened);
      tried = let k = ap in_try is in λ e. grind (arith, nat_tests, k, h.tried);
      index = grind (arith, nat_tests, index, h.index, sized.argument);
    }

pub keeps_fit : {Run : Type 0} (l : Label) (m : Meaning Run) (fits : ObjectCall → Type 0) (z : Sizes) (c : Cell) (p : ℕ) (q : Process Run) → CallsFit fits q → CallsFit fits (row l m z c p q).process
keeps_fit l m fits z c p q h = record { fit = let same = same_calls l m z c p q in rw same h.fit }
