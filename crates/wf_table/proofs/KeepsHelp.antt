-- Every step keeps the counts of calls, and what each process has done.
use Rattle.std.proofs.Common.{◌≡◌, ◌≢◌, ℕ, ◌+◌, ◌-◌, ◌%◌, ◌<◌, ◌≤◌, Bool, true, false, List, [], length, set, get_or, refl, sym, ap, ◌∙◌, arith, cond, inl, inr, subst}
use Rattle.std.specs.Prelude.{ℤ, pos, Some, None, slice_get}
use Rattle.std.proofs.lemmas.Bool.{cases_eq, cases_lt}
use Rattle.std.proofs.lemmas.Bool.Decides.{nat_tests}
use Rattle.std.proofs.lemmas.List.{get_or-set_same, get_or-set_other}
use Rattle.std.proofs.lemmas.Option.{slice_get_within}
use Rattle.ll_cell.specs.Cell.{Cell, own_of, is_linked, block_of, announcement_of, word_at, exchanged}
use Rattle.wf_history.specs.History.{Applied}
use Rattle.wf_table.specs.declared.process.Label.{Label}
use Rattle.wf_table.specs.declared.process.Label.TheVariants.{Next, Post, Flip, Try, Link, Fetch, Check2, Save, Enter, Body, Undo, Keep, Commit, Read, Take, Give}
use Rattle.wf_table.specs.declared.process.Registers.{Registers}
use Rattle.wf_table.specs.declared.process.Sizes.{Sizes}
use Rattle.wf_table.specs.Meaning.{Meaning}
use Rattle.wf_table.specs.StepTable.{Process, cell_after, row, body_turn, toggle_in, announced_toggle, inverted, to}
use Rattle.wf_table.specs.Object.{Records, noted, event_at}
use Rattle.wf_table.specs.Ranges.{IsInRange, index_in}
use Rattle.wf_table.specs.Labels.{at_next, unannounced}
use Rattle.wf_table.specs.Toggles.{flips}
use Rattle.wf_table.proofs.KeepsLinks.{cleared}
use Rattle.wf_table.specs.Helping.{Standing, IsCounted, Looking, Serving, IsHelping}
use Rattle.wf_table.proofs.Changes.{IsSame, IsFlipped}
use Rattle.wf_table.specs.HelpAndOrder.{phase, lost_rounds, flips_at, standing, own_toggles, AllHelp, IsFounded, IsHelpful}
use Rattle.wf_table.specs.Order.{applied_count}
use Rattle.wf_table.proofs.HelpAndOrderOthers.{same_helping, flipped_helping}
use Rattle.wf_table.proofs.HelpAndOrderActing.{tries, settles}
use Rattle.wf_table.proofs.Exchange.{exchanged_counts, exchanged_helping, exchanger_settles}
use Rattle.wf_table.proofs.Applied.{new_ids, note, exchange_step}
use Rattle.wf_table.proofs.Frame.{each_after}
use Rattle.wf_table.proofs.HelpAndOrderSteps.{same_own, same_link, row_exchanges, private_step, flips_other, flips_own, flips_is}
use Rattle.wf_table.proofs.HelpAndOrderRows.{own_helps}
use Rattle.wf_table.proofs.Words.{next_parity}

-- a step flips, or exchanges, or does neither
pub data Kind (l : Label) (linked : Bool) : Type 0 where
  Flips : l ≡ Flip → Kind l linked
  Exchanges : l ≡ Commit → linked ≡ true → Kind l linked
  Neither : l ≢ Flip → (l ≡ Commit → linked ≡ false) → Kind l linked

pub kind : (l : Label) (linked : Bool) → Kind l linked
kind Flip linked = Flips refl
kind Commit true = Exchanges refl refl
kind Commit false = Neither (λ e. absurd (cc)) (λ _. refl)
kind l linked = Neither (λ e. absurd (cc)) (λ e. absurd (cc))

pub same_counts : (n : ℕ) (s t : Standing) → IsSame s t → IsCounted n s → IsCounted n t
same_counts n s t same h = record {
  begun = λ k lt. omega (arith, same.applied k, same.flips k, h.begun k lt);
  one_open = λ k lt. omega (arith, same.applied k, same.flips k, h.one_open k lt);
  root = λ k lt. same.root k ∙ h.root k lt ∙ ap (λ (a : ℕ). pos (a % 2)) (sym (same.applied k));
  announced = λ k lt. same.announced k ∙ h.announced k lt ∙ ap (λ (a : ℕ). pos (a % 2)) (sym (same.flips k));
}

pub serving_within : (z : Sizes) (l : Label) (g : Registers) → index_in z l g → phase l ≡ Serving → g.j < z.processes
serving_within z Fetch g index e = index.1
serving_within z Check2 g index e = index.1
serving_within z Save g index e = index.1
serving_within z Enter g index e = index
serving_within z Body g index e = index
serving_within z Undo g index e = index.1
serving_within z Keep g index e = index.1
serving_within z l g index e = absurd (cc)

-- who loses a link has lost one round more
lost_more : (l : Label) (linked : Bool) (round : ℕ) → lost_rounds l false round ≤ lost_rounds l linked round + 1
lost_more Next linked round = omega arith
lost_more Post linked round = omega arith
lost_more Flip linked round = omega arith
lost_more Try linked round = omega arith
lost_more Link linked round = omega arith
lost_more Read linked round = omega arith
lost_more Take linked round = omega arith
lost_more Give linked round = omega arith
lost_more l true round = omega arith
lost_more l false round = omega arith

module _ {Run : Type 0} (m : Meaning Run) (z : Sizes) (c : Cell) (ps : List (Process Run)) (r : Records) (p : ℕ) (q : Process Run) where
  abbrev pub Behind : Label → Type 0
  Behind l = IsHelpful z (cell_after c p (row l m z c p q).change) (set ps p (row l m z c p q).process) (noted r p l (own_of c p) (event_at l m z c ps p q))

  abbrev pub At : Label → Type 0
  At l = IsHelping z.processes (standing z c ps r) p (is_linked c p) (own_toggles z c p) (phase l) q.registers.j (lost_rounds l (is_linked c p) q.registers.round)

  neither : (l : Label) → length (body_turn m z c p q).block ≤ z.variables → slice_get ps p ≡ Some q → q.label ≡ l → l ≢ Flip → (l ≡ Commit → is_linked c p ≡ false) → IsFounded z c ps r → At l → IsHelpful z c ps r → Behind l
  neither l few at is other none founded own h =
      let member : p < length ps = slice_get_within ps p q at in
      let within : p < z.processes = omega (arith, member, founded.count) in
      let owns : p < length c.own = omega (arith, within, founded.shaped.owns) in
      let range = founded.in_range p q at in
      let change = (row l m z c p q).change in
      let after = (row l m z c p q).process in
      let quiet = row_exchanges l m z c p q none in
      let new = standing z (cell_after c p change) (set ps p after) (noted r p l (own_of c p) (event_at l m z c ps p q)) in
      let same = private_step l m z c ps r p q is at owns founded.numbered range other none in
      record {
        counted = same_counts z.processes (standing z c ps r) new same h.counted;
        helping = each_after (λ k o. AllHelp z c ps r k o × (k < length c.own)) (AllHelp z (cell_after c p change) (set ps p after) (noted r p l (own_of c p) (event_at l m z c ps p q))) ps p after
            (λ k o e. (h.helping k o e, omega (arith, slice_get_within ps k o e, founded.count, founded.shaped.owns)))
            (same_helping z.processes (standing z c ps r) new p _ (own_toggles z (cell_after c p change) p) _ _ _ (own_helps m z c ps r p q l few h.counted within founded.shaped range founded.bits (founded.fronts p q at) is other none own) (own_toggles z (cell_after c p change) p) same (λ k. refl))
            (λ k o d old. subst (λ (b : Bool). IsHelping z.processes new k b (own_toggles z (cell_after c p change) k) (phase o.label) o.registers.j (lost_rounds o.label b o.registers.round)) (sym (same_link c p k change d quiet))
            (same_helping z.processes (standing z c ps r) new k _ _ _ _ _ old.0 (own_toggles z (cell_after c p change) k) same (λ i. ap (λ (block : List ℤ). toggle_in z block i) (same_own c p k change owns old.1 d founded.numbered quiet))));
      }

  flipping : slice_get ps p ≡ Some q → q.label ≡ Flip → IsFounded z c ps r → At Flip → IsHelpful z c ps r → Behind Flip
  flipping at is founded own h =
      let member : p < length ps = slice_get_within ps p q at in
      let within : p < z.processes = omega (arith, member, founded.count) in
      let range = founded.in_range p q at in
      let began = range.opened (ap at_next is) in
      let after = (row Flip m z c p q).process in
      let change = (row Flip m z c p q).change in
      let old = standing z c ps r in
      let new = standing z (cell_after c p change) (set ps p after) (noted r p Flip (own_of c p) None) in
      let before : flips q ≡ q.begun - 1 = (let k = ap unannounced is in grind (arith, nat_tests, k)) in
      let one_more : flips_at (set ps p after) p ≡ flips_at ps p + 1 = omega (arith, flips_own ps p after member, flips_is ps p q at, before, began) in
      let rows : p < length c.announcements = omega (arith, within, founded.shaped.announcements) in
      let long = founded.shaped.announcement p rows in
      let turned = inverted (announced_toggle z c p) in
      let said : announced_toggle z (cell_after c p change) p ≡ turned = ap (λ (ws : List ℤ). word_at ws z.arguments) (get_or-set_same c.announcements p (set (announcement_of c p) z.arguments turned) [] rows) ∙ get_or-set_same (announcement_of c p) z.arguments turned (pos 0) (omega (arith, long)) in
      let settled : flips_at ps p ≤ applied_count r.order p = elim (cases_lt (applied_count r.order p) (flips_at ps p)) [ inl pending ↦ absurd (own.settled refl pending) | inr most ↦ most ] in
      let marked : get_or (set r.flip_marks p (length r.history)) p 0 ≡ length r.history = get_or-set_same r.flip_marks p (length r.history) 0 (omega (arith, within, founded.marks.count_flips)) in
      let flipped : IsFlipped p old new = record {
        flips = λ k d. flips_other ps p k after d;
        one_more = one_more;
        applied = λ k. refl;
        root = λ k. refl;
        announced = λ k d. ap (λ (ws : List ℤ). word_at ws z.arguments) (get_or-set_other c.announcements p k _ [] d);
        flip_mark = λ k d. get_or-set_other r.flip_marks p k (length r.history) 0 d;
        root_mark = refl;
        latest = omega (arith, marked, founded.marks.newest);
      } in
      record {
        counted = record {
          begun = λ k lt. elim (cases_eq k p) [
            | inl e ↦ subst (λ (n : ℕ). new.applied n ≤ new.flips n) (sym e) (omega (arith, one_more, h.counted.begun p within))
            | inr d ↦ omega (arith, h.counted.begun k lt, flipped.flips k d)
          ];
          one_open = λ k lt. elim (cases_eq k p) [
            | inl e ↦ subst (λ (n : ℕ). new.flips n ≤ new.applied n + 1) (sym e) (omega (arith, one_more, settled))
            | inr d ↦ omega (arith, h.counted.one_open k lt, flipped.flips k d)
          ];
          root = λ k lt. h.counted.root k lt;
          announced = λ k lt. elim (cases_eq k p) [
            | inl e ↦ subst (λ (n : ℕ). new.announced n ≡ pos (new.flips n % 2)) (sym e)
                (said ∙ ap inverted (h.counted.announced p within) ∙ next_parity (flips_at ps p) ∙ ap (λ (n : ℕ). pos (n % 2)) (sym one_more))
            | inr d ↦ flipped.announced k d ∙ h.counted.announced k lt ∙ ap (λ (n : ℕ). pos (n % 2)) (sym (flipped.flips k d))
          ];
        };
        helping = each_after (λ k o. AllHelp z c ps r k o × IsInRange z o) (AllHelp z (cell_after c p change) (set ps p after) (noted r p Flip (own_of c p) None)) ps p after
            (λ k o e. (h.helping k o e, founded.in_range k o e))
            (tries z.processes new p (is_linked c p) (own_toggles z c p) q.registers.j 0 (λ lt. absurd (omega (arith, lt))) (λ lt. absurd (omega (arith, lt))))
            (λ k o d both. flipped_helping z.processes old new k (is_linked c k) (own_toggles z c k) (phase o.label) o.registers.j (lost_rounds o.label (is_linked c k) o.registers.round) both.0 h.counted p (λ e. d (sym e)) (serving_within z o.label o.registers both.1.index) (own.settled refl) flipped);
      }

  -- the process that exchanges, as its link has it
  pub exchanger : is_linked c p ≡ true → At Commit → IsHelping z.processes (standing z c ps r) p true (own_toggles z c p) Looking q.registers.j (q.registers.round - 1)
  exchanger linked own = subst (λ (b : Bool). IsHelping z.processes (standing z c ps r) p b (own_toggles z c p) Looking q.registers.j (cond b (q.registers.round - 1) q.registers.round)) linked own

  -- it has looked at all
  pub all_looked_at : slice_get ps p ≡ Some q → q.label ≡ Commit → IsFounded z c ps r → q.registers.j ≡ z.processes
  all_looked_at at is founded = subst (λ (l : Label). index_in z l q.registers) is (founded.in_range p q at).index

  -- the process that exchanged goes to READ
  exchanging : slice_get ps p ≡ Some q → q.label ≡ Commit → is_linked c p ≡ true → IsFounded z c ps r → At Commit → IsHelpful z c ps r → IsHelpful z (exchanged c p) (set ps p (to Read q)) (note z c ps r p)
  exchanging at is linked founded own h =
      let within : p < z.processes = omega (arith, slice_get_within ps p q at, founded.count) in
      let own_in : own_of c p < z.processes + 1 = founded.shaped.own_in p (omega (arith, within, founded.shaped.owns)) in
      let old = standing z c ps r in
      let new = standing z (exchanged c p) (set ps p (to Read q)) (note z c ps r p) in
      let j = q.registers.j in
      let lost = q.registers.round - 1 in
      let toggles = own_toggles z c p in
      let all = all_looked_at at is founded in
      let mine = exchanger linked own in
      let exchange = exchange_step z c ps r p q at is founded in
      record {
        counted = exchanged_counts z.processes old new h.counted p toggles j lost mine all exchange (λ k lt. founded.bits.bit (own_of c p) k own_in lt);
        helping = each_after (λ k o. AllHelp z c ps r k o × (k < z.processes)) (AllHelp z (exchanged c p) (set ps p (to Read q)) (note z c ps r p)) ps p (to Read q)
            (λ k o e. (h.helping k o e, omega (arith, slice_get_within ps k o e, founded.count)))
            (settles z.processes new p (is_linked (exchanged c p) p) (own_toggles z (exchanged c p) p) j (exchanger_settles z.processes old new h.counted p toggles j lost mine all exchange within))
            (λ k o d both. subst (λ (b : Bool). IsHelping z.processes new k b (own_toggles z (exchanged c p) k) (phase o.label) o.registers.j (lost_rounds o.label b o.registers.round)) (sym (cleared (length c.linked) k))
            (exchanged_helping z.processes old new h.counted p toggles j lost mine all exchange k both.1 (is_linked c k) (own_toggles z c k) (own_toggles z (exchanged c p) k) (phase o.label) o.registers.j (lost_rounds o.label (is_linked c k) o.registers.round) (lost_rounds o.label false o.registers.round) both.0
            (λ i. ap (λ (b : ℕ). toggle_in z (block_of c b) i) (get_or-set_other c.own p k c.root 0 d))
            (lost_more o.label (is_linked c k) o.registers.round)));
      }

  kinds : (l : Label) → Kind l (is_linked c p) → length (body_turn m z c p q).block ≤ z.variables → slice_get ps p ≡ Some q → q.label ≡ l → IsFounded z c ps r → At l → IsHelpful z c ps r → Behind l
  kinds l (Flips e) few at is founded own h = subst Behind (sym e) (flipping at (is ∙ e) founded (subst At e own) h)
  kinds l (Exchanges e linked) few at is founded own h =
      subst Behind (sym e)
      (subst (λ (b : Bool). IsHelpful z (cond b (exchanged c p) c) (set ps p (cond b (to Read q) (to Try q))) (noted r p Commit (own_of c p) (cond b (Some (Applied (new_ids z c ps r p))) None))) (sym linked)
      (exchanging at (is ∙ e) linked founded (subst At e own) h))
  kinds l (Neither other none) few at is founded own h = neither l few at is other none founded own h

  -- every step of p keeps it
  pub keeps_help : length (body_turn m z c p q).block ≤ z.variables → slice_get ps p ≡ Some q → IsFounded z c ps r → IsHelpful z c ps r → Behind q.label
  keeps_help few at founded h = kinds q.label (kind q.label (is_linked c p)) few at refl founded (h.helping p q at) h
