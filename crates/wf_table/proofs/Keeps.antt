-- Every step keeps what stands.
use Rattle.std.proofs.Common.{◌≡◌, ◌≢◌, ℕ, ◌+◌, ◌-◌, ◌%◌, ◌<◌, ◌≤◌, Bool, true, false, List, length, set, refl, sym, ap, ◌∙◌, arith, cond, inl, inr, subst}
use Rattle.std.specs.Prelude.{pos, Some, None, slice_get}
use Rattle.std.specs.List.{Contains}
use Rattle.std.proofs.lemmas.Bool.{cases_eq}
use Rattle.std.proofs.lemmas.List.{get_or-set_other}
use Rattle.std.proofs.lemmas.List.Elements.{Contains-append_left}
use Rattle.std.proofs.lemmas.Option.{slice_get_within}
use Rattle.ll_cell.specs.Cell.{Cell, own_of, is_linked, block_of, exchanged}
use Rattle.wf_history.specs.declared.event.CallId.{CallId}
use Rattle.wf_history.specs.History.{Applied}
use Rattle.wf_table.specs.declared.process.Label.{Label}
use Rattle.wf_table.specs.declared.process.Label.TheVariants.{Flip, Try, Take, Give, Commit, Read}
use Rattle.wf_table.specs.declared.process.Registers.{Registers}
use Rattle.wf_table.specs.declared.process.Sizes.{Sizes}
use Rattle.wf_table.specs.Meaning.{Meaning}
use Rattle.wf_table.specs.StepTable.{Process, cell_after, row, body_turn, toggle_in, announced_toggle, to}
use Rattle.wf_table.specs.Object.{Records, noted, event_at}
use Rattle.wf_table.specs.Marks.{IsMarked}
use Rattle.wf_table.specs.Ranges.{IsInRange, index_in}
use Rattle.wf_table.specs.Labels.{at_next, unannounced}
use Rattle.wf_table.proofs.Frame.{each_after}
use Rattle.wf_table.specs.Helping.{Serving, has_copied, IsHelping}
use Rattle.wf_table.specs.Order.{applied_count}
use Rattle.wf_table.specs.HelpAndOrder.{phase, lost_rounds, flips_at, announced_call, standing, own_toggles, IsFounded, IsHelpful, IsOrdered}
use Rattle.wf_table.proofs.Applied.{new_ids, note, exchange_step}
use Rattle.wf_table.proofs.KeepsLinks.{cleared}
use Rattle.wf_table.proofs.KeepsHelp.{Kind, Flips, Exchanges, Neither, kind, serving_within}
use Rattle.wf_table.proofs.HelpAndOrderLaws.{made}
use Rattle.wf_table.proofs.Numbers.{order_below}
use Rattle.wf_table.proofs.Seen.{served_pending}
use Rattle.wf_table.proofs.HelpAndOrderSteps.{row_exchanges, row_applies, private_step, same_rooted, same_link, flips_other, flips_own, flips_is}
use Rattle.wf_table.specs.Stands.{since, Stands, word_in, InPart, words_taken, RepliesStand, Carries, AllCarry, IsStanding}
use Rattle.wf_table.proofs.Since.{since_root, in_order, from_order, since_stays, since_other}
use Rattle.wf_table.proofs.StandingPlaces.{other_word, same_number}
use Rattle.wf_table.proofs.Carried.{rests, others_carry, exchanged_carries}
use Rattle.wf_table.proofs.StandingRows.{Finds, own_carries, own_agrees}

-- the same call in the same list
moves : (xs ys : List CallId) (a b : CallId) → xs ≡ ys → a ≡ b → Contains xs a → Contains ys b
moves xs ys a b e f h = subst (λ (l : List CallId). Contains l b) e (subst (λ (i : CallId). Contains xs i) f h)

few_taken : (z : Sizes) (l : Label) (g : Registers) → index_in z l g → words_taken z l g.i ≤ z.replies + 1
few_taken z Take g index = omega (arith, index)
few_taken z Give g index = omega arith
few_taken z l g index = omega arith

module _ {Run : Type 0} (z : Sizes) (c : Cell) (ps : List (Process Run)) (r : Records) (base : IsFounded z c ps r) (help : IsHelpful z c ps r) (ord : IsOrdered z c ps r) where
  pub newest : (k b : ℕ) → Stands ps r k b → Stands ps r k c.root
  newest k b s = since_root z c.root r base.marks b (announced_call ps k) s

  -- a call that stands in a block is applied
  pub all_applied : (k b : ℕ) → Stands ps r k b → flips_at ps k ≤ applied_count r.order k
  all_applied k b s = (order_below r.order (announced_call ps k) (ord.in_turn k) (in_order z c.root r base.marks b (announced_call ps k) s)).1

  pub told : (k : ℕ) → k < z.processes → Stands ps r k c.root → toggle_in z (block_of c c.root) k ≡ announced_toggle z c k
  told k lt s =
      let same : applied_count r.order k ≡ flips_at ps k = omega (arith, all_applied k c.root s, help.counted.begun k lt) in
      help.counted.root k lt ∙ ap (λ (a : ℕ). pos (a % 2)) same ∙ sym (help.counted.announced k lt)

  module _ (p : ℕ) (q : Process Run) (at : slice_get ps p ≡ Some q) where
    served : phase q.label ≡ Serving → is_linked c p ≡ true → ¬ Stands ps r q.registers.j c.root
    served serves linked s =
        let h = help.helping p q at in
        let lost = lost_rounds q.label (is_linked c p) q.registers.round in
        let mine = subst (λ (b : Bool). IsHelping z.processes (standing z c ps r) p b (own_toggles z c p) (phase q.label) q.registers.j lost) linked h in
        let pending = served_pending z.processes (standing z c ps r) help.counted p (own_toggles z c p) (phase q.label) q.registers.j lost mine serves (serving_within z q.label q.registers (base.in_range p q at).index serves) in
        absurd (omega (arith, pending, all_applied q.registers.j c.root s))

    settled : q.label ≡ Read → Stands ps r p c.root
    settled is =
        let began = (base.in_range p q at).opened (ap at_next is) in
        let some : 0 < flips_at ps p = omega (arith, began, flips_is ps p q at ∙ ap (λ (l : Label). cond (unannounced l) (q.begun - 1) q.begun) is) in
        from_order z c.root r base.marks (announced_call ps p) (made z c ps r p ord some ((help.helping p q at).settled (ap phase is)))

    pub finds : IsStanding z c ps r → Finds z (Stands ps r) c p q
    finds h = record {
      member = omega (arith, slice_get_within ps p q at, base.count);
      shaped = base.shaped;
      numbered = base.numbered;
      range = base.in_range p q at;
      front = base.fronts p q at;
      newest = newest;
      told = told;
      served = served;
      settled = settled;
      replies = h.replies;
      carries = h.carried p q at;
    }

module _ {Run : Type 0} (m : Meaning Run) (z : Sizes) (c : Cell) (ps : List (Process Run)) (r : Records) (p : ℕ) (q : Process Run) where
  abbrev pub Behind : Label → Type 0
  Behind l = IsStanding z (cell_after c p (row l m z c p q).change) (set ps p (row l m z c p q).process) (noted r p l (own_of c p) (event_at l m z c ps p q))

  -- a process whose root, own block and link stay
  carry : (S : ℕ → ℕ → Type 0) (c' : Cell) (k : ℕ) (o : Process Run) → c'.root ≡ c.root → own_of c' k ≡ own_of c k → (linked : Bool) → is_linked c' k ≡ linked → Carries z S (word_in c') c.root (own_of c k) k linked o → Carries z S (word_in c') c'.root (own_of c' k) k (is_linked c' k) o
  carry S c' k o root own linked link h =
      subst (λ (b : ℕ). Carries z S (word_in c') b (own_of c' k) k (is_linked c' k) o) (sym root)
      (subst (λ (b : ℕ). Carries z S (word_in c') c.root b k (is_linked c' k) o) (sym own)
      (subst (λ (l : Bool). Carries z S (word_in c') c.root (own_of c k) k l o) (sym link) h))

  neither : (l : Label) → length (body_turn m z c p q).block ≤ z.variables → slice_get ps p ≡ Some q → q.label ≡ l → l ≢ Flip → (l ≡ Commit → is_linked c p ≡ false) → IsFounded z c ps r → IsHelpful z c ps r → IsOrdered z c ps r → IsStanding z c ps r → Behind l
  neither l few at is other none base help ord h =
      let owns : p < length c.own = omega (arith, slice_get_within ps p q at, base.count, base.shaped.owns) in
      let change = (row l m z c p q).change in
      let after = (row l m z c p q).process in
      let event = event_at l m z c ps p q in
      let c' = cell_after c p change in
      let ps' = set ps p after in
      let r' = noted r p l (own_of c p) event in
      let quiet = row_exchanges l m z c p q none in
      let silent = row_applies l m z c ps p q none in
      let same = private_step l m z c ps r p q is at owns base.numbered (base.in_range p q at) other none in
      let f = finds z c ps r base help ord p q at h in
      let id : (k : ℕ) → announced_call ps' k ≡ announced_call ps k = λ k. ap (λ (n : ℕ). record { process = k; number = n }) (same.flips k) in
      let marks : (b : ℕ) → since r' b ≡ since r b = λ b. since_stays z c.root r base.marks p l (own_of c p) event b silent in
      let down : (k b : ℕ) → Stands ps' r' k b → Stands ps r k b = λ k b s. moves (since r' b) (since r b) (announced_call ps' k) (announced_call ps k) (marks b) (id k) s in
      let up : (k b : ℕ) → Stands ps r k b → Stands ps' r' k b = λ k b s. moves (since r b) (since r' b) (announced_call ps k) (announced_call ps' k) (sym (marks b)) (sym (id k)) s in
      let still : (k a b : ℕ) → Stands ps' r' k a → Stands ps r k b → Stands ps' r' k b = λ k a b _ s. up k b s in
      let roots : (i : ℕ) → word_in c' c.root i ≡ word_in c c.root i = λ i. other_word c p change c.root i (λ e. base.numbered.root_apart p owns (sym e)) in
      record {
        replies = subst (λ (b : ℕ). RepliesStand z (Stands ps' r') (word_in c') b) (sym (same_rooted c p change quiet)) (record {
          stands = λ b k i inside lt place s. elim (cases_eq b (own_of c p)) [
            | inl e ↦ ap (λ (a : ℕ). word_in c' a i) e ∙ own_agrees m z (Stands ps r) c p q f l few is none k i lt place (down k (own_of c p) (subst (λ (a : ℕ). Stands ps' r' k a) e s)) ∙ sym (roots i)
            | inr d ↦ other_word c p change b i d ∙ h.replies.stands b k i inside lt place (down k b s) ∙ sym (roots i)
          ];
        });
        carried = each_after (λ k o. AllCarry z c ps r k o × (k < length c.own)) (AllCarry z c' ps' r') ps p after
            (λ k o e. (h.carried k o e, omega (arith, slice_get_within ps k o e, base.count, base.shaped.owns)))
            (carry (Stands ps' r') c' p after (same_rooted c p change quiet) (same_number c p p change quiet) (is_linked c' p) refl
            (others_carry z (Stands ps r) (Stands ps' r') (word_in c') (word_in c') c.root (own_of c p) p after (is_linked c' p) down still (up p) (λ i. refl) (λ i. refl)
            (own_carries m z (Stands ps r) c p q f l few is other none)))
            (λ k o d old. carry (Stands ps' r') c' k o (same_rooted c p change quiet) (same_number c p k change quiet) (is_linked c k) (same_link c p k change d quiet)
            (others_carry z (Stands ps r) (Stands ps' r') (word_in c) (word_in c') c.root (own_of c k) k o (is_linked c k) down still (up k)
            (λ i. other_word c p change (own_of c k) i (base.numbered.own_apart k p old.1 owns d)) roots old.0));
      }

  flipping : slice_get ps p ≡ Some q → q.label ≡ Flip → IsFounded z c ps r → IsHelpful z c ps r → IsOrdered z c ps r → IsStanding z c ps r → Behind Flip
  flipping at is base help ord h =
      let member : p < length ps = slice_get_within ps p q at in
      let within : p < z.processes = omega (arith, member, base.count) in
      let change = (row Flip m z c p q).change in
      let after = (row Flip m z c p q).process in
      let c' = cell_after c p change in
      let ps' = set ps p after in
      let r' = noted r p Flip (own_of c p) None in
      let began = (base.in_range p q at).opened (ap at_next is) in
      let one_more : flips_at ps' p ≡ flips_at ps p + 1 = omega (arith, flips_own ps p after member, flips_is ps p q at ∙ ap (λ (l : Label). cond (unannounced l) (q.begun - 1) q.begun) is, began) in
      let gone : (b : ℕ) → ¬ Stands ps' r' p b = λ b s.
      (let most = order_below r.order (announced_call ps' p) (ord.in_turn p) (in_order z c.root r base.marks b (announced_call ps' p) s) in
      absurd (omega (arith, most.1, one_more, help.counted.begun p within))) in
      let id : (k : ℕ) → k ≢ p → announced_call ps' k ≡ announced_call ps k = λ k d. ap (λ (n : ℕ). record { process = k; number = n }) (flips_other ps p k after d) in
      let apart : (k b : ℕ) → Stands ps' r' k b → k ≢ p = λ k b s e. gone b (subst (λ (a : ℕ). Stands ps' r' a b) e s) in
      let down : (k b : ℕ) → Stands ps' r' k b → Stands ps r k b = λ k b s. subst (λ (i : CallId). Contains (since r b) i) (id k (apart k b s)) s in
      let up : (k b : ℕ) → k ≢ p → Stands ps r k b → Stands ps' r' k b = λ k b d s. subst (λ (i : CallId). Contains (since r b) i) (sym (id k d)) s in
      record {
        replies = record { stands = λ b k i inside lt place s. h.replies.stands b k i inside lt place (down k b s) };
        carried = each_after (AllCarry z c ps r) (AllCarry z c' ps' r') ps p after h.carried
            (rests z (Stands ps' r') (word_in c') c.root (own_of c p) p (is_linked c p) after refl refl refl)
            (λ k o d old. others_carry z (Stands ps r) (Stands ps' r') (word_in c) (word_in c') c.root (own_of c k) k o (is_linked c k) down (λ a b x sa s. up a x (apart a b sa) s) (λ b s. up k b d s) (λ i. refl) (λ i. refl) old);
      }

  exchanging : slice_get ps p ≡ Some q → q.label ≡ Commit → is_linked c p ≡ true → IsMarked z (own_of c p) (note z c ps r p) → IsFounded z c ps r → IsHelpful z c ps r → IsOrdered z c ps r → IsStanding z c ps r → IsStanding z (exchanged c p) (set ps p (to Read q)) (note z c ps r p)
  exchanging at is linked marks' base help ord h =
      let owns : p < length c.own = omega (arith, slice_get_within ps p q at, base.count, base.shaped.owns) in
      let own = own_of c p in
      let c' = exchanged c p in
      let ps' = set ps p (to Read q) in
      let r' = note z c ps r p in
      let ids = new_ids z c ps r p in
      let exchange = exchange_step z c ps r p q at is base in
      let id : (k : ℕ) → announced_call ps' k ≡ announced_call ps k = λ k. ap (λ (n : ℕ). record { process = k; number = n }) (exchange.flips k) in
      let newer = newest z c ps r base help ord in
      let marks : (b : ℕ) → b ≢ own → since r' b ≡ since r b = λ b d. since_other z c.root r base.marks p Commit own ids b d in
      let down : (k b : ℕ) → b ≢ own → Stands ps' r' k b → Stands ps r k b = λ k b d s. moves (since r' b) (since r b) (announced_call ps' k) (announced_call ps k) (marks b d) (id k) s in
      let applied : (k b : ℕ) → Stands ps r k b → Stands ps' r' k own = λ k b s.
      subst (λ (i : CallId). Contains (since r' own) i) (sym (id k))
      (from_order z own r' marks' (announced_call ps k) (Contains-append_left r.order ids (announced_call ps k) (in_order z c.root r base.marks b (announced_call ps k) s))) in
      let up : (k b : ℕ) → Stands ps r k b → Stands ps' r' k b = λ k b s. elim (cases_eq b own) [
        | inl e ↦ subst (λ (a : ℕ). Stands ps' r' k a) (sym e) (applied k b s)
        | inr d ↦ moves (since r b) (since r' b) (announced_call ps k) (announced_call ps' k) (sym (marks b d)) (sym (id k)) s
      ] in
      let holds : (k i : ℕ) → k < z.processes → InPart z k i → Stands ps r k c.root → word_in c own i ≡ word_in c c.root i = (h.carried p q at).copied (ap (λ (l : Label). has_copied (phase l)) is) linked in
      record {
        replies = record {
          stands = λ b k i inside lt place s. elim (cases_eq b own) [
            | inl e ↦ ap (λ (a : ℕ). word_in c a i) e
            | inr d ↦ (let old = down k b d s in h.replies.stands b k i inside lt place old ∙ sym (holds k i lt place (newer k b old)))
          ];
        };
        carried = each_after (λ k o. AllCarry z c ps r k o × (IsInRange z o × (k < z.processes))) (AllCarry z c' ps' r') ps p (to Read q)
            (λ k o e. (h.carried k o e, (base.in_range k o e, omega (arith, slice_get_within ps k o e, base.count))))
            (rests z (Stands ps' r') (word_in c') own (own_of c' p) p (is_linked c' p) (to Read q) refl refl refl)
            (λ k o d old.
            subst (λ (b : ℕ). Carries z (Stands ps' r') (word_in c') own b k (is_linked c' k) o) (sym (get_or-set_other c.own p k c.root 0 d))
            (subst (λ (l : Bool). Carries z (Stands ps' r') (word_in c') own (own_of c k) k l o) (sym (cleared (length c.linked) k))
            (exchanged_carries z (Stands ps r) (Stands ps' r') (word_in c) (word_in c') c.root (own_of c k) k o (is_linked c k) own old.1.1
            (base.numbered.own_apart k p (omega (arith, old.1.1, base.shaped.owns)) owns d)
            (few_taken z o.label o.registers old.1.0.index) up down newer holds old.0)));
      }

  kinds : (l : Label) → Kind l (is_linked c p) → length (body_turn m z c p q).block ≤ z.variables → slice_get ps p ≡ Some q → q.label ≡ l → IsMarked z (cell_after c p (row l m z c p q).change).root (noted r p l (own_of c p) (event_at l m z c ps p q)) → IsFounded z c ps r → IsHelpful z c ps r → IsOrdered z c ps r → IsStanding z c ps r → Behind l
  kinds l (Flips e) few at is marks base help ord h = subst Behind (sym e) (flipping at (is ∙ e) base help ord h)
  kinds l (Exchanges e linked) few at is marks base help ord h =
      let at_commit = subst (λ (k : Label). IsMarked z (cell_after c p (row k m z c p q).change).root (noted r p k (own_of c p) (event_at k m z c ps p q))) e marks in
      let exchanged_marks = subst (λ (b : Bool). IsMarked z (cond b (exchanged c p) c).root (noted r p Commit (own_of c p) (cond b (Some (Applied (new_ids z c ps r p))) None))) linked at_commit in
      subst Behind (sym e)
      (subst (λ (b : Bool). IsStanding z (cond b (exchanged c p) c) (set ps p (cond b (to Read q) (to Try q))) (noted r p Commit (own_of c p) (cond b (Some (Applied (new_ids z c ps r p))) None))) (sym linked)
      (exchanging at (is ∙ e) linked exchanged_marks base help ord h))
  kinds l (Neither other none) few at is marks base help ord h = neither l few at is other none base help ord h

  -- every step of p keeps it
  pub keeps_standing : length (body_turn m z c p q).block ≤ z.variables → slice_get ps p ≡ Some q → IsMarked z (cell_after c p (row q.label m z c p q).change).root (noted r p q.label (own_of c p) (event_at q.label m z c ps p q)) → IsFounded z c ps r → IsHelpful z c ps r → IsOrdered z c ps r → IsStanding z c ps r → Behind q.label
  keeps_standing few at marks base help ord h = kinds q.label (kind q.label (is_linked c p)) few at refl marks base help ord h
