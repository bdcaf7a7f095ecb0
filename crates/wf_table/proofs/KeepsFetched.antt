-- Fetched front, kept by every step: an announcement stays while a linked process serves its call.
use Rattle.std.proofs.Common.{◌≡◌, ◌≢◌, ℕ, ◌+◌, Bool, true, false, List, [], length, set, refl, sym, ap, ◌∙◌, arith, cond, inl, inr, subst, int_eq}
use Rattle.std.specs.Prelude.{ℤ, pos, Some, slice_get, nat_eq}
use Rattle.std.proofs.lemmas.Bool.{cases_eq, false≢true}
use Rattle.std.proofs.lemmas.Bool.Decides.{nat_tests}
use Rattle.std.proofs.lemmas.List.{get_or-set_same, get_or-set_other}
use Rattle.ll_cell.specs.Cell.{Cell, is_linked, announcement_of, word_at}
use Rattle.ll_cell.proofs.Exchange.{exchange_cases}
use Rattle.wf_table.specs.declared.engine_turn.EngineTurn.{EngineTurn}
use Rattle.wf_table.specs.declared.engine_turn.EngineTurn.TheVariants.{On, Returned, Trapped, Stuck}
use Rattle.wf_table.specs.declared.process.Label.{Label}
use Rattle.wf_table.specs.declared.process.Label.TheVariants.{Post, Flip, Seen, Fetch, Check2, Body, Commit}
use Rattle.wf_table.specs.declared.process.Sizes.{Sizes}
use Rattle.wf_table.specs.Meaning.{Meaning}
use Rattle.wf_table.specs.StepTable.{Process, Change, Nothing, Own, Refill, Announce, Links, Exchanges, cell_after, row, after_body, body_turn, own_block, toggle_in, announced_toggle, to, at}
use Rattle.wf_table.specs.Object.{Records}
use Rattle.wf_table.specs.Ranges.{IsInRange, index_in}
use Rattle.wf_table.specs.Each.{Each}
use Rattle.wf_table.proofs.Frame.{each_after}
use Rattle.wf_table.proofs.KeepsLinks.{cleared}
use Rattle.wf_table.specs.Helping.{IsPending, Settled, Serving, IsHelping}
use Rattle.wf_table.specs.HelpAndOrder.{phase, lost_rounds, standing, own_toggles, AllHelp, IsFounded, IsHelpful}
use Rattle.wf_table.specs.Fetched.{Fetches, AllFetch}
use Rattle.wf_table.specs.Labels.{fetching}
use Rattle.wf_table.proofs.Seen.{served_pending}
use Rattle.wf_table.proofs.HelpAndOrderRows.{on}
use Rattle.wf_table.proofs.KeepsHelp.{serving_within}

-- a change that writes an announcement
abbrev announces : Change → Bool
announces (Announce i w) = true
announces _ = false

said_stays : (c : Cell) (p j : ℕ) (change : Change) → (announces change ≡ true → j ≢ p) → announcement_of (cell_after c p change) j ≡ announcement_of c j
said_stays c p j Nothing apart = refl
said_stays c p j (Own i w) apart = refl
said_stays c p j (Refill ws) apart = refl
said_stays c p j (Announce i w) apart = get_or-set_other c.announcements p j _ [] (apart refl)
said_stays c p j Links apart = refl
said_stays c p j Exchanges apart = exchange_cases (λ d. announcement_of d j ≡ announcement_of c j) c p (λ _. refl) (λ _. refl)

-- who is linked behind another process's step was linked before
linked_before : (c : Cell) (p k : ℕ) (change : Change) → k ≢ p → is_linked (cell_after c p change) k ≡ true → is_linked c k ≡ true
linked_before c p k Nothing d e = e
linked_before c p k (Own i w) d e = e
linked_before c p k (Refill ws) d e = e
linked_before c p k (Announce i w) d e = e
linked_before c p k Links d e = sym (get_or-set_other c.linked p k true false d) ∙ e
linked_before c p k Exchanges d e = exchange_cases (λ a. is_linked a k ≡ true → is_linked c k ≡ true) c p (λ _ l. absurd (false≢true (sym (cleared (length c.linked) k) ∙ l))) (λ _ l. l) e

fetching_serves : (l : Label) → fetching l ≡ true → phase l ≡ Serving
fetching_serves Fetch e = refl
fetching_serves Check2 e = refl
fetching_serves l e = absurd (cc)

module _ {Run : Type 0} where
  announces_settled : (l : Label) (m : Meaning Run) (z : Sizes) (c : Cell) (p : ℕ) (q : Process Run) → announces (row l m z c p q).change ≡ true → phase l ≡ Settled
  announces_settled Post m z c p q e = refl
  announces_settled Flip m z c p q e = refl
  announces_settled l m z c p q e = absurd (cc)

  -- a process that fetches nothing
  pub out : (linked : Bool) (said : List ℤ) (y : Process Run) → fetching y.label ≡ false → Fetches linked said y
  out linked said y e = record { words = λ f. absurd (false≢true (sym e ∙ f)) }

  body_out : (z : Sizes) (t : EngineTurn) (q : Process Run) → q.label ≡ Body → fetching (after_body z t q).label ≡ false
  body_out z On q is = ap fetching is
  body_out z Returned q is = refl
  body_out z (Trapped k) q is = grind (arith, nat_tests)
  body_out z Stuck q is = ap fetching is

  own_fetches : (l : Label) (m : Meaning Run) (z : Sizes) (c : Cell) (p : ℕ) (q : Process Run) → q.label ≡ l → IsInRange z q → AllFetch c p q → AllFetch (cell_after c p (row l m z c p q).change) p (row l m z c p q).process
  own_fetches Seen m z c p q is range h =
      let j = q.registers.j in
      let next : Process Run = record q { registers = record q.registers { j = j + 1 } } in
      on (AllFetch c p) (nat_eq j z.processes) (to Commit q) (cond (int_eq (announced_toggle z c j) (toggle_in z (own_block c p) j)) next (at 0 Fetch q))
      (λ _. out _ _ (to Commit q) refl)
      (λ _. on (AllFetch c p) (int_eq (announced_toggle z c j) (toggle_in z (own_block c p) j)) next (at 0 Fetch q)
      (λ _. out _ _ next (ap fetching is))
      (λ _. record { words = λ f l k lt. absurd (omega (arith, lt)) }))
  own_fetches Fetch m z c p q is range h =
      let index = subst (λ (l : Label). index_in z l q.registers) is range.index in
      let i = q.registers.i in
      let word = word_at (announcement_of c q.registers.j) i in
      record {
        words = λ f l k lt. elim (cases_eq k i) [
          | inl e ↦ subst (λ (n : ℕ). word_at (set q.list i word) n ≡ word_at (announcement_of c q.registers.j) n) (sym e) (get_or-set_same q.list i word (pos 0) (omega (arith, index.0, range.list)))
          | inr d ↦ get_or-set_other q.list i k word (pos 0) d ∙ h.words (ap fetching is) l k (omega (arith, lt, d))
        ];
      }
  own_fetches Body m z c p q is range h = out _ _ (row Body m z c p q).process (body_out z (body_turn m z c p q).turn (record q { run = (body_turn m z c p q).run }) is)
  own_fetches l m z c p q is range h = out _ _ (row l m z c p q).process (let k = ap fetching is in grind (arith, nat_tests, k))

module _ {Run : Type 0} (m : Meaning Run) (z : Sizes) (c : Cell) (ps : List (Process Run)) (r : Records) (p : ℕ) (q : Process Run) where
  -- the process that acts is not one that a linked process serves, where it writes its announcement
  unserved : slice_get ps p ≡ Some q → IsHelpful z c ps r → (k : ℕ) (o : Process Run) → AllHelp z c ps r k o → IsInRange z o → fetching o.label ≡ true → is_linked c k ≡ true → announces (row q.label m z c p q).change ≡ true → o.registers.j ≢ p
  unserved at help k o helping range fetches linked writes e =
      let serves = fetching_serves o.label fetches in
      let mine = subst (λ (b : Bool). IsHelping z.processes (standing z c ps r) k b (own_toggles z c k) (phase o.label) o.registers.j (lost_rounds o.label b o.registers.round)) linked helping in
      let pending = served_pending z.processes (standing z c ps r) help.counted k (own_toggles z c k) (phase o.label) o.registers.j (lost_rounds o.label true o.registers.round) mine serves (serving_within z o.label o.registers range.index serves) in
      absurd ((help.helping p q at).settled (announces_settled q.label m z c p q writes) (subst (IsPending (standing z c ps r)) e pending))

  -- every step of p keeps it
  pub keeps_fetched : slice_get ps p ≡ Some q → IsFounded z c ps r → IsHelpful z c ps r → Each (AllFetch c) ps → Each (AllFetch (cell_after c p (row q.label m z c p q).change)) (set ps p (row q.label m z c p q).process)
  keeps_fetched at base help each =
      let change = (row q.label m z c p q).change in
      each_after (λ k o. AllFetch c k o × AllHelp z c ps r k o × IsInRange z o) (AllFetch (cell_after c p change)) ps p (row q.label m z c p q).process
      (λ k o e. (each k o e, help.helping k o e, base.in_range k o e))
      (own_fetches q.label m z c p q refl (base.in_range p q at) (each p q at))
      (λ k o d h. record {
        words = λ fetches linked i lt. (let before = linked_before c p k change d linked in
            h.0.words fetches before i lt
            ∙ ap (λ (ws : List ℤ). word_at ws i) (sym (said_stays c p o.registers.j change (unserved at help k o h.1 h.2 fetches before))));
      })
