-- Every step keeps help in order: what was fetched, what the root holds, and the own block of each process.
use Rattle.std.proofs.Common.{◌≡◌, ◌≢◌, ℕ, zero, suc, ◌<◌, ◌≤◌, Bool, true, false, List, [], ◌∷◌, ◌++◌, length, set, map, refl, sym, ap, ◌∙◌, arith, cond, inl, inr, subst}
use Rattle.std.specs.Prelude.{ℤ, Option, Some, None, slice_get, ◌⊎◌}
use Rattle.std.proofs.lemmas.Bool.{false≢true}
use Rattle.std.proofs.lemmas.List.{append-nil, get_or-set_other}
use Rattle.std.proofs.lemmas.Option.{slice_get_within}
use Rattle.ll_cell.specs.Cell.{Cell, own_of, is_linked, block_of, exchanged}
use Rattle.ob_interface.specs.Call.{ObjectCall, Reply}
use Rattle.wf_history.specs.declared.event.CallId.{CallId}
use Rattle.wf_history.specs.History.{Event, Applied}
use Rattle.wf_table.specs.declared.process.Label.{Label}
use Rattle.wf_table.specs.declared.process.Label.TheVariants.{Post, Flip, Try, Link, Mine, Seen, Fetch, Check2, Save, Enter, Body, Undo, Keep, Commit, Read}
use Rattle.wf_table.specs.declared.process.Registers.{Registers}
use Rattle.wf_table.specs.declared.process.Sizes.{Sizes}
use Rattle.wf_table.specs.Meaning.{Meaning}
use Rattle.wf_table.specs.Law.{Effects, IsLawful}
use Rattle.wf_table.specs.Ranges.{IsInRange, index_in}
use Rattle.wf_table.specs.StepTable.{Process, cell_after, row, own_block, toggle_in, to}
use Rattle.wf_table.specs.Object.{Records, State, noted, event_at, history_after, order_after, stepped, begun_of}
use Rattle.wf_table.specs.Sound.{IsSound}
use Rattle.wf_table.specs.Toggles.{flips}
use Rattle.wf_table.specs.Each.{Each}
use Rattle.wf_table.proofs.Frame.{each_after}
use Rattle.wf_table.specs.Helping.{Standing, IsPending, Settled, Serving, has_copied, looked_at, IsHelping}
use Rattle.wf_table.specs.HelpAndOrder.{phase, lost_rounds, standing, own_toggles, IsFounded, IsCommitted}
use Rattle.wf_table.proofs.Seen.{served_pending, made_pending}
use Rattle.wf_table.proofs.HelpAndOrderSteps.{same_root, same_own, same_order, unlinked_stays, row_exchanges, row_applies, private_step, flips_other}
use Rattle.wf_table.proofs.Applied.{new_ids, note}
use Rattle.wf_table.proofs.KeepsHelp.{Kind, Flips, Exchanges, Neither, kind, serving_within}
use Rattle.wf_table.proofs.KeepsOrder.{pending_begun}
use Rattle.wf_table.proofs.HelpAndOrderRuns.{founded}
use Rattle.wf_table.specs.Contents.{RootHolds}
use Rattle.wf_table.specs.Helps.{made_below, calls_of, Packs, AllFetched, AllPacked, IsHelped}
use Rattle.wf_table.specs.Labels.{holding, fetching}
use Rattle.wf_table.proofs.HelpOrders.{made_longer}
use Rattle.wf_table.proofs.HelpIds.{made_below-same}
use Rattle.wf_table.proofs.HelpOthers.{others_packed}
use Rattle.wf_table.proofs.HelpActing.{acts}
use Rattle.wf_table.proofs.Fetched.{no_link, linked_before, announces, others_fetched, own_fetched}

-- the events that a step adds to the history
abbrev pub new_events : Option (Event ObjectCall Reply) → List (Event ObjectCall Reply)
new_events None = []
new_events (Some event) = event ∷ []

pub grows : (history : List (Event ObjectCall Reply)) (event : Option (Event ObjectCall Reply)) → history_after history event ≡ history ++ new_events event
grows history None = sym (append-nil history)
grows history (Some event) = refl

pub looked_within : (z : Sizes) (l : Label) (g : Registers) → index_in z l g → has_copied (phase l) ≡ true → looked_at (phase l) g.j ≤ z.processes
looked_within z Mine g index e = omega arith
looked_within z Seen g index e = index
looked_within z Fetch g index e = omega (arith, index.1)
looked_within z Check2 g index e = omega (arith, index.1)
looked_within z Save g index e = omega (arith, index.1)
looked_within z Enter g index e = omega (arith, index)
looked_within z Body g index e = omega (arith, index)
looked_within z Undo g index e = omega (arith, index.1)
looked_within z Keep g index e = omega (arith, index.1)
looked_within z Commit g index e = omega (arith, index)
looked_within z l g index e = absurd (false≢true e)

fetches_serves : (l : Label) → fetching l ≡ true → phase l ≡ Serving
fetches_serves Fetch e = refl
fetches_serves Check2 e = refl
fetches_serves l e = absurd (false≢true e)

announces_settled : (l : Label) → announces l ≡ true → phase l ≡ Settled
announces_settled Post e = refl
announces_settled Flip e = refl
announces_settled l e = absurd (false≢true e)

holding_serves : (l : Label) → holding l ≡ true → phase l ≡ Serving
holding_serves Save e = refl
holding_serves Enter e = refl
holding_serves Body e = refl
holding_serves Undo e = refl
holding_serves Keep e = refl
holding_serves l e = absurd (false≢true e)

at_link : (l : Label) → (l ≡ Link) ⊎ (l ≢ Link)
at_link Link = inl refl
at_link l = inr (λ e. absurd (cc))

placed : {X : Type 0} (xs : List X) (p : ℕ) (x : X) → p < length xs → slice_get (set xs p x) p ≡ Some x
placed [] p x lt = absurd (omega (arith, lt))
placed (y ∷ xs) zero x lt = refl
placed (y ∷ xs) (suc p) x lt = placed xs p x (omega (arith, lt))

module _ {Run : Type 0} (m : Meaning Run) (lawful : List ℤ → Type 0) (fits : ObjectCall → Type 0) (ready : Run → Type 0) (Effect : Effects) (law : IsLawful m lawful fits ready Effect) (z : Sizes) (opening : List ℤ) (s : State Run) (sound : IsSound m lawful fits ready z opening s) (committed : IsCommitted z s) (h : IsHelped m lawful fits z opening s) (p : ℕ) (q : Process Run) (at : slice_get s.processes p ≡ Some q) where
  abbrev Behind : Cell → Process Run → Records → Type 0
  Behind c x r = IsHelped m lawful fits z opening (record { cell = c; processes = set s.processes p x; records = r })

  abbrev new_cell : Label → Cell
  new_cell l = cell_after s.cell p (row l m z s.cell p q).change

  abbrev after : Label → Process Run
  after l = (row l m z s.cell p q).process

  abbrev event : Label → Option (Event ObjectCall Reply)
  event l = event_at l m z s.cell s.processes p q

  abbrev new_records : Label → Records
  new_records l = noted s.records p l (own_of s.cell p) (event l)

  abbrev now : Standing
  now = standing z s.cell s.processes s.records

  abbrev root : List ℤ
  root = block_of s.cell s.cell.root

  base : IsFounded z s.cell s.processes s.records
  base = founded m lawful fits ready z opening s sound

  owns : p < length s.cell.own
  owns = omega (arith, slice_get_within s.processes p q at, sound.count, sound.shaped.owns)

  -- of a linked process, as its link has it
  helping : (k : ℕ) (o : Process Run) → slice_get s.processes k ≡ Some o → is_linked s.cell k ≡ true → IsHelping z.processes now k true (own_toggles z s.cell k) (phase o.label) o.registers.j (lost_rounds o.label true o.registers.round)
  helping k o e linked = subst (λ (b : Bool). IsHelping z.processes now k b (own_toggles z s.cell k) (phase o.label) o.registers.j (lost_rounds o.label b o.registers.round)) linked (committed.helpful.helping k o e)

  serves_pending : (k : ℕ) (o : Process Run) → slice_get s.processes k ≡ Some o → is_linked s.cell k ≡ true → phase o.label ≡ Serving → IsPending now o.registers.j
  serves_pending k o e linked serving = served_pending z.processes now committed.helpful.counted k (own_toggles z s.cell k) (phase o.label) o.registers.j (lost_rounds o.label true o.registers.round) (helping k o e linked) serving (serving_within z o.label o.registers (sound.in_range k o e).index serving)

  -- what was fetched
  fetched_by : (l : Label) → q.label ≡ l → Each (AllFetched z (new_cell l)) (set s.processes p (after l))
  fetched_by l is =
      each_after (λ k o. AllFetched z s.cell k o × (announces l ≡ true → is_linked s.cell k ≡ true → fetching o.label ≡ true → o.registers.j ≢ p)) (AllFetched z (new_cell l)) s.processes p (after l)
      (λ k o e. (h.fetched k o e, λ says linked fetching same. (committed.helpful.helping p q at).settled (ap phase is ∙ announces_settled l says) (subst (IsPending now) same (serves_pending k o e linked (fetches_serves o.label fetching)))))
      (own_fetched m z s.cell p q l is (λ e. (let places = subst (λ (n : Label). index_in z n q.registers) (is ∙ e) (sound.in_range p q at).index in (omega (arith, places.0, (sound.in_range p q at).list), places.0))) (h.fetched p q at))
      (λ k o d both. others_fetched m z s.cell p q l k o d both.1 both.0)

  -- what the root holds, where no exchange is made
  root_stays : (l : Label) → (l ≡ Commit → is_linked s.cell p ≡ false) → RootHolds m lawful z opening (history_after s.records.history (event l)) (order_after s.records.order (event l)) (block_of (new_cell l) (new_cell l).root)
  root_stays l none =
      let block = same_root s.cell p (row l m z s.cell p q).change owns sound.numbered (row_exchanges l m z s.cell p q none) in
      let order = same_order s.records.order (event l) (row_applies l m z s.cell s.processes p q none) in
      rw (block, order) (record {
        words = h.root.words;
        last = h.root.last;
        made = rw (grows s.records.history (event l)) (made_longer m lawful opening s.records.history (new_events (event l)) s.records.order h.root.words h.root.last h.root.made);
        variables = h.root.variables;
        replies = h.root.replies;
      })

  -- a step that neither flips nor exchanges
  moved : (l : Label) → q.label ≡ l → l ≢ Flip → (l ≡ Commit → is_linked s.cell p ≡ false) → (k : ℕ) (own : List ℤ) (x : Process Run) → (is_linked (new_cell l) k ≡ true → is_linked s.cell k ≡ true) → (has_copied (phase x.label) ≡ true → looked_at (phase x.label) x.registers.j ≤ z.processes) → Packs m lawful fits z opening s.records.history s.records.order (map flips s.processes) (is_linked s.cell k) root own x.label x → Packs m lawful fits z opening (history_after s.records.history (event l)) (order_after s.records.order (event l)) (map flips (set s.processes p (after l))) (is_linked (new_cell l) k) (block_of (new_cell l) (new_cell l).root) own x.label x
  moved l is other none k own x held within old =
      let same = private_step l m z s.cell s.processes s.records p q is at owns sound.numbered (sound.in_range p q at) other none in
      subst (λ (history : List (Event ObjectCall Reply)). Packs m lawful fits z opening history (order_after s.records.order (event l)) (map flips (set s.processes p (after l))) (is_linked (new_cell l) k) (block_of (new_cell l) (new_cell l).root) own x.label x) (sym (grows s.records.history (event l)))
      (others_packed m lawful fits z opening s.records.history (new_events (event l)) s.records.order (order_after s.records.order (event l)) (map flips s.processes) (map flips (set s.processes p (after l))) (is_linked s.cell k) (is_linked (new_cell l) k) root (block_of (new_cell l) (new_cell l).root) own x.label x
      held (λ _. same_order s.records.order (event l) (row_applies l m z s.cell s.processes p q none)) (λ _ i lt. same.root i) (λ _ i lt d. same.flips i) (λ _ _. same.flips x.registers.j) within old)

  own_link : (l : Label) → l ≢ Link → (l ≡ Commit → is_linked s.cell p ≡ false) → is_linked (new_cell l) p ≡ is_linked s.cell p
  own_link Link d none = absurd (d refl)
  own_link Commit d none = ap (λ (c : Cell). is_linked c p) (unlinked_stays s.cell p (none refl))
  own_link l d none = refl

  own_moved : (l : Label) → q.label ≡ l → l ≢ Flip → (l ≡ Commit → is_linked s.cell p ≡ false) → IsInRange z (after l) → AllPacked m lawful fits z opening (new_cell l) (set s.processes p (after l)) (new_records l) p (after l)
  own_moved l is other none range =
      elim (at_link l) [
        | inl e ↦ subst (λ (k : Label). AllPacked m lawful fits z opening (new_cell k) (set s.processes p (after k)) (new_records k) p (after k)) (sym e) (λ copied. absurd (false≢true copied))
        | inr d ↦ moved l is other none p (own_block (new_cell l) p) (after l) (λ on. sym (own_link l d none) ∙ on) (looked_within z (after l).label (after l).registers range.index) (acts m lawful fits ready Effect law z opening s sound committed h p q at l is)
      ]

  pub neither : (l : Label) → q.label ≡ l → l ≢ Flip → (l ≡ Commit → is_linked s.cell p ≡ false) → IsInRange z (after l) → Behind (new_cell l) (after l) (new_records l)
  neither l is other none range = record {
    fetched = fetched_by l is;
    root = root_stays l none;
    packed = each_after (λ k o. AllPacked m lawful fits z opening s.cell s.processes s.records k o × (k < length s.cell.own) × IsInRange z o) (AllPacked m lawful fits z opening (new_cell l) (set s.processes p (after l)) (new_records l)) s.processes p (after l)
        (λ k o e. (h.packed k o e, omega (arith, slice_get_within s.processes k o e, sound.count, sound.shaped.owns), sound.in_range k o e))
        (own_moved l is other none range)
        (λ k o d old. subst (λ (own : List ℤ). Packs m lawful fits z opening (history_after s.records.history (event l)) (order_after s.records.order (event l)) (map flips (set s.processes p (after l))) (is_linked (new_cell l) k) (block_of (new_cell l) (new_cell l).root) own o.label o) (sym (same_own s.cell p k (row l m z s.cell p q).change owns old.1 d sound.numbered (row_exchanges l m z s.cell p q none)))
        (moved l is other none k (own_block s.cell k) o (linked_before s.cell p k (row l m z s.cell p q).change d) (looked_within z o.label o.registers old.2.index) old.0));
  }

  -- FLIP: its process was not pending, so no linked one has helped it
  others_flip : q.label ≡ Flip → (k : ℕ) (o : Process Run) → slice_get s.processes k ≡ Some o → AllPacked m lawful fits z opening s.cell s.processes s.records k o → AllPacked m lawful fits z opening (new_cell Flip) (set s.processes p (after Flip)) (new_records Flip) k o
  others_flip is k o e old =
      let settled = (committed.helpful.helping p q at).settled (ap phase is) in
      subst (λ (history : List (Event ObjectCall Reply)). Packs m lawful fits z opening history s.records.order (map flips (set s.processes p (after Flip))) (is_linked s.cell k) root (own_block s.cell k) o.label o) (append-nil s.records.history)
      (λ copied. others_packed m lawful fits z opening s.records.history [] s.records.order s.records.order (map flips s.processes) (map flips (set s.processes p (after Flip))) (is_linked s.cell k) (is_linked s.cell k) root root (own_block s.cell k) o.label o
      (λ on. on) (λ _. refl) (λ _ i lt. refl)
      (λ on i lt d. flips_other s.processes p i (after Flip) (λ same. settled (subst (IsPending now) same (made_pending z.processes now committed.helpful.counted k (own_toggles z s.cell k) (phase o.label) o.registers.j (lost_rounds o.label true o.registers.round) (helping k o e on) copied i lt d))))
      (λ on holds. flips_other s.processes p o.registers.j (after Flip) (λ same. settled (subst (IsPending now) same (serves_pending k o e on (holding_serves o.label holds)))))
      (looked_within z o.label o.registers (sound.in_range k o e).index) old copied)

  pub flipping : q.label ≡ Flip → Behind (new_cell Flip) (after Flip) (new_records Flip)
  flipping is = record {
    fetched = fetched_by Flip is;
    root = h.root;
    packed = each_after (λ k o. AllPacked m lawful fits z opening (new_cell Flip) (set s.processes p (after Flip)) (new_records Flip) k o) (AllPacked m lawful fits z opening (new_cell Flip) (set s.processes p (after Flip)) (new_records Flip)) s.processes p (after Flip)
        (λ k o e. others_flip is k o e (h.packed k o e))
        (λ copied. absurd (false≢true copied))
        (λ k o d new. new);
  }

  -- an exchange: no other process is linked
  others_exchange : (k : ℕ) (o : Process Run) → k ≢ p → IsInRange z o → AllPacked m lawful fits z opening s.cell s.processes s.records k o → AllPacked m lawful fits z opening (exchanged s.cell p) (set s.processes p (to Read q)) (note z s.cell s.processes s.records p) k o
  others_exchange k o d range old =
      let none : is_linked (exchanged s.cell p) k ≡ true → ⊥ = λ on. false≢true (sym (no_link s.cell p k) ∙ on) in
      subst (λ (own : List ℤ). Packs m lawful fits z opening (note z s.cell s.processes s.records p).history (note z s.cell s.processes s.records p).order (map flips (set s.processes p (to Read q))) (is_linked (exchanged s.cell p) k) (block_of (exchanged s.cell p) (exchanged s.cell p).root) own o.label o) (ap (λ (b : ℕ). block_of s.cell b) (sym (get_or-set_other s.cell.own p k s.cell.root 0 d)))
      (others_packed m lawful fits z opening s.records.history (Applied (new_ids z s.cell s.processes s.records p) ∷ []) s.records.order (note z s.cell s.processes s.records p).order (map flips s.processes) (map flips (set s.processes p (to Read q))) (is_linked s.cell k) (is_linked (exchanged s.cell p) k) root (block_of (exchanged s.cell p) (exchanged s.cell p).root) (own_block s.cell k) o.label o
      (λ on. absurd (none on)) (λ on. absurd (none on)) (λ on. absurd (none on)) (λ on. absurd (none on)) (λ on. absurd (none on)) (looked_within z o.label o.registers range.index) old)

  -- the block that becomes the root holds the order
  root_exchanged : q.label ≡ Commit → is_linked s.cell p ≡ true → RootHolds m lawful z opening (note z s.cell s.processes s.records p).history (note z s.cell s.processes s.records p).order (own_block s.cell p)
  root_exchanged is linked =
      let ids = new_ids z s.cell s.processes s.records p in
      let old = subst (λ (l : Label). Packs m lawful fits z opening s.records.history s.records.order (map flips s.processes) (is_linked s.cell p) root (own_block s.cell p) l q) is (h.packed p q at) in
      let w = (old refl).0 in
      let mine = (old refl).1 in
      let looked : q.registers.j ≡ z.processes = subst (λ (l : Label). index_in z l q.registers) is (sound.in_range p q at).index in
      let own = helping p q at linked in
      let pends : (k : ℕ) → k < z.processes → toggle_in z root k ≢ toggle_in z (own_block s.cell p) k → IsPending now k = λ k lt d. made_pending z.processes now committed.helpful.counted p (own_toggles z s.cell p) (phase q.label) q.registers.j (lost_rounds q.label true q.registers.round) own (ap (λ (l : Label). has_copied (phase l)) is) k lt (λ e. d (sym e)) in
      let helped : w.helped ≡ ids = (mine.current linked).helped ∙ ap (λ (n : ℕ). made_below z root (own_block s.cell p) (map flips s.processes) n) looked
      ∙ made_below-same z root (own_block s.cell p) root (own_block s.cell p) (map flips s.processes) (begun_of s.processes) z.processes (λ k lt. refl) (λ k lt. refl) (λ k lt d. sym (pending_begun z s.cell s.processes s.records base committed.helpful k lt (pends k lt d))) in
      let before : w.before ≡ s.records.order = (mine.current linked).before in
      let all : calls_of w ≡ s.records.order ++ ids = ap (λ (xs : List CallId). xs ++ w.helped) before ∙ ap (λ (xs : List CallId). s.records.order ++ xs) helped in
      let made = made_longer m lawful opening s.records.history (Applied ids ∷ []) (calls_of w) w.words w.last mine.listed.made in
      subst (λ (order : List CallId). RootHolds m lawful z opening (note z s.cell s.processes s.records p).history order (own_block s.cell p)) all
      (record {
        words = w.words;
        last = w.last;
        made = made;
        variables = mine.variables refl;
        replies = λ k i lt less. mine.parts.replies k i lt less (λ e. absurd (false≢true e));
      })

  pub exchanging : q.label ≡ Commit → is_linked s.cell p ≡ true → Behind (exchanged s.cell p) (to Read q) (note z s.cell s.processes s.records p)
  exchanging is linked = record {
    fetched = λ k o e. record { front = λ on. absurd (false≢true (sym (no_link s.cell p k) ∙ on)) };
    root = root_exchanged is linked;
    packed = each_after (λ k o. AllPacked m lawful fits z opening s.cell s.processes s.records k o × IsInRange z o) (AllPacked m lawful fits z opening (exchanged s.cell p) (set s.processes p (to Read q)) (note z s.cell s.processes s.records p)) s.processes p (to Read q)
        (λ k o e. (h.packed k o e, sound.in_range k o e))
        (λ copied. absurd (false≢true copied))
        (λ k o d both. others_exchange k o d both.1 both.0);
  }

  kinds : (l : Label) → Kind l (is_linked s.cell p) → q.label ≡ l → IsInRange z (after l) → Behind (new_cell l) (after l) (new_records l)
  kinds l (Flips e) is range = subst (λ (k : Label). Behind (new_cell k) (after k) (new_records k)) (sym e) (flipping (is ∙ e))
  kinds l (Exchanges e linked) is range =
      subst (λ (k : Label). Behind (new_cell k) (after k) (new_records k)) (sym e)
      (subst (λ (b : Bool). Behind (cond b (exchanged s.cell p) s.cell) (cond b (to Read q) (to Try q)) (noted s.records p Commit (own_of s.cell p) (cond b (Some (Applied (new_ids z s.cell s.processes s.records p))) None))) (sym linked)
      (exchanging (is ∙ e) linked))
  kinds l (Neither other none) is range = neither l is other none range

  -- every step of p
  pub step_helps : IsSound m lawful fits ready z opening (stepped m z s p q) → IsHelped m lawful fits z opening (stepped m z s p q)
  step_helps next = kinds q.label (kind q.label (is_linked s.cell p)) refl (next.in_range p (after q.label) (placed s.processes p (after q.label) (slice_get_within s.processes p q at)))
