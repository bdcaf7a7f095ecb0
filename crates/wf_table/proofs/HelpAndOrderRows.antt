-- What each row but FLIP and the exchange leaves to its process.
use Rattle.std.proofs.Common.{◌≡◌, ◌≢◌, ℕ, ◌+◌, ◌-◌, ◌%◌, ◌<◌, ◌≤◌, Bool, true, false, List, length, refl, sym, ap, ◌∙◌, arith, cond, inl, inr, subst, int_eq, Decides}
use Rattle.std.specs.Prelude.{ℤ, pos, nat_eq}
use Rattle.std.proofs.lemmas.Bool.{eqb-true, eq-eqb, false≢true}
use Rattle.std.proofs.lemmas.Bool.Decides.{nat_tests, Decides-int_eq}
use Rattle.std.proofs.lemmas.List.{get_or-set_same}
use Rattle.ll_cell.specs.Cell.{Cell, own_of, is_linked, block_of, word_at, exchanged}
use Rattle.wf_table.specs.declared.engine_turn.EngineTurn.{EngineTurn}
use Rattle.wf_table.specs.declared.engine_turn.EngineTurn.TheVariants.{On, Returned, Trapped, Stuck}
use Rattle.wf_table.specs.declared.process.Label.{Label}
use Rattle.wf_table.specs.declared.process.Label.TheVariants.{Next, Post, Flip, Try, Link, Load, Store, Check1, Mine, Seen, Fetch, Check2, Save, Enter, Body, Undo, Keep, Commit, Read, Take, Give}
use Rattle.wf_table.specs.declared.process.Sizes.{Sizes}
use Rattle.wf_table.specs.Meaning.{Meaning}
use Rattle.wf_table.specs.StepTable.{Process, part, kept_word, Own, cell_after, row, after_body, body_turn, own_block, block_words, toggle_in, toggle_place, announced_toggle, inverted, to, at}
use Rattle.wf_table.specs.Ranges.{IsShaped, IsInRange, index_in}
use Rattle.wf_table.specs.Labels.{copying}
use Rattle.wf_table.specs.Copies.{AllCopyRoot}
use Rattle.wf_table.specs.Object.{Records}
use Rattle.wf_table.specs.Toggles.{IsBit, AreBits}
use Rattle.wf_table.specs.Helping.{Standing, IsPending, IsNewer, IsCounted, Phase, Settled, Trying, Looking, Serving, IsHelping}
use Rattle.wf_table.specs.HelpAndOrder.{phase, lost_rounds, own_toggles, standing}
use Rattle.wf_table.proofs.Changes.{IsSame}
use Rattle.wf_table.proofs.HelpAndOrderOthers.{same_helping}
use Rattle.wf_table.proofs.HelpAndOrderActing.{settles, tries, asks, looks, passes, serves, makes}
use Rattle.wf_table.proofs.Words.{toggle_within}
use Rattle.wf_table.proofs.Toggles.{variable_written, variables_written, reply_written, others_toggles, toggle_written}

settled_lost : (l : Label) (linked : Bool) (round : ℕ) → phase l ≡ Settled → lost_rounds l linked round ≡ 0
settled_lost Next linked round e = refl
settled_lost Post linked round e = refl
settled_lost Flip linked round e = refl
settled_lost Read linked round e = refl
settled_lost Take linked round e = refl
settled_lost Give linked round e = refl
settled_lost l linked round e = absurd (cc)

serving_lost : (l : Label) (linked : Bool) (round : ℕ) → phase l ≡ Serving → lost_rounds l linked round ≡ cond linked (round - 1) round
serving_lost Fetch linked round e = refl
serving_lost Check2 linked round e = refl
serving_lost Save linked round e = refl
serving_lost Enter linked round e = refl
serving_lost Body linked round e = refl
serving_lost Undo linked round e = refl
serving_lost Keep linked round e = refl
serving_lost l linked round e = absurd (cc)

nothing_moves : (s : Standing) → IsSame s s
nothing_moves s = record { flips = λ k. refl; applied = λ k. refl; root = λ k. refl; announced = λ k. refl; flip_mark = λ k. refl; root_mark = refl }

-- a bit that is not the parity, inverted
inverts : (a : ℤ) (k : ℕ) → IsBit a → a ≢ pos (k % 2) → inverted a ≡ pos (k % 2)
inverts a k (inl is) d = (let odd : k % 2 ≡ 1 = (let one : k % 2 ≢ 0 = λ e. d (is ∙ ap pos (sym e)) in omega (arith, one)) in rw (is, odd) refl)
inverts a k (inr is) d = (let even : k % 2 ≡ 0 = (let zero : k % 2 ≢ 1 = λ e. d (is ∙ ap pos (sym e)) in omega (arith, zero)) in rw (is, even) refl)

-- by a test
pub on : {X : Type 0} (P : X → Type 0) (b : Bool) (x y : X) → (b ≡ true → P x) → (b ≡ false → P y) → P (cond b x y)
on P true x y h k = h refl
on P false x y h k = k refl

same_by : (x y : ℤ) (b : Bool) → Decides b (x ≡ y) → b ≡ true → x ≡ y
same_by x y b d e = d.0 e

other_by : (x y : ℤ) (b : Bool) → Decides b (x ≡ y) → b ≡ false → x ≢ y
other_by x y b d e same = false≢true (sym e ∙ d.1 same)

-- the rounds lost by who is not linked in a round
unlinked_lost : (n : ℕ) (s : Standing) (p : ℕ) (linked : Bool) (own : ℕ → ℤ) (f : Phase) (j round : ℕ) → IsHelping n s p linked own f j (cond linked (round - 1) round) → linked ≡ false → (0 < round → IsNewer s p) × (1 < round → ¬ IsPending s p)
unlinked_lost n s p true own f j round h e = absurd (false≢true (sym e))
unlinked_lost n s p false own f j round h e = (h.lost_one, h.lost_two)

module _ {Run : Type 0} (n : ℕ) (s : Standing) (p : ℕ) where
  -- a process that stands at y
  abbrev pub Stands : Bool → (ℕ → ℤ) → Process Run → Type 0
  Stands linked own y = IsHelping n s p linked own (phase y.label) y.registers.j (lost_rounds y.label linked y.registers.round)

  pub rests : (linked : Bool) (own : ℕ → ℤ) (y : Process Run) → phase y.label ≡ Settled → ¬ IsPending s p → Stands linked own y
  rests linked own y e none =
      subst (λ (f : Phase). IsHelping n s p linked own f y.registers.j (lost_rounds y.label linked y.registers.round)) (sym e)
      (subst (λ (lost : ℕ). IsHelping n s p linked own Settled y.registers.j lost) (sym (settled_lost y.label linked y.registers.round e))
      (settles n s p linked own y.registers.j none))

  still_serves : (linked : Bool) (own own' : ℕ → ℤ) (q y : Process Run) → phase y.label ≡ Serving → y.registers.j ≡ q.registers.j → y.registers.round ≡ q.registers.round → ((k : ℕ) → own' k ≡ own k) → IsHelping n s p linked own Serving q.registers.j (cond linked (q.registers.round - 1) q.registers.round) → Stands linked own' y
  still_serves linked own own' q y e j round kept h =
      subst (λ (f : Phase). IsHelping n s p linked own' f y.registers.j (lost_rounds y.label linked y.registers.round)) (sym e)
      (subst (λ (lost : ℕ). IsHelping n s p linked own' Serving y.registers.j lost) (sym (serving_lost y.label linked y.registers.round e))
      (subst (λ (k : ℕ). IsHelping n s p linked own' Serving k (cond linked (y.registers.round - 1) y.registers.round)) (sym j)
      (subst (λ (k : ℕ). IsHelping n s p linked own' Serving q.registers.j (cond linked (k - 1) k)) (sym round)
      (same_helping n s s p linked own Serving q.registers.j _ h own' (nothing_moves s) kept))))

  -- who is not linked at a check has lost the round
  checked : (linked : Bool) (own : ℕ → ℤ) (q : Process Run) (l : Label) → (linked ≡ true → IsHelping n s p true own (phase l) q.registers.j (lost_rounds l true q.registers.round)) → (linked ≡ false → (0 < q.registers.round → IsNewer s p) × (1 < q.registers.round → ¬ IsPending s p)) → Stands linked own (cond linked (at 0 l q) (to Try q))
  checked true own q l here lost = here refl
  checked false own q l here lost = tries n s p false own q.registers.j q.registers.round (lost refl).0 (lost refl).1

  body_serves : (linked : Bool) (own own' : ℕ → ℤ) (z : Sizes) (t : EngineTurn) (q : Process Run) → q.label ≡ Body → ((k : ℕ) → own' k ≡ own k) → IsHelping n s p linked own Serving q.registers.j (cond linked (q.registers.round - 1) q.registers.round) → Stands linked own' (after_body z t q)
  body_serves linked own own' z On q is kept h = still_serves linked own own' q q (ap phase is) refl refl kept h
  body_serves linked own own' z Returned q is kept h = still_serves linked own own' q (after_body z Returned q) refl refl refl kept h
  body_serves linked own own' z (Trapped k) q is kept h = still_serves linked own own' q (after_body z (Trapped k) q) (grind (arith, nat_tests)) refl refl kept h
  body_serves linked own own' z Stuck q is kept h = still_serves linked own own' q q (ap phase is) refl refl kept h

-- COMMIT without the link
given_up : {Run : Type 0} (n : ℕ) (s : Standing) (p : ℕ) (linked : Bool) (own : ℕ → ℤ) (z : Sizes) (c : Cell) (q : Process Run) → linked ≡ false → IsHelping n s p linked own Looking q.registers.j (cond linked (q.registers.round - 1) q.registers.round) → Stands n s p (is_linked (cond linked (exchanged c p) c) p) (own_toggles z (cond linked (exchanged c p) c) p) (cond linked (to Read q) (to Try q))
given_up n s p true own z c q e h = absurd (false≢true (sym e))
given_up n s p false own z c q e h = tries n s p (is_linked c p) (own_toggles z c p) q.registers.j q.registers.round h.lost_one h.lost_two

-- a step of process p, which stands at q, that neither flips nor exchanges
module _ {Run : Type 0} (m : Meaning Run) (z : Sizes) (c : Cell) (ps : List (Process Run)) (r : Records) (p : ℕ) (q : Process Run) where
  abbrev Now : Standing
  Now = standing z c ps r

  abbrev Was : Label → Type 0
  Was l = IsHelping z.processes Now p (is_linked c p) (own_toggles z c p) (phase l) q.registers.j (lost_rounds l (is_linked c p) q.registers.round)

  abbrev Will : Label → Type 0
  Will l = Stands z.processes Now p (is_linked (cell_after c p (row l m z c p q).change) p) (own_toggles z (cell_after c p (row l m z c p q).change) p) (row l m z c p q).process

  tried : Was Try → Will Try
  tried h = on (Stands z.processes Now p (is_linked c p) (own_toggles z c p)) (nat_eq q.registers.round 2) (to Read q) (record q { label = Link; registers = record q.registers { round = q.registers.round + 1 } })
      (λ e. rests z.processes Now p (is_linked c p) (own_toggles z c p) (to Read q) refl (h.lost_two (omega (arith, eqb-true q.registers.round 2 e))))
      (λ _. tries z.processes Now p (is_linked c p) (own_toggles z c p) q.registers.j (q.registers.round + 1 - 1) (λ lt. h.lost_one (omega (arith, lt))) (λ lt. h.lost_two (omega (arith, lt))))

  linked_up : p < length c.linked → Was Link → Will Link
  linked_up within h = subst (λ (b : Bool). IsHelping z.processes Now p b (own_toggles z c p) Trying q.registers.j (cond b (q.registers.round - 1) q.registers.round)) (sym (get_or-set_same c.linked p true false within))
      (tries z.processes Now p true (own_toggles z c p) q.registers.j (q.registers.round - 1) h.lost_one h.lost_two)

  stored : Was Store → Will Store
  stored h = on (λ (l : Label). Stands z.processes Now p (is_linked c p) (own_toggles z (cell_after c p (row Store m z c p q).change) p) (at (q.registers.i + 1) l q)) (nat_eq (q.registers.i + 1) (block_words z)) Check1 Load
      (λ _. tries z.processes Now p (is_linked c p) _ q.registers.j _ h.lost_one h.lost_two)
      (λ _. tries z.processes Now p (is_linked c p) _ q.registers.j _ h.lost_one h.lost_two)

  copied : IsCounted z.processes Now → p < z.processes → (is_linked c p ≡ true → (k : ℕ) → k < z.processes → own_toggles z c p k ≡ toggle_in z (block_of c c.root) k) → Was Check1 → Will Check1
  copied counted lt whole h = checked z.processes Now p (is_linked c p) (own_toggles z c p) q Mine
      (λ e. asks z.processes Now counted p q.registers.j (q.registers.round - 1) (own_toggles z c p) lt
      (subst (λ (b : Bool). IsHelping z.processes Now p b (own_toggles z c p) Trying q.registers.j (cond b (q.registers.round - 1) q.registers.round)) e h) (whole e))
      (unlinked_lost z.processes Now p (is_linked c p) (own_toggles z c p) Trying q.registers.j q.registers.round h)

  asked : IsCounted z.processes Now → p < z.processes → Was Mine → Will Mine
  asked counted lt h =
      let own = toggle_in z (own_block c p) p in
      let said = announced_toggle z c p in
      on (Stands z.processes Now p (is_linked c p) (own_toggles z c p)) (int_eq own said) (to Read q) (record q { label = Seen; registers = record q.registers { j = 0 } })
      (λ e. rests z.processes Now p (is_linked c p) (own_toggles z c p) (to Read q) refl (h.found_applied refl (same_by own said (int_eq own said) (Decides-int_eq own said) e)))
      (λ e. looks z.processes Now counted p q.registers.j _ (is_linked c p) (own_toggles z c p) lt h (other_by own said (int_eq own said) (Decides-int_eq own said) e))

  seen : IsCounted z.processes Now → q.label ≡ Seen → Was Seen → Will Seen
  seen counted is h =
      let j = q.registers.j in
      let own = toggle_in z (own_block c p) j in
      let said = announced_toggle z c j in
      let next : Process Run = record q { registers = record q.registers { j = j + 1 } } in
      let stands = Stands z.processes Now p (is_linked c p) (own_toggles z c p) in
      on stands (nat_eq j z.processes) (to Commit q) (cond (int_eq said own) next (at 0 Fetch q))
      (λ _. h)
      (λ _. on stands (int_eq said own) next (at 0 Fetch q)
      (λ e. subst (λ (l : Label). IsHelping z.processes Now p (is_linked c p) (own_toggles z c p) (phase l) (j + 1) (lost_rounds l (is_linked c p) q.registers.round)) (sym is)
      (passes z.processes Now counted p j _ (is_linked c p) (own_toggles z c p) h (sym (same_by said own (int_eq said own) (Decides-int_eq said own) e))))
      (λ e. serves z.processes Now counted p j _ (is_linked c p) (own_toggles z c p) h (λ same. other_by said own (int_eq said own) (Decides-int_eq said own) e (sym same))))

  checked_again : Was Check2 → Will Check2
  checked_again h =
      let lost = unlinked_lost z.processes Now p (is_linked c p) (own_toggles z c p) Serving q.registers.j q.registers.round h in
      let linked : is_linked c p ≡ true → IsHelping z.processes Now p true (own_toggles z c p) Serving q.registers.j (q.registers.round - 1) =
      λ e. subst (λ (b : Bool). IsHelping z.processes Now p b (own_toggles z c p) Serving q.registers.j (cond b (q.registers.round - 1) q.registers.round)) e h in
      on (λ (l : Label). Stands z.processes Now p (is_linked c p) (own_toggles z c p) (cond (is_linked c p) (at 0 l q) (to Try q))) (nat_eq z.variables 0) Enter Save
      (λ _. checked z.processes Now p (is_linked c p) (own_toggles z c p) q Enter linked lost)
      (λ _. checked z.processes Now p (is_linked c p) (own_toggles z c p) q Save linked lost)

  undone : q.registers.i < z.variables → Was Undo → Will Undo
  undone lt h =
      let kept : (k : ℕ) → own_toggles z (cell_after c p (row Undo m z c p q).change) p k ≡ own_toggles z c p k = λ k. variable_written z c p k q.registers.i (word_at q.save q.registers.i) lt in
      on (Stands z.processes Now p (is_linked c p) (own_toggles z (cell_after c p (row Undo m z c p q).change) p)) (nat_eq (q.registers.i + 1) z.variables) (at 0 Keep q) (at (q.registers.i + 1) Undo q)
      (λ _. still_serves z.processes Now p (is_linked c p) (own_toggles z c p) _ q (at 0 Keep q) refl refl refl kept h)
      (λ _. still_serves z.processes Now p (is_linked c p) (own_toggles z c p) _ q (at (q.registers.i + 1) Undo q) refl refl refl kept h)

  -- KEEP, behind a word of the reply and behind the toggle
  kept_reply : q.registers.i < z.replies + 1 → Was Keep → Stands z.processes Now p (is_linked c p) (own_toggles z (cell_after c p (row Keep m z c p q).change) p) (at (q.registers.i + 1) Keep q)
  kept_reply lt h = still_serves z.processes Now p (is_linked c p) (own_toggles z c p) _ q (at (q.registers.i + 1) Keep q) refl refl refl (λ k. reply_written z c p q.registers.j k q.registers.i (kept_word m z c p q) lt) h

  kept_toggle : IsCounted z.processes Now → q.registers.j < z.processes → own_of c p < length c.blocks → length (own_block c p) ≡ block_words z → IsBit (own_toggles z c p q.registers.j) → q.registers.i ≡ z.replies + 1 → Was Keep → IsHelping z.processes Now p (is_linked c p) (own_toggles z (cell_after c p (row Keep m z c p q).change) p) Looking (q.registers.j + 1) (cond (is_linked c p) (q.registers.round - 1) q.registers.round)
  kept_toggle counted lt within long bit last h =
      let j = q.registers.j in
      let turned : kept_word m z c p q ≡ inverted (own_toggles z c p j) = grind (arith, nat_tests, last) in
      let place : part z j + q.registers.i ≡ part z j + (z.replies + 1) = omega (arith, last) in
      let new = own_toggles z (cell_after c p (row Keep m z c p q).change) p in
      let here : new j ≡ kept_word m z c p q = subst (λ (i : ℕ). own_toggles z (cell_after c p (Own i (kept_word m z c p q))) p j ≡ kept_word m z c p q) (sym place) (toggle_written z c p j (kept_word m z c p q) lt within long) in
      let others : (k : ℕ) → k ≢ j → new k ≡ own_toggles z c p k = λ k d. subst (λ (i : ℕ). own_toggles z (cell_after c p (Own i (kept_word m z c p q))) p k ≡ own_toggles z c p k) (sym place) (others_toggles z c p j k (kept_word m z c p q) d) in
      makes z.processes Now counted p j _ (is_linked c p) (own_toggles z c p) new lt h others (λ l. here ∙ turned ∙ inverts (own_toggles z c p j) _ bit (λ e. h.wanted_help refl l (e ∙ sym (counted.announced j lt))) ∙ sym (counted.announced j lt))

  kept : IsCounted z.processes Now → IsShaped z c → own_of c p < length c.blocks → IsBit (own_toggles z c p q.registers.j) → (q.registers.i < z.replies + 2) × (q.registers.j < z.processes) → Was Keep → Will Keep
  kept counted shaped within bit index h =
      let j = q.registers.j in
      let end : Process Run = record q { label = Seen; registers = record q.registers { i = 0; j = q.registers.j + 1 } } in
      on (Stands z.processes Now p (is_linked c p) (own_toggles z (cell_after c p (row Keep m z c p q).change) p)) (nat_eq (q.registers.i + 1) (z.replies + 2)) end (at (q.registers.i + 1) Keep q)
      (λ e. kept_toggle counted index.1 within (shaped.block (own_of c p) within) bit (let last = eqb-true (q.registers.i + 1) (z.replies + 2) e in omega (arith, last)) h)
      (λ e. kept_reply (let d : q.registers.i + 1 ≢ z.replies + 2 = (λ same. false≢true (sym e ∙ eq-eqb _ _ same)) in omega (arith, d, index.0)) h)

  pub own_helps : (l : Label) → length (body_turn m z c p q).block ≤ z.variables → IsCounted z.processes Now → p < z.processes → IsShaped z c → IsInRange z q → AreBits z c → AllCopyRoot c p q → q.label ≡ l → l ≢ Flip → (l ≡ Commit → is_linked c p ≡ false) → Was l → Will l
  own_helps Next few counted lt shaped range bits copies is other none h = rests z.processes Now p (is_linked c p) (own_toggles z c p) (row Next m z c p q).process (let k = ap phase is in grind (arith, nat_tests, k)) (h.settled refl)
  own_helps Post few counted lt shaped range bits copies is other none h = rests z.processes Now p (is_linked c p) _ (row Post m z c p q).process (let k = ap phase is in grind (arith, nat_tests, k)) (h.settled refl)
  own_helps Flip few counted lt shaped range bits copies is other none h = absurd (other refl)
  own_helps Try few counted lt shaped range bits copies is other none h = tried h
  own_helps Link few counted lt shaped range bits copies is other none h = linked_up (omega (arith, lt, shaped.links)) h
  own_helps Load few counted lt shaped range bits copies is other none h = tries z.processes Now p (is_linked c p) (own_toggles z c p) q.registers.j _ h.lost_one h.lost_two
  own_helps Store few counted lt shaped range bits copies is other none h = stored h
  own_helps Check1 few counted lt shaped range bits copies is other none h =
      let index = subst (λ (k : Label). index_in z k q.registers) is range.index in
      copied counted lt (λ l k less. copies.front (ap copying is) l (toggle_place z k) (omega (arith, index, toggle_within z k less))) h
  own_helps Mine few counted lt shaped range bits copies is other none h = asked counted lt h
  own_helps Seen few counted lt shaped range bits copies is other none h = seen counted is h
  own_helps Fetch few counted lt shaped range bits copies is other none h = still_serves z.processes Now p (is_linked c p) (own_toggles z c p) _ q (row Fetch m z c p q).process (let k = ap phase is in grind (arith, nat_tests, k)) refl refl (λ k. refl) h
  own_helps Check2 few counted lt shaped range bits copies is other none h = checked_again h
  own_helps Save few counted lt shaped range bits copies is other none h = still_serves z.processes Now p (is_linked c p) (own_toggles z c p) _ q (row Save m z c p q).process (let k = ap phase is in grind (arith, nat_tests, k)) refl refl (λ k. refl) h
  own_helps Enter few counted lt shaped range bits copies is other none h = still_serves z.processes Now p (is_linked c p) (own_toggles z c p) _ q (row Enter m z c p q).process refl refl refl (λ k. refl) h
  own_helps Body few counted lt shaped range bits copies is other none h =
      let own = shaped.own_in p (omega (arith, lt, shaped.owns)) in
      let within : own_of c p < length c.blocks = omega (arith, own, shaped.blocks) in
      let turned = body_turn m z c p q in
      body_serves z.processes Now p (is_linked c p) (own_toggles z c p) _ z turned.turn (record q { run = turned.run }) is (λ k. variables_written z c p k turned.block within few) h
  own_helps Undo few counted lt shaped range bits copies is other none h = (let index = subst (λ (k : Label). index_in z k q.registers) is range.index in undone index.0 h)
  own_helps Keep few counted lt shaped range bits copies is other none h =
      let own = shaped.own_in p (omega (arith, lt, shaped.owns)) in
      let index = subst (λ (k : Label). index_in z k q.registers) is range.index in
      kept counted shaped (omega (arith, own, shaped.blocks)) (bits.bit (own_of c p) q.registers.j own index.1) index h
  own_helps Commit few counted lt shaped range bits copies is other none h = given_up z.processes Now p (is_linked c p) (own_toggles z c p) z c q (none refl) h
  own_helps Read few counted lt shaped range bits copies is other none h = rests z.processes Now p (is_linked c p) (own_toggles z c p) (row Read m z c p q).process refl (h.settled refl)
  own_helps Take few counted lt shaped range bits copies is other none h = rests z.processes Now p (is_linked c p) (own_toggles z c p) (row Take m z c p q).process (let k = ap phase is in grind (arith, nat_tests, k)) (h.settled refl)
  own_helps Give few counted lt shaped range bits copies is other none h = rests z.processes Now p (is_linked c p) (own_toggles z c p) (row Give m z c p q).process refl (h.settled refl)
