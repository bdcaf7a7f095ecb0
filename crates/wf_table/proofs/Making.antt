-- The own block while a call is made in it: the body, what a trap brings back, and the words of the reply.
use Rattle.std.proofs.Common.{◌≡◌, ◌≢◌, ℕ, suc, ◌+◌, ◌<◌, Bool, true, false, List, [], ◌∷◌, ◌++◌, length, set, take, replicate, refl, sym, ap, ◌∙◌, arith, cond, inl, inr, subst, int_eq}
use Rattle.std.specs.Prelude.{ℤ, pos, ◌%◌, nat_eq}
use Rattle.std.proofs.lemmas.Bool.{cases_eq, eq-eqb, eqb-true}
use Rattle.std.proofs.lemmas.Bool.Decides.{Decides-int_eq}
use Rattle.std.proofs.lemmas.List.Elements.{All-push}
use Rattle.std.proofs.lemmas.List.{append_assoc, get_or-set_same, get_or-set_other, get_or-take, length-set, length-take-le}
use Rattle.ll_cell.specs.Cell.{word_at, refilled}
use Rattle.ob_interface.specs.Call.{ObjectCall, Reply}
use Rattle.wf_history.specs.declared.event.CallId.{CallId}
use Rattle.wf_history.specs.History.{Event}
use Rattle.wf_history.specs.Legal.{HasBegun}
use Rattle.wf_table.specs.declared.engine_turn.EngineTurn.TheVariants.{On, Returned, Trapped}
use Rattle.wf_table.specs.declared.process.Label.{Label}
use Rattle.wf_table.specs.declared.process.Label.TheVariants.{Seen, Body, Undo, Keep}
use Rattle.wf_table.specs.declared.process.Sizes.{Sizes}
use Rattle.wf_table.specs.Meaning.{Turned, Meaning, body, kept}
use Rattle.wf_table.specs.Law.{Effects, IsLawful}
use Rattle.wf_table.specs.StepTable.{Process, part, toggle_place, toggle_in, inverted, block_words}
use Rattle.wf_table.proofs.Words.{next_parity, toggle_within, part_within}
use Rattle.wf_table.specs.Order.{applied_count}
use Rattle.wf_table.proofs.HelpAndOrderIds.{applied_more, not_true}
use Rattle.wf_table.specs.HelpAlone.{Alone}
use Rattle.wf_table.specs.Contents.{reply_word, last_words, no_words, IsMade}
use Rattle.wf_table.specs.Helps.{Witness, calls_of, served, made_below, kept_words}
use Rattle.wf_table.proofs.Alones.{alone_lawful}
use Rattle.wf_table.proofs.HelpOrders.{no_repeats_push, one_more, last_words-push, length_answers}
use Rattle.wf_table.proofs.HelpIds.{made_below-same, made_below-push}
use Rattle.wf_table.proofs.Words.{same_words}
use Rattle.wf_table.proofs.Blocks.{take_refilled, variables_reply, variables_toggle, variable_reply, variable_toggle, part_variables, other_reply, earlier_reply, this_reply, reply_toggle, other_toggle, inverted_differs}
use Rattle.wf_table.proofs.HelpBodies.{steps_more, ended_alone}
use Rattle.wf_table.proofs.Looking.{Packed, below_more}
use Rattle.wf_table.proofs.Serving.{counts, serves_on}

count_push : (p : ℕ) (ids : List CallId) (id : CallId) → id.process ≡ p → applied_count (ids ++ id ∷ []) p ≡ applied_count ids p + 1
count_push p ids id e = applied_more p ids (id ∷ []) ∙ ap (λ (b : Bool). applied_count ids p + length (cond b (id.number ∷ []) [])) (eq-eqb id.process p e)

count_other : (p : ℕ) (ids : List CallId) (id : CallId) → id.process ≢ p → applied_count (ids ++ id ∷ []) p ≡ applied_count ids p
count_other p ids id d =
    let none : nat_eq id.process p ≡ false = not_true (nat_eq id.process p) (λ e. d (eqb-true id.process p e)) in
    let more = applied_more p ids (id ∷ []) ∙ ap (λ (b : Bool). applied_count ids p + length (cond b (id.number ∷ []) [])) none in
    omega (arith, more)

-- one call more is made
abbrev pub makes : Witness → ℕ → List ℤ → List ℤ → Witness
makes w j words last = record w { helped = w.helped ++ served w j ∷ []; words = w.words ++ words ∷ []; last = last }

-- a step of the body, and the block behind it
abbrev pub turned : {Run : Type 0} → Meaning Run → Sizes → List ℤ → Process Run → Turned Run
turned m z own q = m.step q.run (take z.variables own)

abbrev pub written : {Run : Type 0} → Meaning Run → Sizes → List ℤ → Process Run → List ℤ
written m z own q = refilled own (turned m z own q).block

module _ {Run : Type 0} (m : Meaning Run) (lawful : List ℤ → Type 0) (fits : ObjectCall → Type 0) (z : Sizes) (opening : List ℤ) (history : List (Event ObjectCall Reply)) (order : List CallId) (flips : List ℕ) (linked : Bool) (root : List ℤ) where
  abbrev At : List ℤ → Label → Process Run → Witness → Type 0
  At own l q w = Packed m lawful fits z opening history order flips linked root own l q w

  pub next_body : (own : List ℤ) (q : Process Run) (w : Witness) → At own Body q w → body m (suc w.count) w.last w.call ≡ turned m z own q
  next_body own q w h =
      steps_more m w.count (m.start (m.lay w.call)) w.last h.works.on
      ∙ ap (λ (r : Run). m.step r (body m w.count w.last w.call).block) h.works.run
      ∙ ap (λ (b : List ℤ). m.step q.run b) h.works.variables

  module _ (own : List ℤ) (q : Process Run) (w : Witness) (long : length own ≡ block_words z) (within : q.registers.j < z.processes) (whole : length (turned m z own q).block ≡ z.variables) (h : At own Body q w) where
    variables_written : take z.variables (written m z own q) ≡ (turned m z own q).block
    variables_written = subst (λ (n : ℕ). take n (written m z own q) ≡ (turned m z own q).block) whole (take_refilled own (turned m z own q).block (omega (arith, whole, long)))

    same_replies : (k i : ℕ) → reply_word z (written m z own q) k i ≡ reply_word z own k i
    same_replies k i = variables_reply z own (turned m z own q).block k i (omega (arith, whole))

    same_toggles : (k : ℕ) → toggle_in z (written m z own q) k ≡ toggle_in z own k
    same_toggles k = variables_toggle z own (turned m z own q).block k (omega (arith, whole))

    -- the body goes on
    pub goes_on : (q' : Process Run) → (turned m z own q).turn ≡ On → q' ≡ record q { run = (turned m z own q).run } → At (written m z own q) Body q' (counts w (suc w.count))
    goes_on q' on is = subst (λ (x : Process Run). At (written m z own q) Body x (counts w (suc w.count))) (sym is)
        (serves_on m lawful fits z opening history order flips linked root own (written m z own q) Body Body q (record q { run = (turned m z own q).run }) w (suc w.count) (omega (arith, within)) refl refl refl refl (λ e. e)
        (λ k i lt less apart. same_replies k i) (λ k lt. same_toggles k) (λ e. absurd (cc))
        (record {
          saved = h.works.saved;
          on = ap (λ (t : Turned Run). t.turn) (next_body own q w h) ∙ on;
          run = ap (λ (t : Turned Run). t.run) (next_body own q w h);
          variables = ap (λ (t : Turned Run). t.block) (next_body own q w h) ∙ sym variables_written;
        }) h)

    -- it returned
    pub returns : (turned m z own q).turn ≡ Returned → At (written m z own q) Keep (record q { label = Keep; run = (turned m z own q).run; registers = record q.registers { i = 0; status = pos 0 } }) (counts w (suc w.count))
    returns is =
        let q' : Process Run = record q { label = Keep; run = (turned m z own q).run; registers = record q.registers { i = 0; status = pos 0 } } in
        serves_on m lawful fits z opening history order flips linked root own (written m z own q) Body Keep q q' w (suc w.count) (omega (arith, within)) refl refl refl refl (λ e. absurd (cc))
        (λ k i lt less apart. same_replies k i) (λ k lt. same_toggles k) (λ e. absurd (cc))
        (record {
          alone = subst (λ (b : List ℤ). Alone m w.call w.last b (kept m (turned m z own q).run)) (sym variables_written) (ended_alone m w.call w.last (suc w.count) (turned m z own q) Returned (next_body own q w h) is refl);
          front = λ i lt less. absurd (omega (arith, lt));
        }) h

    -- it trapped
    abbrev trapping : Label → ℕ → Process Run
    trapping l k = record q { label = l; run = (turned m z own q).run; registers = record q.registers { i = 0; status = pos k } }

    trap_words : (l : Label) (k : ℕ) → k ≢ 0 → pos k ∷ replicate m.replies (pos 0) ≡ kept_words m (trapping l k)
    trap_words l k some =
        let apart : int_eq (pos k) (pos 0) ≡ false = not_true (int_eq (pos k) (pos 0)) (λ e. (let is : pos k ≡ pos 0 = (Decides-int_eq (pos k) (pos 0)).0 e in some (cc))) in
        sym (ap (λ (b : Bool). cond b (kept m (turned m z own q).run) (pos k ∷ replicate m.replies (pos 0))) apart)

    trap_alone : (l : Label) (k : ℕ) → k ≢ 0 → (turned m z own q).turn ≡ Trapped k → Alone m w.call w.last w.last (kept_words m (trapping l k))
    trap_alone l k some is = subst (λ (ws : List ℤ). Alone m w.call w.last w.last ws) (trap_words l k some) (ended_alone m w.call w.last (suc w.count) (turned m z own q) (Trapped k) (next_body own q w h) is refl)

    pub traps : (k : ℕ) → k ≢ 0 → (turned m z own q).turn ≡ Trapped k → At (written m z own q) Undo (trapping Undo k) (counts w (suc w.count))
    traps k some is =
        serves_on m lawful fits z opening history order flips linked root own (written m z own q) Body Undo q (trapping Undo k) w (suc w.count) (omega (arith, within)) refl refl refl refl (λ e. absurd (cc))
        (λ j i lt less apart. same_replies j i) (λ j lt. same_toggles j) (λ e. absurd (cc))
        (record { saved = h.works.saved; alone = trap_alone Undo k some is; front = λ i lt. absurd (omega (arith, lt)) }) h

    -- a block of no variables needs no undoing
    pub traps_at_once : (k : ℕ) → k ≢ 0 → (turned m z own q).turn ≡ Trapped k → z.variables ≡ 0 → length w.last ≡ z.variables → At (written m z own q) Keep (trapping Keep k) (counts w (suc w.count))
    traps_at_once k some is none short =
        let nothing : take z.variables (written m z own q) ≡ w.last = variables_written ∙ same_words (turned m z own q).block w.last (whole ∙ sym short) (λ i lt. absurd (omega (arith, lt, whole, none))) in
        serves_on m lawful fits z opening history order flips linked root own (written m z own q) Body Keep q (trapping Keep k) w (suc w.count) (omega (arith, within)) refl refl refl refl (λ e. absurd (cc))
        (λ j i lt less apart. same_replies j i) (λ j lt. same_toggles j) (λ e. absurd (cc))
        (record {
          alone = subst (λ (b : List ℤ). Alone m w.call w.last b (kept_words m (trapping Keep k))) (sym nothing) (trap_alone Keep k some is);
          front = λ i lt less. absurd (omega (arith, lt));
        }) h

  module _ (own : List ℤ) (q : Process Run) (w : Witness) (long : length own ≡ block_words z) (within : q.registers.j < z.processes) (here : q.registers.i < z.variables) (h : At own Undo q w) where
    abbrev undone : List ℤ
    undone = set own q.registers.i (word_at q.save q.registers.i)

    undone_front : (k : ℕ) → k < q.registers.i + 1 → word_at undone k ≡ word_at w.last k
    undone_front k lt =
        elim (cases_eq k q.registers.i) [
          | inl e ↦ subst (λ (n : ℕ). word_at undone n ≡ word_at w.last n) (sym e) (get_or-set_same own q.registers.i (word_at q.save q.registers.i) (pos 0) (omega (arith, here, long)) ∙ ap (λ (ws : List ℤ). word_at ws q.registers.i) h.works.saved)
          | inr d ↦ get_or-set_other own q.registers.i k (word_at q.save q.registers.i) (pos 0) d ∙ h.works.front k (omega (arith, lt, d))
        ]

    pub undoes_more : (l : Label) → At undone Undo (record q { label = l; registers = record q.registers { i = q.registers.i + 1 } }) w
    undoes_more l =
        serves_on m lawful fits z opening history order flips linked root own undone Undo Undo q (record q { label = l; registers = record q.registers { i = q.registers.i + 1 } }) w w.count (omega (arith, within)) refl refl refl refl (λ e. e)
        (λ k i lt less apart. variable_reply z own q.registers.i (word_at q.save q.registers.i) k i here) (λ k lt. variable_toggle z own q.registers.i (word_at q.save q.registers.i) k here) (λ e. absurd (cc))
        (record { saved = h.works.saved; alone = h.works.alone; front = undone_front }) h

    pub undoes_all : q.registers.i + 1 ≡ z.variables → length w.last ≡ z.variables → At undone Keep (record q { label = Keep; registers = record q.registers { i = 0 } }) w
    undoes_all last short =
        let taken : length (take z.variables undone) ≡ z.variables = length-take-le z.variables undone (omega (arith, length-set own q.registers.i (word_at q.save q.registers.i), long)) in
        let old : take z.variables undone ≡ w.last = same_words (take z.variables undone) w.last (taken ∙ sym short) (λ k lt. get_or-take z.variables undone k (pos 0) (omega (arith, lt, taken)) ∙ undone_front k (omega (arith, lt, taken, last))) in
        serves_on m lawful fits z opening history order flips linked root own undone Undo Keep q (record q { label = Keep; registers = record q.registers { i = 0 } }) w w.count (omega (arith, within)) refl refl refl refl (λ e. absurd (cc))
        (λ k i lt less apart. variable_reply z own q.registers.i (word_at q.save q.registers.i) k i here) (λ k lt. variable_toggle z own q.registers.i (word_at q.save q.registers.i) k here) (λ e. absurd (cc))
        (record { alone = subst (λ (b : List ℤ). Alone m w.call w.last b (kept_words m q)) (sym old) h.works.alone; front = λ i lt less. absurd (omega (arith, lt)) }) h

  -- KEEP: one word more of the reply
  pub keeps_more : (own : List ℤ) (q : Process Run) (w : Witness) (l : Label) (v : ℤ) → length own ≡ block_words z → q.registers.j < z.processes → q.registers.i < z.replies + 1 → v ≡ word_at (kept_words m q) q.registers.i → At own Keep q w → At (set own (part z q.registers.j + q.registers.i) v) Keep (record q { label = l; registers = record q.registers { i = q.registers.i + 1 } }) w
  keeps_more own q w l v long within here is h =
      let j = q.registers.j in
      let i = q.registers.i in
      let own' = set own (part z j + i) v in
      let q' : Process Run = record q { label = l; registers = record q.registers { i = i + 1 } } in
      serves_on m lawful fits z opening history order flips linked root own own' Keep Keep q q' w w.count (omega (arith, within)) refl refl refl refl (λ e. e)
      (λ k n lt less apart. other_reply z own j i v k n (omega (arith, here)) less (apart refl)) (λ k lt. reply_toggle z own j i v k here) (λ e. absurd (cc))
      (record {
        alone = subst (λ (b : List ℤ). Alone m w.call w.last b (kept_words m q)) (sym (part_variables z own j i v)) h.works.alone;
        front = λ k lt less. elim (cases_eq k i) [
          | inl e ↦ subst (λ (n : ℕ). reply_word z own' j n ≡ word_at (kept_words m q) n) (sym e) (this_reply z own j i v (omega (arith, part_within z j within, here, long)) ∙ is)
          | inr d ↦ earlier_reply z own j i v k (omega (arith, lt, d)) ∙ h.works.front k (omega (arith, lt, d)) less
        ];
      }) h

  module _ (ready : Run → Type 0) (Effect : Effects) (law : IsLawful m lawful fits ready Effect) (own : List ℤ) (q : Process Run) (w : Witness) (long : length own ≡ block_words z) (within : q.registers.j < z.processes) (last : q.registers.i ≡ z.replies + 1) (h : At own Keep q w) where
    abbrev kept_block : List ℤ
    kept_block = set own (toggle_place z q.registers.j) (inverted (toggle_in z own q.registers.j))

    abbrev kept_witness : Witness
    kept_witness = makes w q.registers.j (kept_words m q) (take z.variables own)

    all_calls : calls_of kept_witness ≡ calls_of w ++ served w q.registers.j ∷ []
    all_calls = sym (append_assoc w.before w.helped (served w q.registers.j ∷ []))

    made_one : IsMade m lawful opening history (calls_of w ++ served w q.registers.j ∷ []) (w.words ++ kept_words m q ∷ []) (take z.variables own)
    made_one =
        let served_call = h.passed refl in
        record {
          once = no_repeats_push (calls_of w) (served w q.registers.j) h.listed.made.once served_call.absent;
          made = one_more (Alone m) (HasBegun history) opening w.last (take z.variables own) (calls_of w) (served w q.registers.j) w.call w.words (kept_words m q) h.listed.made.made served_call.begun h.works.alone;
          lawful_last = alone_lawful m lawful fits ready Effect law w.call w.last (take z.variables own) (kept_words m q) h.listed.made.lawful_last served_call.fit h.works.alone;
        }

    this_toggle : toggle_in z kept_block q.registers.j ≡ inverted (toggle_in z own q.registers.j)
    this_toggle = get_or-set_same own (toggle_place z q.registers.j) (inverted (toggle_in z own q.registers.j)) (pos 0) (omega (arith, toggle_within z q.registers.j within, long))

    words_now : (k : ℕ) → last_words (no_words z) k (calls_of kept_witness) kept_witness.words ≡ cond (nat_eq q.registers.j k) (kept_words m q) (last_words (no_words z) k (calls_of w) w.words)
    words_now k = ap (λ (ids : List CallId). last_words (no_words z) k ids kept_witness.words) all_calls ∙ last_words-push (no_words z) k (calls_of w) w.words (served w q.registers.j) (kept_words m q) (length_answers (Alone m) (HasBegun history) opening w.last (calls_of w) w.words h.listed.made.made)

    replies_now : (k i : ℕ) → k < z.processes → i < z.replies + 1 → reply_word z kept_block k i ≡ word_at (last_words (no_words z) k (calls_of kept_witness) kept_witness.words) i
    replies_now k i lt less =
        elim (cases_eq k q.registers.j) [
          | inl e ↦ (let mine : nat_eq q.registers.j k ≡ true = eq-eqb q.registers.j k (sym e) in
              ap (λ (n : ℕ). reply_word z kept_block n i) e
              ∙ earlier_reply z own q.registers.j (z.replies + 1) (inverted (toggle_in z own q.registers.j)) i less
              ∙ h.works.front i (omega (arith, less, last)) less
              ∙ sym (ap (λ (ws : List ℤ). word_at ws i) (words_now k ∙ ap (λ (b : Bool). cond b (kept_words m q) (last_words (no_words z) k (calls_of w) w.words)) mine)))
          | inr d ↦ (let other : nat_eq q.registers.j k ≡ false = not_true (nat_eq q.registers.j k) (λ e. d (sym (eqb-true q.registers.j k e))) in
              other_reply z own q.registers.j (z.replies + 1) (inverted (toggle_in z own q.registers.j)) k i (omega arith) less d
              ∙ h.parts.replies k i lt less (λ _. d)
              ∙ sym (ap (λ (ws : List ℤ). word_at ws i) (words_now k ∙ ap (λ (b : Bool). cond b (kept_words m q) (last_words (no_words z) k (calls_of w) w.words)) other)))
        ]

    toggles_now : (k : ℕ) → k < z.processes → toggle_in z kept_block k ≡ pos (applied_count (calls_of kept_witness) k % 2)
    toggles_now k lt =
        elim (cases_eq k q.registers.j) [
          | inl e ↦ subst (λ (n : ℕ). toggle_in z kept_block n ≡ pos (applied_count (calls_of kept_witness) n % 2)) (sym e)
              (this_toggle ∙ ap inverted (h.parts.toggles q.registers.j within) ∙ next_parity (applied_count (calls_of w) q.registers.j) ∙ ap (λ (n : ℕ). pos (n % 2)) (sym (ap (λ (ids : List CallId). applied_count ids q.registers.j) all_calls ∙ count_push q.registers.j (calls_of w) (served w q.registers.j) refl)))
          | inr d ↦ other_toggle z own q.registers.j (inverted (toggle_in z own q.registers.j)) k d ∙ h.parts.toggles k lt ∙ ap (λ (n : ℕ). pos (n % 2)) (sym (ap (λ (ids : List CallId). applied_count ids k) all_calls ∙ count_other k (calls_of w) (served w q.registers.j) (λ e. d (sym e))))
        ]

    helped_now : linked ≡ true → toggle_in z own q.registers.j ≡ toggle_in z root q.registers.j → kept_witness.helped ≡ made_below z root kept_block flips (q.registers.j + 1)
    helped_now on same =
        let j = q.registers.j in
        let stays : w.helped ≡ made_below z root kept_block flips j = (h.current on).helped ∙ made_below-same z root own root kept_block flips flips j (λ k lt. refl) (λ k lt. sym (other_toggle z own j (inverted (toggle_in z own j)) k (λ e. absurd (omega (arith, lt, e))))) (λ k lt d. refl) in
        let differs : toggle_in z root j ≢ toggle_in z kept_block j = λ e. inverted_differs (toggle_in z own j) (sym this_toggle ∙ sym e ∙ sym same) in
        ap (λ (ids : List CallId). ids ++ served w j ∷ []) stays
        ∙ ap (λ (n : ℕ). made_below z root kept_block flips j ++ record { process = j; number = n } ∷ []) ((h.passed refl).announced on)
        ∙ sym (made_below-push z root kept_block flips j differs)

    -- KEEP: the toggle, and the call is made
    pub keeps_all : (q' : Process Run) → q'.registers.j ≡ q.registers.j + 1 → (linked ≡ true → toggle_in z own q.registers.j ≡ toggle_in z root q.registers.j) → At kept_block Seen q' kept_witness
    keeps_all q' one same = record {
      listed = rw one (record {
        within = h.listed.within;
        copied = h.listed.copied;
        below = All-push (λ (id : CallId). id.process < q.registers.j + 1) w.helped (served w q.registers.j) (below_more q.registers.j w.helped h.listed.below) (omega arith);
        made = rw all_calls made_one;
      });
      current = λ on. rw one (record { before = (h.current on).before; helped = helped_now on (same on) });
      parts = record { replies = λ k i lt less apart. replies_now k i lt less; toggles = toggles_now };
      variables = λ _. part_variables z own q.registers.j (z.replies + 1) (inverted (toggle_in z own q.registers.j));
      passed = λ e. absurd (cc);
      works = tt;
    }
