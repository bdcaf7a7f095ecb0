-- What a step leaves of the own block and the served call of the process that takes it, row by row.
use Rattle.std.proofs.Common.{◌≡◌, ℕ, zero, suc, ◌+◌, ◌-◌, ◌<◌, ◌≤◌, Bool, true, false, List, [], ◌∷◌, length, set, get_or, take, map, replicate, refl, sym, ap, ◌∙◌, arith, cond, inl, inr, subst, int_eq}
use Rattle.std.specs.Prelude.{ℤ, pos, ◌%◌, nat_eq}
use Rattle.std.specs.List.{Contains}
use Rattle.std.proofs.lemmas.Bool.{cases_eq, eq-eqb, eqb-true, false≢true}
use Rattle.std.proofs.lemmas.Bool.Decides.{Decides-int_eq}
use Rattle.std.proofs.lemmas.List.{get_or-set_same, get_or-replicate, length-set}
use Rattle.std.proofs.lemmas.List.FromFn.{get_or-map-range_with_len}
use Rattle.ll_cell.specs.Cell.{Cell, own_of, is_linked, block_of, word_at, refilled}
use Rattle.ob_interface.specs.Call.{ObjectCall}
use Rattle.wf_history.specs.declared.event.CallId.{CallId}
use Rattle.wf_history.specs.Legal.{HasBegun}
use Rattle.wf_table.specs.declared.engine_turn.EngineTurn.{EngineTurn}
use Rattle.wf_table.specs.declared.engine_turn.EngineTurn.TheVariants.{On, Returned, Trapped, Stuck}
use Rattle.wf_table.specs.declared.process.Label.{Label}
use Rattle.wf_table.specs.declared.process.Label.TheVariants.{Try, Mine, Seen, Fetch, Check2, Save, Enter, Body, Undo, Keep, Commit, Read}
use Rattle.wf_table.specs.declared.process.Sizes.{Sizes}
use Rattle.wf_table.specs.Meaning.{Turned, Meaning, kept}
use Rattle.wf_table.specs.Law.{Effects, IsLawful}
use Rattle.wf_table.specs.Marks.{applied_in}
use Rattle.wf_table.specs.Toggles.{flips}
use Rattle.wf_table.specs.StepTable.{Process, Own, Refill, cell_after, own_block, toggle_in, inverted, block_words, part, to, at, or_past, after_body, kept_word}
use Rattle.wf_table.specs.Object.{Records}
use Rattle.wf_table.specs.Order.{applied_count}
use Rattle.wf_table.proofs.HelpAndOrderIds.{not_true}
use Rattle.wf_table.specs.Contents.{RootHolds}
use Rattle.wf_table.specs.Helps.{Witness, kept_words, Packs}
use Rattle.wf_table.proofs.Words.{same_words}
use Rattle.wf_table.proofs.HelpBodies.{trap_some, not_stuck, length_last}
use Rattle.wf_table.proofs.Looking.{Packed, moves, passes, copies}
use Rattle.wf_table.proofs.Serving.{counts, renewed, serves_on, accepts, saves_more, enters}
use Rattle.wf_table.proofs.Making.{turned, written, makes, next_body, goes_on, returns, traps, traps_at_once, undoes_more, undoes_all, keeps_more, keeps_all}

-- the words that KEEP writes are those of the reply
module _ {Run : Type 0} (m : Meaning Run) (q : Process Run) where
  kept_first : (b : Bool) → (b ≡ true → q.registers.status ≡ pos 0) → q.registers.status ≡ word_at (cond b (kept m q.run) (q.registers.status ∷ replicate m.replies (pos 0))) 0
  kept_first true none = none refl
  kept_first false none = refl

  kept_later : (b : Bool) (i : ℕ) → i < m.replies → cond b (m.result q.run i) (pos 0) ≡ word_at (cond b (kept m q.run) (q.registers.status ∷ replicate m.replies (pos 0))) (suc i)
  kept_later true i lt = sym (get_or-map-range_with_len (m.result q.run) 0 m.replies i i (pos 0) lt (omega arith))
  kept_later false i lt = sym (get_or-replicate m.replies i (pos 0) (pos 0) lt)

  kept_is : (z : Sizes) (c : Cell) (p i : ℕ) → z.replies ≡ m.replies → q.registers.i ≡ i → i < z.replies + 1 → kept_word m z c p q ≡ word_at (kept_words m q) i
  kept_is z c p zero same is lt =
      ap (λ (n : ℕ). cond (nat_eq n 0) q.registers.status (cond (nat_eq n (z.replies + 1)) (inverted (toggle_in z (own_block c p) q.registers.j)) (cond (int_eq q.registers.status (pos 0)) (m.result q.run (n - 1)) (pos 0)))) is
      ∙ kept_first (int_eq q.registers.status (pos 0)) (Decides-int_eq q.registers.status (pos 0)).0
  kept_is z c p (suc i) same is lt =
      let later : nat_eq (suc i) (z.replies + 1) ≡ false = not_true (nat_eq (suc i) (z.replies + 1)) (λ e. absurd (omega (arith, lt, eqb-true (suc i) (z.replies + 1) e))) in
      let before : suc i - 1 ≡ i = omega arith in
      let some : nat_eq (suc i) 0 ≡ false = not_true (nat_eq (suc i) 0) (λ e. absurd (omega (arith, eqb-true (suc i) 0 e))) in
      let rest = cond (nat_eq (suc i) (z.replies + 1)) (inverted (toggle_in z (own_block c p) q.registers.j)) (cond (int_eq q.registers.status (pos 0)) (m.result q.run (suc i - 1)) (pos 0)) in
      ap (λ (n : ℕ). cond (nat_eq n 0) q.registers.status (cond (nat_eq n (z.replies + 1)) (inverted (toggle_in z (own_block c p) q.registers.j)) (cond (int_eq q.registers.status (pos 0)) (m.result q.run (n - 1)) (pos 0)))) is
      ∙ ap (λ (b : Bool). cond b q.registers.status rest) some
      ∙ ap (λ (b : Bool). cond b (inverted (toggle_in z (own_block c p) q.registers.j)) (cond (int_eq q.registers.status (pos 0)) (m.result q.run (suc i - 1)) (pos 0))) later
      ∙ ap (λ (n : ℕ). cond (int_eq q.registers.status (pos 0)) (m.result q.run n) (pos 0)) before
      ∙ kept_later (int_eq q.registers.status (pos 0)) i (omega (arith, lt, same))

  kept_toggle : (z : Sizes) (c : Cell) (p : ℕ) → q.registers.i ≡ z.replies + 1 → kept_word m z c p q ≡ inverted (toggle_in z (own_block c p) q.registers.j)
  kept_toggle z c p is =
      let some : nat_eq q.registers.i 0 ≡ false = not_true (nat_eq q.registers.i 0) (λ e. absurd (omega (arith, is, eqb-true q.registers.i 0 e))) in
      let last : nat_eq q.registers.i (z.replies + 1) ≡ true = eq-eqb q.registers.i (z.replies + 1) is in
      let rest = cond (int_eq q.registers.status (pos 0)) (m.result q.run (q.registers.i - 1)) (pos 0) in
      ap (λ (b : Bool). cond b q.registers.status (cond (nat_eq q.registers.i (z.replies + 1)) (inverted (toggle_in z (own_block c p) q.registers.j)) rest)) some
      ∙ ap (λ (b : Bool). cond b (inverted (toggle_in z (own_block c p) q.registers.j)) rest) last

module _ (c : Cell) (p : ℕ) (within : own_of c p < length c.blocks) where
  pub own_written : (i : ℕ) (w : ℤ) → own_block (cell_after c p (Own i w)) p ≡ set (own_block c p) i w
  own_written i w = get_or-set_same c.blocks (own_of c p) (set (own_block c p) i w) [] within

  pub own_refilled : (ws : List ℤ) → own_block (cell_after c p (Refill ws)) p ≡ refilled (own_block c p) ws
  own_refilled ws = get_or-set_same c.blocks (own_of c p) (refilled (own_block c p) ws) [] within

-- of the process that steps, with the history, the order and the announced calls as they were
module _ {Run : Type 0} (m : Meaning Run) (lawful : List ℤ → Type 0) (fits : ObjectCall → Type 0) (ready : Run → Type 0) (Effect : Effects) (law : IsLawful m lawful fits ready Effect) (z : Sizes) (opening : List ℤ) (variables : z.variables ≡ m.variables) (replies : z.replies ≡ m.replies) (c : Cell) (ps : List (Process Run)) (r : Records) (p : ℕ) (q : Process Run) where
  abbrev pub Now : List ℤ → Label → Process Run → Type 0
  Now own l x = Packs m lawful fits z opening r.history r.order (map flips ps) (is_linked c p) (block_of c c.root) own l x

  abbrev pub Then : List ℤ → Process Run → Type 0
  Then own x = Now own x.label x

  abbrev At : List ℤ → Label → Process Run → Witness → Type 0
  At own l x w = Packed m lawful fits z opening r.history r.order (map flips ps) (is_linked c p) (block_of c c.root) own l x w

  abbrev own : List ℤ
  own = own_block c p

  abbrev number : ℕ
  number = get_or (map flips ps) q.registers.j 0

  abbrev wanted : CallId
  wanted = record { process = q.registers.j; number = number }

  -- CHECK1
  pub at_check1 : (b : Bool) → is_linked c p ≡ b → (b ≡ true → own ≡ block_of c c.root) → r.order ≡ applied_in r.history → RootHolds m lawful z opening r.history r.order (block_of c c.root) → ((k : ℕ) → k < z.processes → toggle_in z (block_of c c.root) k ≡ pos (applied_count r.order k % 2)) → Then own (cond b (at 0 Mine q) (to Try q))
  at_check1 true on whole one holds toggles _ = copies m lawful fits z opening r.history r.order (map flips ps) (is_linked c p) (block_of c c.root) own (at 0 Mine q) (whole refl) one holds toggles
  at_check1 false on whole one holds toggles e = absurd (false≢true e)

  -- MINE
  pub at_mine : (b : Bool) → Now own Mine q → Then own (cond b (to Read q) (record q { label = Seen; registers = record q.registers { j = 0 } }))
  at_mine true old e = absurd (false≢true e)
  at_mine false old _ =
      let had = old refl in
      (had.0, moves m lawful fits z opening r.history r.order (map flips ps) (is_linked c p) (block_of c c.root) own Mine Seen q (record q { label = Seen; registers = record q.registers { j = 0 } }) had.0 refl refl refl had.1)

  -- SEEN
  pub at_seen : (a b : Bool) (l : Label) → l ≡ Seen → (a ≡ false → is_linked c p ≡ true → toggle_in z own q.registers.j ≡ toggle_in z (block_of c c.root) q.registers.j) → Now own Seen q → Then own (cond a (to Commit q) (cond b (record q { label = l; registers = record q.registers { j = q.registers.j + 1 } }) (at 0 Fetch q)))
  at_seen true b l is same old =
      λ _. (let had = old refl in (had.0, moves m lawful fits z opening r.history r.order (map flips ps) (is_linked c p) (block_of c c.root) own Seen Commit q (to Commit q) had.0 refl refl refl had.1))
  at_seen false true l is same old =
      subst (λ (k : Label). Now own k (record q { label = l; registers = record q.registers { j = q.registers.j + 1 } })) (sym is)
      (λ _. (let had = old refl in (had.0, passes m lawful fits z opening r.history r.order (map flips ps) (is_linked c p) (block_of c c.root) own q (record q { label = l; registers = record q.registers { j = q.registers.j + 1 } }) had.0 refl (same refl) had.1)))
  at_seen false false l is same old =
      λ _. (let had = old refl in (had.0, moves m lawful fits z opening r.history r.order (map flips ps) (is_linked c p) (block_of c c.root) own Seen Fetch q (at 0 Fetch q) had.0 refl refl refl had.1))

  -- FETCH
  pub at_fetch : (b : Bool) (l : Label) (list : List ℤ) → l ≡ Fetch → Now own Fetch q → Then own (at (q.registers.i + 1) (cond b Check2 l) (record q { list = list }))
  at_fetch true l list is old =
      λ _. (let had = old refl in (had.0, moves m lawful fits z opening r.history r.order (map flips ps) (is_linked c p) (block_of c c.root) own Fetch Check2 q (at (q.registers.i + 1) Check2 (record q { list = list })) had.0 refl refl refl had.1))
  at_fetch false l list is old =
      subst (λ (k : Label). Now own k (at (q.registers.i + 1) l (record q { list = list }))) (sym is)
      (λ _. (let had = old refl in (had.0, moves m lawful fits z opening r.history r.order (map flips ps) (is_linked c p) (block_of c c.root) own Fetch Fetch q (at (q.registers.i + 1) l (record q { list = list })) had.0 refl refl refl had.1)))

  -- the last variables that are known have their number
  last_long : (l : Label) (x : Process Run) (w : Witness) → At own l x w → length w.last ≡ z.variables
  last_long l x w h = length_last m lawful fits ready Effect law w.last h.listed.made.lawful_last ∙ sym variables

  -- CHECK2
  passed_check2 : (e : Bool) → nat_eq z.variables 0 ≡ e → (call : ObjectCall) → length q.save ≡ z.variables → is_linked c p ≡ true → r.order ≡ applied_in r.history → HasBegun r.history wanted call → fits call → ¬ Contains r.order wanted → q.list ≡ m.lay call → Now own Check2 q → Then own (at 0 (cond e Enter Save) q)
  passed_check2 true e call long on one begun fit absent laid old _ =
      let had = old refl in
      let none : z.variables ≡ 0 = eqb-true z.variables 0 e in
      let saved : q.save ≡ had.0.last = same_words q.save had.0.last (long ∙ sym (last_long Check2 q had.0 had.1)) (λ k lt. absurd (omega (arith, lt, long, none))) in
      (renewed had.0 r.history number call, accepts m lawful fits z opening r.history r.order (map flips ps) (is_linked c p) (block_of c c.root) own Enter q (at 0 Enter q) had.0 call refl refl refl refl on one begun fit absent laid (record { saved = saved }) had.1)
  passed_check2 false e call long on one begun fit absent laid old _ =
      let had = old refl in
      (renewed had.0 r.history number call, accepts m lawful fits z opening r.history r.order (map flips ps) (is_linked c p) (block_of c c.root) own Save q (at 0 Save q) had.0 call refl refl refl refl on one begun fit absent laid (record { front = λ k lt. absurd (omega (arith, lt)) }) had.1)

  pub at_check2 : (b : Bool) → is_linked c p ≡ b → length q.save ≡ z.variables → r.order ≡ applied_in r.history → (b ≡ true → (call : ObjectCall) × HasBegun r.history wanted call × fits call × (¬ Contains r.order wanted) × (q.list ≡ m.lay call)) → Now own Check2 q → Then own (cond b (at 0 (or_past z.variables Save Enter) q) (to Try q))
  at_check2 true on long one passed old = (let h = passed refl in passed_check2 (nat_eq z.variables 0) refl h.0 long on one h.1 h.2 h.3 h.4 old)
  at_check2 false on long one passed old = λ e. absurd (false≢true e)

  -- SAVE
  pub at_save : (b : Bool) (l : Label) (save : List ℤ) → nat_eq (q.registers.i + 1) z.variables ≡ b → l ≡ Save → length q.save ≡ z.variables → q.registers.i < z.variables → q.registers.j ≤ z.processes → save ≡ set q.save q.registers.i (word_at own q.registers.i) → Now own Save q → Then own (at (q.registers.i + 1) (cond b Enter l) (record q { save = save }))
  at_save true l save last is long lt within writes old =
      λ _. (let had = old refl in
      let q' : Process Run = at (q.registers.i + 1) Enter (record q { save = save }) in
      let all : q.registers.i + 1 ≡ z.variables = eqb-true (q.registers.i + 1) z.variables last in
      let short = last_long Save q had.0 had.1 in
      let size : length save ≡ z.variables = ap length writes ∙ length-set q.save q.registers.i (word_at own q.registers.i) ∙ long in
      let saved : save ≡ had.0.last = same_words save had.0.last (size ∙ sym short) (λ k less. saves_more m lawful fits z opening r.history r.order (map flips ps) (is_linked c p) (block_of c c.root) own q q' had.0 long lt writes had.1 k (omega (arith, less, size, all))) in
      (had.0, serves_on m lawful fits z opening r.history r.order (map flips ps) (is_linked c p) (block_of c c.root) own own Save Enter q q' had.0 had.0.count within refl refl refl refl (λ e. absurd (cc)) (λ k i less few apart. refl) (λ k less. refl) (λ _. had.1.variables refl) (record { saved = saved }) had.1))
  at_save false l save last is long lt within writes old =
      subst (λ (k : Label). Now own k (at (q.registers.i + 1) l (record q { save = save }))) (sym is)
      (λ _. (let had = old refl in
      let q' : Process Run = at (q.registers.i + 1) l (record q { save = save }) in (
        had.0,
        serves_on m lawful fits z opening r.history r.order (map flips ps) (is_linked c p) (block_of c c.root) own own Save Save q q' had.0 had.0.count within refl refl refl refl (λ e. absurd (cc)) (λ k i less few apart. refl) (λ k less. refl) (λ _. had.1.variables refl)
            (record { front = saves_more m lawful fits z opening r.history r.order (map flips ps) (is_linked c p) (block_of c c.root) own q q' had.0 long lt writes had.1 }) had.1,
      )))

  -- ENTER
  pub at_enter : q.registers.j ≤ z.processes → Now own Enter q → Then own (record q { label = Body; run = m.start q.list })
  at_enter within old _ = (let had = old refl in (counts had.0 0, enters m lawful fits z opening r.history r.order (map flips ps) (is_linked c p) (block_of c c.root) own q had.0 within had.1))

  -- BODY
  trapped_body : (b : Bool) → nat_eq z.variables 0 ≡ b → (k : ℕ) → length own ≡ block_words z → q.registers.j < z.processes → length (turned m z own q).block ≡ z.variables → (turned m z own q).turn ≡ Trapped k → Now own Body q → Then (written m z own q) (record q { label = cond b Keep Undo; run = (turned m z own q).run; registers = record q.registers { i = 0; status = pos k } })
  trapped_body true empty k long within whole is old =
      λ _. (let had = old refl in
      let some = trap_some m lawful fits ready Effect law had.0.call had.0.last (suc had.0.count) k had.1.listed.made.lawful_last (had.1.passed refl).fit (ap (λ (t : Turned Run). t.turn) (next_body m lawful fits z opening r.history r.order (map flips ps) (is_linked c p) (block_of c c.root) own q had.0 had.1) ∙ is) in
      (counts had.0 (suc had.0.count), traps_at_once m lawful fits z opening r.history r.order (map flips ps) (is_linked c p) (block_of c c.root) own q had.0 long within whole had.1 k some is (eqb-true z.variables 0 empty) (last_long Body q had.0 had.1)))
  trapped_body false empty k long within whole is old =
      λ _. (let had = old refl in
      let some = trap_some m lawful fits ready Effect law had.0.call had.0.last (suc had.0.count) k had.1.listed.made.lawful_last (had.1.passed refl).fit (ap (λ (t : Turned Run). t.turn) (next_body m lawful fits z opening r.history r.order (map flips ps) (is_linked c p) (block_of c c.root) own q had.0 had.1) ∙ is) in
      (counts had.0 (suc had.0.count), traps m lawful fits z opening r.history r.order (map flips ps) (is_linked c p) (block_of c c.root) own q had.0 long within whole had.1 k some is))

  pub at_body : (x : EngineTurn) → (turned m z own q).turn ≡ x → q.label ≡ Body → length own ≡ block_words z → q.registers.j < z.processes → length (turned m z own q).block ≡ z.variables → Now own Body q → Then (written m z own q) (after_body z x (record q { run = (turned m z own q).run }))
  at_body On turn is long within whole old =
      subst (λ (l : Label). Now (written m z own q) l (record q { run = (turned m z own q).run })) (sym is)
      (λ _. (let had = old refl in (counts had.0 (suc had.0.count), goes_on m lawful fits z opening r.history r.order (map flips ps) (is_linked c p) (block_of c c.root) own q had.0 long within whole had.1 (record q { run = (turned m z own q).run }) turn refl)))
  at_body Returned turn is long within whole old =
      λ _. (let had = old refl in (counts had.0 (suc had.0.count), returns m lawful fits z opening r.history r.order (map flips ps) (is_linked c p) (block_of c c.root) own q had.0 long within whole had.1 turn))
  at_body (Trapped k) turn is long within whole old = trapped_body (nat_eq z.variables 0) refl k long within whole turn old
  at_body Stuck turn is long within whole old =
      let had = old refl in
      absurd (not_stuck m lawful fits ready Effect law had.0.call had.0.last (suc had.0.count) had.1.listed.made.lawful_last (had.1.passed refl).fit (ap (λ (t : Turned Run). t.turn) (next_body m lawful fits z opening r.history r.order (map flips ps) (is_linked c p) (block_of c c.root) own q had.0 had.1) ∙ turn))

  -- UNDO
  pub at_undo : (b : Bool) → nat_eq (q.registers.i + 1) z.variables ≡ b → length own ≡ block_words z → q.registers.j < z.processes → q.registers.i < z.variables → Now own Undo q → Then (set own q.registers.i (word_at q.save q.registers.i)) (cond b (at 0 Keep q) (at (q.registers.i + 1) Undo q))
  at_undo true last long within lt old =
      λ _. (let had = old refl in (had.0, undoes_all m lawful fits z opening r.history r.order (map flips ps) (is_linked c p) (block_of c c.root) own q had.0 long within lt had.1 (eqb-true (q.registers.i + 1) z.variables last) (last_long Undo q had.0 had.1)))
  at_undo false last long within lt old =
      λ _. (let had = old refl in (had.0, undoes_more m lawful fits z opening r.history r.order (map flips ps) (is_linked c p) (block_of c c.root) own q had.0 long within lt had.1 Undo))

  -- KEEP
  pub at_keep : (b : Bool) → nat_eq (q.registers.i + 1) (z.replies + 2) ≡ b → length own ≡ block_words z → q.registers.j < z.processes → q.registers.i < z.replies + 2 → (is_linked c p ≡ true → toggle_in z own q.registers.j ≡ toggle_in z (block_of c c.root) q.registers.j) → Now own Keep q → Then (set own (part z q.registers.j + q.registers.i) (kept_word m z c p q)) (cond b (record q { label = Seen; registers = record q.registers { i = 0; j = q.registers.j + 1 } }) (at (q.registers.i + 1) Keep q))
  at_keep true last long within lt same old =
      λ _. (let had = old refl in
      let q' : Process Run = record q { label = Seen; registers = record q.registers { i = 0; j = q.registers.j + 1 } } in
      let end : q.registers.i ≡ z.replies + 1 = omega (arith, eqb-true (q.registers.i + 1) (z.replies + 2) last) in
      let writes : set own (part z q.registers.j + q.registers.i) (kept_word m z c p q) ≡ set own (part z q.registers.j + (z.replies + 1)) (inverted (toggle_in z own q.registers.j)) = ap (λ (v : ℤ). set own (part z q.registers.j + q.registers.i) v) (kept_toggle m q z c p end) ∙ ap (λ (n : ℕ). set own (part z q.registers.j + n) (inverted (toggle_in z own q.registers.j))) end in
      let made = keeps_all m lawful fits z opening r.history r.order (map flips ps) (is_linked c p) (block_of c c.root) ready Effect law own q had.0 long within end had.1 q' refl same in
      subst (λ (b : List ℤ). (w : Witness) × At b Seen q' w) (sym writes) (makes had.0 q.registers.j (kept_words m q) (take z.variables own), made))
  at_keep false last long within lt same old =
      λ _. (let had = old refl in
      let less : q.registers.i < z.replies + 1 = elim (cases_eq (q.registers.i + 1) (z.replies + 2)) [ inl e ↦ (let no = eq-eqb (q.registers.i + 1) (z.replies + 2) e in absurd (false≢true (sym last ∙ no))) | inr d ↦ omega (arith, lt, d) ] in
      (had.0, keeps_more m lawful fits z opening r.history r.order (map flips ps) (is_linked c p) (block_of c c.root) own q had.0 Keep (kept_word m z c p q) long within less (kept_is m q z c p q.registers.i replies refl less) had.1))
