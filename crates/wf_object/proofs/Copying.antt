-- Words that are brought over or saved as one move are so many steps.
use Rattle.std.proofs.Common.{rules, ◌≡◌, ℕ, zero, suc, ◌+◌, ◌-◌, ◌*◌, ◌<◌, ◌≤◌, Bool, true, false, cond, List, ◌++◌, length, set, take, drop, drop-drop, refl, sym, ap, ◌∙◌, arith, subst, inl, inr}
use Rattle.std.specs.Prelude.{ℤ, nat_eq}
use Rattle.std.proofs.lemmas.Bool.{cases_eq}
use Rattle.std.proofs.lemmas.Bool.Decides.{nat_tests}
use Rattle.std.proofs.lemmas.List.{get_or-set_other, get_or-set_same, places, same_lists, set-get_or, set-set}
use Rattle.ll_cell.specs.Cell.{Cell, block_of, copied, copy_own, own_of, word_at, write_own}
use Rattle.ll_cell.proofs.Copied.{copied_after}
use Rattle.wf_table.specs.declared.process.Label.{Label}
use Rattle.wf_table.specs.declared.process.Label.TheVariants.{Check1, Enter, Load, Save}
use Rattle.wf_table.specs.declared.process.Sizes.{Sizes}
use Rattle.wf_table.specs.declared.spent.Spent.{Spent}
use Rattle.wf_table.specs.Meaning.{Meaning}
use Rattle.wf_table.specs.Ranges.{IsInRange, IsShaped, IsSized, index_in}
use Rattle.wf_table.specs.StepTable.{Process, block_words, load, own_block}
use Rattle.wf_records.specs.Spending.{outside_more}
use Rattle.wf_object.specs.Blocks.{behind_loads, behind_saves}
use Rattle.wf_object.specs.Quiet.{is_unmarked}
use Rattle.wf_object.specs.Progress.{AreUnmarked, Progress, by_row, by_rows, progress}
use Rattle.wf_object.proofs.Progressing.{plain_row, rows_join, unmarked_join, word_brought, word_unmarked}

-- ---- words of a list that stand in another

module _ (first : ℕ) (source block : List ℤ) where
  pub copied_none : first ≤ length block → copied first 0 source block ≡ block
  copied_none le = same_lists _ _ (search (rules, places)) (λ k d h. grind (arith, places))

  pub copied_next : (k : ℕ) → first + suc k ≤ length block → first + suc k ≤ length source → copied first (suc k) source block ≡ set (copied first k source block) (first + k) (word_at source (first + k))
  copied_next k here there = same_lists _ _ (search (rules, places)) (λ i d h. grind (arith, places, get_or-set_same, cases_eq i (first + k)))

-- ---- words of a block that stand in the own one

module _ (c : Cell) (p r i : ℕ) (owns : own_of c p < length c.blocks) where
  own_copied : (k : ℕ) → block_of (copy_own c p r i k) (own_of c p) ≡ copied i k (block_of c r) (block_of c (own_of c p))
  own_copied k = get_or-set_same c.blocks (own_of c p) (copied i k (block_of c r) (block_of c (own_of c p))) _ owns

  module _ (long : ℕ) (here : length (block_of c (own_of c p)) ≡ long) (there : length (block_of c r) ≡ long) where
    pub copy_none : i ≤ long → copy_own c p r i 0 ≡ c
    copy_none le =
        ap (λ (ws : List ℤ). record c { blocks = set c.blocks (own_of c p) ws }) (copied_none i (block_of c r) (block_of c (own_of c p)) (omega (arith, le, here)))
        ∙ ap (λ (bs : List (List ℤ)). record c { blocks = bs }) (set-get_or c.blocks (own_of c p) _)

    pub copy_next : (k : ℕ) → i + suc k ≤ long → copy_own c p r i (suc k) ≡ write_own (copy_own c p r i k) p (i + k) (word_at (block_of c r) (i + k))
    copy_next k le =
        ap (λ (ws : List ℤ). record c { blocks = set c.blocks (own_of c p) ws }) (copied_next i (block_of c r) (block_of c (own_of c p)) k (omega (arith, le, here)) (omega (arith, le, there)) ∙ sym (ap (λ (ws : List ℤ). set ws (i + k) (word_at (block_of c r) (i + k))) (own_copied k)))
        ∙ sym (ap (λ (bs : List (List ℤ)). record c { blocks = bs }) (set-set c.blocks (own_of c p) _ _))

    -- the words further on are as they were
    pub still_there : (k : ℕ) → i + k ≤ long → word_at (block_of (copy_own c p r i k) r) (i + k) ≡ word_at (block_of c r) (i + k)
    still_there k le = elim (cases_eq r (own_of c p)) [
      | inl same ↦
          ap (λ (b : ℕ). word_at (block_of (copy_own c p r i k) b) (i + k)) same
          ∙ ap (λ (ws : List ℤ). word_at ws (i + k)) (own_copied k)
          ∙ copied_after i k (block_of c r) (block_of c (own_of c p)) (omega (arith, le, here)) (omega (arith, le, there)) (i + k) (omega arith)
          ∙ ap (λ (b : ℕ). word_at (block_of c b) (i + k)) (sym same)
      | inr apart ↦ ap (λ (ws : List ℤ). word_at ws (i + k)) (get_or-set_other c.blocks (own_of c p) r _ _ apart)
    ]

unless : (b : Bool) (x y : Label) → b ≡ false → cond b x y ≡ y
unless true x y h = absurd (cc)
unless false x y h = refl

-- ---- LOAD and STORE

module _ {Run : Type 0} (m : Meaning Run) (z : Sizes) (sized : IsSized z) (p : ℕ) (process : p < z.processes) (c : Cell) (shaped : IsShaped z c) (q : Process Run) (in_range : IsInRange z q) (x : Spent) (n : ℕ) where
  -- the process with this label, index and word at hand
  abbrev stands : Label → ℕ → ℤ → Process Run
  stands l i a = record q { label = l; registers = record q.registers { i = i; acc = a } }

  abbrev first : ℕ
  first = q.registers.i

  abbrev source : List ℤ
  source = block_of c q.registers.r

  -- behind so many words
  abbrev so : ℕ → ℤ → Progress Run
  so k a = progress (copy_own c p q.registers.r first k) (stands q.label (first + k) a) (outside_more x (n + 2 * k))

  owns : own_of c p < length c.blocks
  owns = omega (arith, shaped.own_in p (omega (arith, shaped.owns, process)), shaped.blocks)

  own_long : length (block_of c (own_of c p)) ≡ block_words z
  own_long = shaped.block (own_of c p) owns

  source_long : length source ≡ block_words z
  source_long = shaped.block q.registers.r (omega (arith, in_range.r, shaped.blocks))

  module _ (loads : q.label ≡ Load) where
    behind_last : (k : ℕ) → first + suc k ≤ z.variables → nat_eq (first + k + 1) (block_words z) ≡ false
    behind_last k le = grind (arith, nat_tests, le, sized.some)

    next : (k : ℕ) (a : ℤ) → first + suc k ≤ z.variables → so (suc k) (word_at source (first + k)) ≡ by_rows m z p 2 (so k a)
    next k a le =
        let cell = copy_own c p q.registers.r first k in
        let u = stands q.label (first + k) a in
        let index : first + suc k ≡ first + k + 1 = omega arith in
        let word : word_at (block_of cell q.registers.r) (first + k) ≡ word_at source (first + k) = still_there c p q.registers.r first owns (block_words z) own_long source_long k (omega (arith, le)) in
        word_brought m z p cell (copy_own c p q.registers.r first (suc k)) u (load cell u).process (stands q.label (first + suc k) (word_at source (first + k))) x (n + 2 * k) (n + 2 * suc k) loads (omega arith) refl
        (copy_next c p q.registers.r first owns (block_words z) own_long source_long k (omega (arith, le)) ∙ ap (write_own cell p (first + k)) (sym word))
        (ap (λ (i : ℕ). stands q.label i (word_at source (first + k))) index
        ∙ ap (λ (l : Label). stands l (first + k + 1) (word_at source (first + k))) (loads ∙ sym (unless (nat_eq (first + k + 1) (block_words z)) Check1 Load (behind_last k le)))
        ∙ ap (stands (cond (nat_eq (first + k + 1) (block_words z)) Check1 Load) (first + k + 1)) (sym word))

    begin : so 0 q.registers.acc ≡ progress c q (outside_more x n)
    begin =
        let none : first + 0 ≡ first = omega arith in
        let same : n + 2 * 0 ≡ n = omega arith in
        ap (λ (d : Cell). progress d (stands q.label (first + 0) q.registers.acc) (outside_more x (n + 2 * 0))) (copy_none c p q.registers.r first owns (block_words z) own_long source_long (omega (arith, subst (λ (l : Label). index_in z l q.registers) loads in_range.index)))
        ∙ ap (λ (i : ℕ). progress c (stands q.label i q.registers.acc) (outside_more x (n + 2 * 0))) none
        ∙ ap (λ (i : ℕ). progress c q (outside_more x i)) same

    loaded : (k : ℕ) → first + suc k ≤ z.variables → so (suc k) (word_at source (first + k)) ≡ by_rows m z p (2 * suc k) (progress c q (outside_more x n))
    loaded zero le =
        next 0 q.registers.acc le ∙ ap (by_rows m z p 2) begin
    loaded (suc k) le =
        let more : 2 * suc k + 2 ≡ 2 * suc (suc k) = omega arith in
        next (suc k) (word_at source (first + k)) le
        ∙ ap (by_rows m z p 2) (loaded k (omega (arith, le)))
        ∙ rows_join m z p (2 * suc k) 2 (progress c q (outside_more x n))
        ∙ ap (λ (j : ℕ). by_rows m z p j (progress c q (outside_more x n))) more

    unmarked : (k : ℕ) → first + suc k ≤ z.variables → AreUnmarked m z p (2 * suc k) (progress c q (outside_more x n))
    unmarked zero le = word_unmarked m z p c q (outside_more x n) loads
    unmarked (suc k) le =
        let h = progress c q (outside_more x n) in
        let more : 2 * suc k + 2 ≡ 2 * suc (suc k) = omega arith in
        subst (λ (j : ℕ). AreUnmarked m z p j h) more
        (unmarked_join m z p (2 * suc k) 2 h (unmarked k (omega (arith, le)))
        (subst (AreUnmarked m z p 2) (loaded k (omega (arith, le)))
        (word_unmarked m z p (copy_own c p q.registers.r first (suc k)) (stands q.label (first + suc k) (word_at source (first + k))) (outside_more x (n + 2 * suc k)) loads)))

    pub words_loaded : (k j : ℕ) → 0 < k → first + k ≤ z.variables → j ≡ n + 2 * k → progress (copy_own c p q.registers.r first k) (behind_loads c k q) (outside_more x j) ≡ by_rows m z p (2 * k) (progress c q (outside_more x n))
    words_loaded zero j some le is = absurd (omega (arith, some))
    words_loaded (suc k) j some le is =
        let last : suc k - 1 ≡ k = omega arith in
        ap (λ (i : ℕ). progress (copy_own c p q.registers.r first (suc k)) (behind_loads c (suc k) q) (outside_more x i)) is
        ∙ ap (λ (i : ℕ). so (suc k) (word_at source (first + i))) last
        ∙ loaded k le

    pub loads_unmarked : (k : ℕ) → 0 < k → first + k ≤ z.variables → AreUnmarked m z p (2 * k) (progress c q (outside_more x n))
    loads_unmarked zero some le = absurd (omega (arith, some))
    loads_unmarked (suc k) some le = unmarked k le

  -- ---- SAVE

  module _ (saves : q.label ≡ Save) where
    abbrev behind : ℕ → Progress Run
    behind k = progress c (behind_saves z c p k q) (outside_more x (n + k))

    in_variables : first < z.variables
    in_variables = (subst (λ (l : Label). index_in z l q.registers) saves in_range.index).0

    not_last : (k : ℕ) → first + suc k ≤ z.variables → (behind_saves z c p k q).label ≡ q.label
    not_last k le = let before : nat_eq (first + k) z.variables ≡ false = grind (arith, nat_tests, le) in unless (nat_eq (first + k) z.variables) Enter q.label before

    before_saves : behind 0 ≡ progress c q (outside_more x n)
    before_saves =
        let none : first + 0 ≡ first = omega arith in
        let same : n + 0 ≡ n = omega arith in
        ap (λ (l : Label). progress c (record q { label = l; registers = record q.registers { i = first + 0 }; save = copied first 0 (own_block c p) q.save }) (outside_more x (n + 0))) (not_last 0 (omega (arith, in_variables)))
        ∙ ap (λ (ws : List ℤ). progress c (record q { registers = record q.registers { i = first + 0 }; save = ws }) (outside_more x (n + 0))) (copied_none first (own_block c p) q.save (omega (arith, in_variables, in_range.save)))
        ∙ ap (λ (i : ℕ). progress c (record q { registers = record q.registers { i = i } }) (outside_more x (n + 0))) none
        ∙ ap (λ (i : ℕ). progress c q (outside_more x i)) same

    saved_next : (k : ℕ) → first + suc k ≤ z.variables → behind (suc k) ≡ by_rows m z p 1 (behind k)
    saved_next k le =
        let u = behind_saves z c p k q in
        let index : first + suc k ≡ first + k + 1 = omega arith in
        let at : Label → ℕ → List ℤ → Process Run = λ l i ws. record q { label = cond (nat_eq i z.variables) Enter l; registers = record q.registers { i = i }; save = ws } in
        plain_row m z p Save c c u (behind_saves z c p (suc k) q) x (n + k) (n + suc k) 1 refl (not_last k le ∙ saves) (omega arith) refl refl
        (ap (λ (ws : List ℤ). at q.label (first + suc k) ws) (copied_next first (own_block c p) q.save k (omega (arith, le, in_range.save)) (omega (arith, le, own_long)))
        ∙ ap (λ (i : ℕ). at q.label i (set (copied first k (own_block c p) q.save) (first + k) (word_at (own_block c p) (first + k)))) index
        ∙ ap (λ (l : Label). at l (first + k + 1) (set (copied first k (own_block c p) q.save) (first + k) (word_at (own_block c p) (first + k)))) (sym (not_last k le)))

    pub words_saved : (k : ℕ) → first + k ≤ z.variables → behind k ≡ by_rows m z p k (progress c q (outside_more x n))
    words_saved zero le = before_saves
    words_saved (suc k) le =
        saved_next k le ∙ ap (by_row m z p) (words_saved k (omega (arith, le)))

    pub saves_unmarked : (k : ℕ) → first + k ≤ z.variables → AreUnmarked m z p k (progress c q (outside_more x n))
    saves_unmarked k le j lt =
        let here : first + suc j ≤ z.variables = omega (arith, le, lt) in
        subst (λ (u : Progress Run). is_unmarked u.process.label ≡ true) (words_saved j (omega (arith, here)))
        (ap is_unmarked (not_last j here ∙ saves))

-- ---- what a list is behind a write of words of another into it

module _ (first words limit : ℕ) (own save : List ℤ) (within : first + words ≤ limit) (there : limit ≤ length own) (here : first + words ≤ length save) where
  part_of_front : take (first + words - first) (drop first (take limit own)) ≡ take words (drop first own)
  part_of_front = same_lists _ _ (search (rules, places)) (λ k d h. grind (arith, places))

  pub saved_words : take first save ++ (take (first + words - first) (drop first (take limit own)) ++ drop (first + words - first) (drop first save)) ≡ copied first words own save
  saved_words =
      let count : first + words - first ≡ words = omega arith in
      ap (λ (ws : List ℤ). take first save ++ (ws ++ drop (first + words - first) (drop first save))) part_of_front
      ∙ ap (λ (ws : List ℤ). take first save ++ (take words (drop first own) ++ ws)) (drop-drop (first + words - first) first save ∙ ap (λ (n : ℕ). drop (first + n) save) count)

-- the own block has all variables
pub own_holds : (z : Sizes) (c : Cell) (p : ℕ) → p < z.processes → IsShaped z c → z.variables ≤ length (own_block c p)
own_holds z c p process shaped =
    let owns : own_of c p < length c.blocks = omega (arith, shaped.own_in p (omega (arith, shaped.owns, process)), shaped.blocks) in
    omega (arith, shaped.block (own_of c p) owns)
