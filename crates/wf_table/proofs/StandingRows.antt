-- What each row but FLIP and the exchange leaves to its process of standing replies.
use Rattle.std.proofs.Common.{◌≡◌, ◌≢◌, ℕ, ◌+◌, ◌<◌, ◌≤◌, Bool, true, false, length, set, refl, sym, ap, ◌∙◌, arith, cond, inl, inr, subst, int_eq, Decides}
use Rattle.std.specs.Prelude.{ℤ, pos, nat_eq}
use Rattle.std.proofs.lemmas.Bool.{cases_eq, eqb-true, eq-eqb, false≢true}
use Rattle.std.proofs.lemmas.Bool.Decides.{nat_tests, Decides-int_eq}
use Rattle.std.proofs.lemmas.List.{get_or-set_same, get_or-set_other}
use Rattle.ll_cell.specs.Cell.{Cell, IsNumbered, own_of, is_linked, block_of, word_at}
use Rattle.wf_table.specs.declared.engine_turn.EngineTurn.{EngineTurn}
use Rattle.wf_table.specs.declared.engine_turn.EngineTurn.TheVariants.{On, Returned, Trapped, Stuck}
use Rattle.wf_table.specs.declared.process.Label.{Label}
use Rattle.wf_table.specs.declared.process.Label.TheVariants.{Next, Post, Flip, Try, Link, Load, Store, Check1, Mine, Seen, Fetch, Check2, Save, Enter, Body, Undo, Keep, Commit, Read, Take, Give}
use Rattle.wf_table.specs.declared.process.Sizes.{Sizes}
use Rattle.wf_table.specs.Meaning.{Meaning}
use Rattle.wf_table.specs.StepTable.{Process, Change, Nothing, Own, Refill, Links, Exchanges, part, kept_word, cell_after, row, after_body, body_turn, own_block, block_words, toggle_in, toggle_place, announced_toggle, to, at}
use Rattle.wf_table.specs.Ranges.{IsShaped, IsInRange, index_in}
use Rattle.wf_table.specs.Labels.{copying, at_store, taking}
use Rattle.wf_table.specs.Copies.{AllCopyRoot}
use Rattle.wf_table.proofs.HelpAndOrderSteps.{unlinked_stays}
use Rattle.wf_table.specs.Helping.{Serving, Looking, has_copied}
use Rattle.wf_table.specs.HelpAndOrder.{phase}
use Rattle.wf_table.specs.Stands.{InPart, word_in, words_taken, RepliesStand, Carries}
use Rattle.wf_table.proofs.StandingPlaces.{same_part, place_in, place_within, other_word, own_word, written_word, word_behind}
use Rattle.wf_table.proofs.Carried.{behind, rests, copies_on, takes_on}

-- by a test
on : {X : Type 0} (P : X → Type 0) (b : Bool) (x y : X) → (b ≡ true → P x) → (b ≡ false → P y) → P (cond b x y)
on P true x y h k = h refl
on P false x y h k = k refl

other_by : (x y : ℤ) (b : Bool) → Decides b (x ≡ y) → b ≡ false → x ≢ y
other_by x y b d e same = false≢true (sym e ∙ d.1 same)

-- what the step of a process that stands at q finds
pub record Finds {Run : Type 0} (z : Sizes) (S : ℕ → ℕ → Type 0) (c : Cell) (p : ℕ) (q : Process Run) : Type 0 where
  pub member : p < z.processes
  pub shaped : IsShaped z c
  pub numbered : IsNumbered c.root c.own
  pub range : IsInRange z q
  pub front : AllCopyRoot c p q
  -- what stands anywhere stands in the root, where its toggle is the announced one
  pub newest : (k b : ℕ) → S k b → S k c.root
  pub told : (k : ℕ) → k < z.processes → S k c.root → toggle_in z (block_of c c.root) k ≡ announced_toggle z c k
  -- the process that is served has no reply that stands
  pub served : phase q.label ≡ Serving → is_linked c p ≡ true → ¬ S q.registers.j c.root
  -- at READ the own one does
  pub settled : q.label ≡ Read → S p c.root
  pub replies : RepliesStand z S (word_in c) c.root
  pub carries : Carries z S (word_in c) c.root (own_of c p) p (is_linked c p) q

module _ {Run : Type 0} (m : Meaning Run) (z : Sizes) (S : ℕ → ℕ → Type 0) (c : Cell) (p : ℕ) (q : Process Run) (f : Finds z S c p q) where
  abbrev own : ℕ
  own = own_of c p

  owns : p < length c.own
  owns = omega (arith, f.member, f.shaped.owns)

  own_in : own_of c p < z.processes + 1
  own_in = f.shaped.own_in p owns

  within : own_of c p < length c.blocks
  within = omega (arith, own_in, f.shaped.blocks)

  long : length (own_block c p) ≡ block_words z
  long = f.shaped.block (own_of c p) within

  -- the process behind a change of the cell
  abbrev pub Will : Change → Process Run → Type 0
  Will change y = Carries z S (word_in (cell_after c p change)) c.root (own_of c p) p (is_linked (cell_after c p change) p) y

  same_root : (change : Change) (i : ℕ) → word_in (cell_after c p change) c.root i ≡ word_in c c.root i
  same_root change i = other_word c p change c.root i (λ e. f.numbered.root_apart p owns (sym e))

  at_index : (l : Label) → q.label ≡ l → index_in z l q.registers
  at_index l is = subst (λ (k : Label). index_in z k q.registers) is f.range.index

  -- behind a copy, where the own parts stay
  serves_on : (change : Change) (y : Process Run) → is_linked (cell_after c p change) p ≡ is_linked c p → has_copied (phase q.label) ≡ true → ((k i : ℕ) → k < z.processes → InPart z k i → S k c.root → is_linked c p ≡ true → word_in (cell_after c p change) own i ≡ word_in c own i) → copying y.label ≡ false → taking y.label ≡ false → (phase y.label ≡ Serving → ¬ S y.registers.j own) → Will change y
  serves_on change y link copied words copies takes unwritten =
      behind z S (word_in (cell_after c p change)) c.root own p (is_linked (cell_after c p change) p) y copies takes unwritten
      (λ _ l k i lt place s. words k i lt place s (sym link ∙ l) ∙ f.carries.copied copied (sym link ∙ l) k i lt place s ∙ sym (same_root change i))

  -- behind a step that writes nothing in the own block
  still : (l : Label) (y : Process Run) → q.label ≡ l → has_copied (phase l) ≡ true → copying y.label ≡ false → taking y.label ≡ false → (phase y.label ≡ Serving → ¬ S y.registers.j own) → Will Nothing y
  still l y is copied = serves_on Nothing y refl (ap (λ (k : Label). has_copied (phase k)) is ∙ copied) (λ k i lt place s linked. refl)

  linked_up : q.label ≡ Link → Will Links (row Link m z c p q).process
  linked_up is = copies_on z S (word_in (cell_after c p Links)) c.root own p (is_linked (cell_after c p Links) p) (row Link m z c p q).process (λ e. absurd (cc)) refl refl (λ k s. f.newest k own s) (λ e. absurd (false≢true e))

  loaded : q.label ≡ Load → Will Nothing (row Load m z c p q).process
  loaded is =
      let source = f.carries.source (ap copying is) in
      copies_on z S (word_in c) c.root own p (is_linked c p) (row Load m z c p q).process (λ e. absurd (cc)) refl refl source
      (λ _ k lt place s. f.replies.stands q.registers.r k q.registers.i f.range.r lt place (source k s))

  stored : q.label ≡ Store → Will (Own q.registers.i q.registers.acc) (row Store m z c p q).process
  stored is =
      let change = Own q.registers.i q.registers.acc in
      let goes : (l : Label) → phase l ≢ Serving → has_copied (phase l) ≡ false → taking l ≡ false → at_store l ≡ false → Will change (at (q.registers.i + 1) l q) =
      λ l other out takes none. copies_on z S (word_in (cell_after c p change)) c.root own p (is_linked c p) (at (q.registers.i + 1) l q) other out takes (f.carries.source (ap copying is)) (λ e. absurd (false≢true (sym none ∙ e))) in
      on (λ (l : Label). Will change (at (q.registers.i + 1) l q)) (nat_eq (q.registers.i + 1) (block_words z)) Check1 Load
      (λ _. goes Check1 (λ e. absurd (cc)) refl refl refl)
      (λ _. goes Load (λ e. absurd (cc)) refl refl refl)

  out : (y : Process Run) → copying y.label ≡ false → taking y.label ≡ false → has_copied (phase y.label) ≡ false → (change : Change) → Will change y
  out y copies takes none change = rests z S (word_in (cell_after c p change)) c.root own p (is_linked (cell_after c p change) p) y copies takes none

  copied : q.label ≡ Check1 → Will Nothing (row Check1 m z c p q).process
  copied is =
      let index = at_index Check1 is in
      on (Will Nothing) (is_linked c p) (at 0 Mine q) (to Try q)
      (λ _. behind z S (word_in c) c.root own p (is_linked c p) (at 0 Mine q) refl refl (λ e. absurd (cc))
      (λ _ l k i lt place s. f.front.front (ap copying is) l i (omega (arith, index, place_within z k i lt place))))
      (λ _. out (to Try q) refl refl refl Nothing)

  asked : q.label ≡ Mine → Will Nothing (row Mine m z c p q).process
  asked is =
      let looks : Process Run = record q { label = Seen; registers = record q.registers { j = 0 } } in
      on (Will Nothing) (int_eq (toggle_in z (own_block c p) p) (announced_toggle z c p)) (to Read q) looks
      (λ _. out (to Read q) refl refl refl Nothing)
      (λ _. still Mine looks is refl refl refl (λ e. absurd (cc)))

  seen : q.label ≡ Seen → Will Nothing (row Seen m z c p q).process
  seen is =
      let j = q.registers.j in
      let index = at_index Seen is in
      let mine = toggle_in z (own_block c p) j in
      let said = announced_toggle z c j in
      let next : Process Run = record q { registers = record q.registers { j = j + 1 } } in
      on (Will Nothing) (nat_eq j z.processes) (to Commit q) (cond (int_eq said mine) next (at 0 Fetch q))
      (λ _. still Seen (to Commit q) is refl refl refl (λ e. absurd (cc)))
      (λ e. on (Will Nothing) (int_eq said mine) next (at 0 Fetch q)
      (λ _. still Seen next is refl (ap copying is) (ap taking is) (λ serves. absurd (let looks : phase q.label ≡ Looking = ap phase is in cc)))
      (λ d. still Seen (at 0 Fetch q) is refl refl refl (λ _ s.
      (let apart : j ≢ z.processes = λ same. false≢true (sym e ∙ eq-eqb j z.processes same) in
      let lt : j < z.processes = omega (arith, index, apart) in
      other_by said mine (int_eq said mine) (Decides-int_eq said mine) d
      (sym (f.told j lt (f.newest j own s)) ∙ sym (f.replies.stands own j (toggle_place z j) own_in lt (place_in z j (z.replies + 1) (omega arith)) s))))))

  checked_again : q.label ≡ Check2 → Will Nothing (row Check2 m z c p q).process
  checked_again is =
      on (λ (l : Label). Will Nothing (cond (is_linked c p) (at 0 l q) (to Try q))) (nat_eq z.variables 0) Enter Save
      (λ _. on (Will Nothing) (is_linked c p) (at 0 Enter q) (to Try q) (λ _. still Check2 (at 0 Enter q) is refl refl refl (λ _. f.carries.unwritten (ap phase is))) (λ _. out (to Try q) refl refl refl Nothing))
      (λ _. on (Will Nothing) (is_linked c p) (at 0 Save q) (to Try q) (λ _. still Check2 (at 0 Save q) is refl refl refl (λ _. f.carries.unwritten (ap phase is))) (λ _. out (to Try q) refl refl refl Nothing))

  body_goes : (change : Change) (t : EngineTurn) (run : Run) → q.label ≡ Body → ((y : Process Run) → copying y.label ≡ false → taking y.label ≡ false → y.registers.j ≡ q.registers.j → Will change y) → Will change (after_body z t (record q { run = run }))
  body_goes change On run is goes = goes (record q { run = run }) (ap copying is) (ap taking is) refl
  body_goes change Returned run is goes = goes (after_body z Returned (record q { run = run })) refl refl refl
  body_goes change (Trapped k) run is goes = goes (after_body z (Trapped k) (record q { run = run })) (grind (arith, nat_tests)) (grind (arith, nat_tests)) refl
  body_goes change Stuck run is goes = goes (record q { run = run }) (ap copying is) (ap taking is) refl

  ran : length (body_turn m z c p q).block ≤ z.variables → q.label ≡ Body → Will (Refill (body_turn m z c p q).block) (row Body m z c p q).process
  ran few is =
      let turned = body_turn m z c p q in
      let change = Refill turned.block in
      body_goes change turned.turn turned.run is
      (λ y copies takes same. serves_on change y refl (ap (λ (k : Label). has_copied (phase k)) is)
      (λ k i lt place s l. word_behind c p i turned.block within (omega (arith, few, place.0)))
      copies takes (λ _ s. f.carries.unwritten (ap phase is) (subst (λ (j : ℕ). S j own) same s)))

  undone : q.label ≡ Undo → Will (Own q.registers.i (word_at q.save q.registers.i)) (row Undo m z c p q).process
  undone is =
      let index = at_index Undo is in
      let change = Own q.registers.i (word_at q.save q.registers.i) in
      let goes : (y : Process Run) → copying y.label ≡ false → taking y.label ≡ false → y.registers.j ≡ q.registers.j → Will change y =
      λ y copies takes same. serves_on change y refl (ap (λ (k : Label). has_copied (phase k)) is)
      (λ k i lt place s l. own_word c p q.registers.i i (word_at q.save q.registers.i) (λ e. absurd (omega (arith, e, index.0, place.0))))
      copies takes (λ _ s. f.carries.unwritten (ap phase is) (subst (λ (j : ℕ). S j own) same s)) in
      on (Will change) (nat_eq (q.registers.i + 1) z.variables) (at 0 Keep q) (at (q.registers.i + 1) Undo q)
      (λ _. goes (at 0 Keep q) refl refl refl)
      (λ _. goes (at (q.registers.i + 1) Undo q) refl refl refl)

  -- KEEP writes in the part of the process that is served
  apart : q.label ≡ Keep → (k i : ℕ) → k ≢ q.registers.j → InPart z k i → i ≢ part z q.registers.j + q.registers.i
  apart is k i d place e =
      let index = at_index Keep is in
      d (same_part z k q.registers.j i place (subst (λ (n : ℕ). InPart z q.registers.j n) (sym e) (place_in z q.registers.j q.registers.i index.0)))

  kept : q.label ≡ Keep → Will (Own (part z q.registers.j + q.registers.i) (kept_word m z c p q)) (row Keep m z c p q).process
  kept is =
      let j = q.registers.j in
      let change = Own (part z j + q.registers.i) (kept_word m z c p q) in
      let end : Process Run = record q { label = Seen; registers = record q.registers { i = 0; j = j + 1 } } in
      let words : (k i : ℕ) → k < z.processes → InPart z k i → S k c.root → is_linked c p ≡ true → word_in (cell_after c p change) own i ≡ word_in c own i =
      λ k i lt place s l. own_word c p (part z j + q.registers.i) i (kept_word m z c p q) (apart is k i (λ e. f.served (ap phase is) l (subst (λ (n : ℕ). S n c.root) e s)) place) in
      let has = ap (λ (k : Label). has_copied (phase k)) is in
      on (Will change) (nat_eq (q.registers.i + 1) (z.replies + 2)) end (at (q.registers.i + 1) Keep q)
      (λ _. serves_on change end refl has words refl refl (λ e. absurd (cc)))
      (λ _. serves_on change (at (q.registers.i + 1) Keep q) refl has words refl refl (λ _. f.carries.unwritten (ap phase is)))

  reads : q.label ≡ Read → Will Nothing (row Read m z c p q).process
  reads is = takes_on z S (word_in c) c.root own p (is_linked c p) (row Read m z c p q).process refl refl (f.settled is) (λ x lt. absurd (omega (arith, lt)))

  took : q.label ≡ Take → Will Nothing (row Take m z c p q).process
  took is =
      let i = q.registers.i in
      let index = at_index Take is in
      let stands = f.carries.source_stands (ap taking is) in
      let word = word_at (block_of c q.registers.r) (part z p + i) in
      let front : (x : ℕ) → x < i + 1 → word_at (set q.replies i word) x ≡ word_in c c.root (part z p + x) =
      λ x lt. elim (cases_eq x i) as (λ _. word_at (set q.replies i word) x ≡ word_in c c.root (part z p + x)) [
        | inl e ↦ rw e (get_or-set_same q.replies i word (pos 0) (omega (arith, index, f.range.replies)) ∙ f.replies.stands q.registers.r p (part z p + i) f.range.r f.member (place_in z p i (omega (arith, index))) stands)
        | inr d ↦ get_or-set_other q.replies i x word (pos 0) d ∙ f.carries.taken x (let less : x < i = omega (arith, lt, d) in subst (λ (l : Label). x < words_taken z l i) (sym is) less)
      ] in
      let next : Process Run = record q { replies = set q.replies i word } in
      on (λ (l : Label). Will Nothing (at (i + 1) l next)) (nat_eq (i + 1) (z.replies + 1)) Give q.label
      (λ e. takes_on z S (word_in c) c.root own p (is_linked c p) (at (i + 1) Give next) refl refl stands (λ x lt. front x (let all = eqb-true (i + 1) (z.replies + 1) e in omega (arith, all, lt))))
      (λ _. takes_on z S (word_in c) c.root own p (is_linked c p) (at (i + 1) q.label next) (ap copying is) (ap (λ (l : Label). has_copied (phase l)) is) stands (λ x lt. front x (let less : x < words_taken z q.label (i + 1) = lt in subst (λ (l : Label). x < words_taken z l (i + 1)) is less)))

  -- every row but FLIP and the exchange
  pub own_carries : (l : Label) → length (body_turn m z c p q).block ≤ z.variables → q.label ≡ l → l ≢ Flip → (l ≡ Commit → is_linked c p ≡ false) → Will (row l m z c p q).change (row l m z c p q).process
  own_carries Next few is other none = let a = ap copying is in let b = ap taking is in let d = ap (λ (k : Label). has_copied (phase k)) is in out (row Next m z c p q).process (grind (arith, nat_tests, a)) (grind (arith, nat_tests, b)) (grind (arith, nat_tests, d)) Nothing
  own_carries Post few is other none = let a = ap copying is in let b = ap taking is in let d = ap (λ (k : Label). has_copied (phase k)) is in out (row Post m z c p q).process (grind (arith, nat_tests, a)) (grind (arith, nat_tests, b)) (grind (arith, nat_tests, d)) (row Post m z c p q).change
  own_carries Flip few is other none = absurd (other refl)
  own_carries Try few is other none = out (row Try m z c p q).process (grind (arith, nat_tests)) (grind (arith, nat_tests)) (grind (arith, nat_tests)) Nothing
  own_carries Link few is other none = linked_up is
  own_carries Load few is other none = loaded is
  own_carries Store few is other none = stored is
  own_carries Check1 few is other none = copied is
  own_carries Mine few is other none = asked is
  own_carries Seen few is other none = seen is
  own_carries Fetch few is other none = let a = ap copying is in let b = ap taking is in still Fetch (row Fetch m z c p q).process is refl (grind (arith, nat_tests, a)) (grind (arith, nat_tests, b)) (λ _. f.carries.unwritten (ap phase is))
  own_carries Check2 few is other none = checked_again is
  own_carries Save few is other none = let a = ap copying is in let b = ap taking is in still Save (row Save m z c p q).process is refl (grind (arith, nat_tests, a)) (grind (arith, nat_tests, b)) (λ _. f.carries.unwritten (ap phase is))
  own_carries Enter few is other none = still Enter (row Enter m z c p q).process is refl refl refl (λ _. f.carries.unwritten (ap phase is))
  own_carries Body few is other none = ran few is
  own_carries Undo few is other none = undone is
  own_carries Keep few is other none = kept is
  own_carries Commit few is other none = on (Will Exchanges) (is_linked c p) (to Read q) (to Try q) (λ _. out (to Read q) refl refl refl Exchanges) (λ _. out (to Try q) refl refl refl Exchanges)
  own_carries Read few is other none = reads is
  own_carries Take few is other none = took is
  own_carries Give few is other none = out (row Give m z c p q).process refl refl refl Nothing

  old : (k i : ℕ) → k < z.processes → InPart z k i → S k own → word_in c own i ≡ word_in c c.root i
  old k i lt place s = f.replies.stands own k i own_in lt place s

  -- the own block agrees with the root wherever a reply stands in it
  pub own_agrees : (l : Label) → length (body_turn m z c p q).block ≤ z.variables → q.label ≡ l → (l ≡ Commit → is_linked c p ≡ false) → (k i : ℕ) → k < z.processes → InPart z k i → S k own → word_in (cell_after c p (row l m z c p q).change) own i ≡ word_in c c.root i
  own_agrees Store few is none k i lt place s =
      let index = at_index Store is in
      let acc = q.registers.acc in
      elim (cases_eq i q.registers.i) [
        | inl e ↦ ap (word_in (cell_after c p (Own q.registers.i acc)) own) e ∙ written_word c p q.registers.i acc within (omega (arith, index, long))
            ∙ f.carries.carried (ap at_store is) k lt (subst (InPart z k) e place) s ∙ ap (word_in c c.root) (sym e)
        | inr d ↦ own_word c p q.registers.i i acc d ∙ old k i lt place s
      ]
  own_agrees Body few is none k i lt place s = word_behind c p i (body_turn m z c p q).block within (omega (arith, few, place.0)) ∙ old k i lt place s
  own_agrees Undo few is none k i lt place s = (let index = at_index Undo is in own_word c p q.registers.i i (word_at q.save q.registers.i) (λ e. absurd (omega (arith, e, index.0, place.0)))) ∙ old k i lt place s
  own_agrees Keep few is none k i lt place s = own_word c p (part z q.registers.j + q.registers.i) i (kept_word m z c p q) (apart is k i (λ e. f.carries.unwritten (ap phase is) (subst (λ (n : ℕ). S n own) e s)) place) ∙ old k i lt place s
  own_agrees Commit few is none k i lt place s = ap (λ (d : Cell). word_in d own i) (unlinked_stays c p (none refl)) ∙ old k i lt place s
  own_agrees l few is none k i lt place s = old k i lt place s
