-- Steps of a body, several taken off the front.
use Rattle.std.proofs.Common.{◌≡◌, ℕ, zero, suc, ◌+◌, ◌-◌, ◌<◌, ◌≤◌, ◌⊎◌, inl, inr, true, false, List, refl, sym, ap, ◌∙◌, arith}
use Rattle.std.specs.Prelude.{ℤ}
use Rattle.ob_code_words.specs.declared.instr.Instr.{Instr}
use Rattle.ob_code_machine.specs.declared.turn.BodyTurn.{BodyTurn}
use Rattle.ob_code_machine.specs.declared.turn.BodyTurn.TheVariants.{On, Returned, Trapped, Stuck}
use Rattle.ob_code_machine.specs.Machine as Machine
use Rattle.ob_code_machine.specs.Machine.{Outcome}
use Rattle.ob_code_machine.specs.Body.{Run, Step, after, shown, step_of, steps}
use Rattle.ob_code_machine.specs.Leaps.{Goes, IsLeap}

stays : (t : BodyTurn) (s next : Step) → (t ≡ On → ⊥) → after t s next ≡ s
stays On s next h = absurd (h refl)
stays Returned s next h = refl
stays (Trapped k) s next h = refl
stays Stuck s next h = refl

-- what comes behind the first ones comes behind all
after_first : (t : BodyTurn) (s first whole : Step) (go : Step → Step) → t ≡ s.turn → whole ≡ after first.turn first (go first)
    → after t s whole ≡ after (after t s first).turn (after t s first) (go (after t s first))
after_first On s first whole go is h = h
after_first Returned s first whole go is h = ap (λ (u : BodyTurn). after u s (go s)) is
after_first (Trapped k) s first whole go is h = ap (λ (u : BodyTurn). after u s (go s)) is
after_first Stuck s first whole go is h = ap (λ (u : BodyTurn). after u s (go s)) is

on_again : (t : BodyTurn) (s next : Step) → t ≡ s.turn → (after t s next).turn ≡ On → t ≡ On
on_again On s next is h = refl
on_again Returned s next is h = is ∙ h
on_again (Trapped k) s next is h = is ∙ h
on_again Stuck s next is h = is ∙ h

after_one : (t : BodyTurn) (s : Step) → t ≡ s.turn → after t s (record { turn = On; run = s.run; block = s.block }) ≡ s
after_one On s is = ap (λ (u : BodyTurn). record { turn = u; run = s.run; block = s.block }) is
after_one Returned s is = refl
after_one (Trapped k) s is = refl
after_one Stuck s is = refl

-- ---- numbers

pub up_to_or_behind : (n j : ℕ) → (j ≤ n) ⊎ (n ≤ j)
up_to_or_behind zero j = inr (omega arith)
up_to_or_behind (suc n) zero = inl (omega arith)
up_to_or_behind (suc n) (suc j) = elim (up_to_or_behind n j) [ inl h ↦ inl (omega (arith, h)) | inr h ↦ inr (omega (arith, h)) ]

-- where some are left, some of them are taken
pub some_of_all : (before left taken : ℕ) → 0 < before + left → (0 < left → 0 < taken) → 0 < before + taken
some_of_all before zero taken all some = omega (arith, all)
some_of_all before (suc left) taken all some = omega (arith, some (omega arith))

-- ---- a body that goes on is not over

shown_works : (run : Run) (block : List ℤ) (o : Outcome) → run.is_over ≡ false → (shown run block o).turn ≡ On → (shown run block o).run.is_over ≡ false
shown_works run block (Machine.Unfinished c) works on = works
shown_works run block (Machine.Returned left stack) works on = absurd cc
shown_works run block (Machine.Trapped k) works on = absurd cc
shown_works run block Machine.Stuck works on = works

after_works : (t : BodyTurn) (s next : Step) → t ≡ s.turn → (s.turn ≡ On → s.run.is_over ≡ false) → (s.run.is_over ≡ false → next.turn ≡ On → next.run.is_over ≡ false)
    → (after t s next).turn ≡ On → (after t s next).run.is_over ≡ false
after_works On s next is first more on = more (first (sym is)) on
after_works Returned s next is first more on = first on
after_works (Trapped k) s next is first more on = first on
after_works Stuck s next is first more on = first on

module _ (code : List Instr) where
  -- so many steps, and then so many
  split : (j k n : ℕ) (run : Run) (block : List ℤ) → n ≡ j + k
      → steps code n run block ≡ after (steps code j run block).turn (steps code j run block) (steps code k (steps code j run block).run (steps code j run block).block)
  split zero k n run block e = let same : n ≡ k = omega arith in ap (λ (i : ℕ). steps code i run block) same
  split (suc j) k n run block e =
      let s = step_of code run block in
      let more : n ≡ suc (j + k) = omega arith in
      ap (λ (i : ℕ). steps code i run block) more
      ∙ after_first s.turn s (steps code j s.run s.block) (steps code (j + k) s.run s.block) (λ (t : Step). steps code k t.run t.block) refl (split j k (j + k) s.run s.block refl)

  -- some more of them
  pub behind_some : (k j n : ℕ) (run : Run) (block : List ℤ) (run' : Run) (block' : List ℤ) → Goes code k run block run' block' → n ≡ k + j
      → steps code n run block ≡ steps code j run' block'
  behind_some k j n run block run' block' goes e =
      split k j n run block e ∙ ap (λ (t : Step). after t.turn t (steps code j t.run t.block)) goes

  -- none comes behind one that is the last
  pub last_of : (j n : ℕ) (run : Run) (block : List ℤ) (t : BodyTurn) (run' : Run) (block' : List ℤ) → (t ≡ On → ⊥) → j ≤ n
      → record { turn = t; run = run'; block = block' } ≡ steps code j run block → record { turn = t; run = run'; block = block' } ≡ steps code n run block
  last_of j n run block t run' block' not_on le is =
      let s : Step = record { turn = t; run = run'; block = block' } in
      let parted : n ≡ j + (n - j) = omega (arith, le) in
      sym
      (split j (n - j) n run block parted
      ∙ ap (λ (u : Step). after u.turn u (steps code (n - j) u.run u.block)) (sym is)
      ∙ stays t s (steps code (n - j) run' block') not_on)

  -- each of the steps before goes on
  pub goes_before : (k : ℕ) (run : Run) (block : List ℤ) (run' : Run) (block' : List ℤ) → Goes code k run block run' block' → (j : ℕ) → j ≤ k → (steps code j run block).turn ≡ On
  goes_before k run block run' block' goes j le =
      let s = steps code j run block in
      let parted : k ≡ j + (k - j) = omega (arith, le) in
      on_again s.turn s (steps code (k - j) s.run s.block) refl
      (ap (λ (t : Step). t.turn) (sym (split j (k - j) k run block parted) ∙ goes))

  works_behind : (k : ℕ) (run : Run) (block : List ℤ) → run.is_over ≡ false → (steps code k run block).turn ≡ On → (steps code k run block).run.is_over ≡ false
  works_behind zero run block works on = works
  works_behind (suc k) run block works on =
      let s = step_of code run block in
      after_works s.turn s (steps code k s.run s.block) refl (shown_works run block _ works) (works_behind k s.run s.block) on

  pub goes_works : (k : ℕ) (run : Run) (block : List ℤ) (run' : Run) (block' : List ℤ) → run.is_over ≡ false → Goes code k run block run' block' → run'.is_over ≡ false
  goes_works k run block run' block' works goes =
      sym (ap (λ (t : Step). t.run.is_over) goes) ∙ works_behind k run block works (ap (λ (t : Step). t.turn) goes)

  pub one_step : (run : Run) (block : List ℤ) → steps code 1 run block ≡ step_of code run block
  one_step run block = let s = step_of code run block in after_one s.turn s refl

  -- one, by its parts
  pub stepped : (run : Run) (block : List ℤ) (t : BodyTurn) (run' : Run) (block' : List ℤ) → t ≡ (step_of code run block).turn → run' ≡ (step_of code run block).run → block' ≡ (step_of code run block).block
      → record { turn = t; run = run'; block = block' } ≡ steps code 1 run block
  stepped run block t run' block' turn is_run is_block =
      ap (λ (t : BodyTurn). record { turn = t; run = run'; block = block' }) turn
      ∙ ap (λ (r : Run). record { turn = (step_of code run block).turn; run = r; block = block' }) is_run
      ∙ ap (λ b. record { turn = (step_of code run block).turn; run = (step_of code run block).run; block = b }) is_block
      ∙ sym (one_step run block)

  -- one that is over is stuck
  pub over_sticks : (run : Run) (block : List ℤ) → run.is_over ≡ true → record { turn = Stuck; run = run; block = block } ≡ steps code 1 run block
  over_sticks run block over = rw over refl

  -- ---- leaps

  pub leaps_one : (t : BodyTurn) (run : Run) (block : List ℤ) (run' : Run) (block' : List ℤ) → record { turn = t; run = run'; block = block' } ≡ step_of code run block → IsLeap code t 1 run block run' block'
  leaps_one t run block run' block' is = record {
    some = omega arith;
    few = omega arith;
    alone = λ _. refl;
    steps = is ∙ sym (one_step run block);
  }

  pub leaps_more : (k : ℕ) (run : Run) (block : List ℤ) (run' : Run) (block' : List ℤ) → 0 < k → k ≤ 3 → Goes code k run block run' block' → IsLeap code On k run block run' block'
  leaps_more k run block run' block' some few goes = record {
    some = some;
    few = few;
    alone = λ never. absurd (never refl);
    steps = sym goes;
  }
