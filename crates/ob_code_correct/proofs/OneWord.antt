-- An instruction reads and writes at most one word of the block: on another block of as many words, with the same word there, it does
-- the same.
use Rattle.std.proofs.Common.{◌≡◌, ℕ, zero, suc, ◌+◌, ◌-◌, ◌<◌, Bool, true, false, List, [], ◌∷◌, ◌++◌, length, set, get_or, refl, sym, ap, ◌∙◌, arith}
use Rattle.std.specs.Prelude.{ℤ, pos, negsuc, nat_lt, nat_le, take, slice_get, slice_index_or, Option, Some, None, if◌then◌else◌}
use Rattle.std.specs.Ordering.{int_eq}
use Rattle.std.proofs.lemmas.Bool.Decides.{nat_tests}
use Rattle.ob_code_words.specs.declared.instr.Instr.{Instr}
use Rattle.ob_code_words.specs.declared.instr.Instr.TheVariants.{Local, Get, Put, Jump, JumpIfFalse, AndJump, OrJump, Call, Return, Turn}
use Rattle.ob_code_machine.specs.declared.saved.Saved.{Saved}
use Rattle.ob_code_words.specs.Words.{Made, Gives, Traps, Sticks, ◌>>=◌, address}
use Rattle.ob_code_words.specs.Effect.{popped, pushed, put_at, stack_effect, effect}
use Rattle.ob_code_words.specs.Effect as Memory
use Rattle.ob_code_machine.specs.Machine.{BodyState, Configuration, Outcome, Unfinished, Returned, Trapped, Stuck, made_then, goes_on, taking_turn, back_to, act, act_at, turn}
use Rattle.ob_code_machine.specs.Body.{Run, Step, shown, at, step_of}

-- ---- words of lists

abbrev pub word_in : List ℤ → ℕ → ℤ
word_in ws i = slice_index_or ws i (pos 0)

-- the word that is there, written again
own_again : (ws : List ℤ) (k : ℕ) → set ws k (word_in ws k) ≡ ws
own_again [] k = refl
own_again (w ∷ ws) zero = refl
own_again (w ∷ ws) (suc k) = ap (λ (rest : List ℤ). w ∷ rest) (own_again ws k)

-- a word that was written
as_written : (ws : List ℤ) (k : ℕ) (w : ℤ) → k < length ws → word_in (set ws k w) k ≡ w
as_written [] k w h = absurd (omega (arith, h))
as_written (v ∷ ws) zero w h = refl
as_written (v ∷ ws) (suc k) w h = as_written ws k w (omega (arith, h))

-- ---- the place; where there is none it is behind a block of so many words

abbrev pub place_at : ℕ → ℤ → ℕ
place_at words (pos a) = a
place_at words (negsuc n) = words

abbrev pub place_popped : ℕ → Made (ℤ × List ℤ) → ℕ
place_popped words (Gives x) = place_at words x.0
place_popped words (Traps k) = words
place_popped words Sticks = words

-- GET has its address on top, PUT below the word
abbrev pub place_of : ℕ → Instr → List ℤ → ℕ
place_of words Get stack = place_popped words (popped stack)
place_of words Put stack = place_popped words (popped stack >>= (λ y. popped y.1))
place_of words i stack = words

abbrev pub place_in : ℕ → Option Instr → List ℤ → ℕ
place_in words None stack = words
place_in words (Some i) stack = place_of words i stack

module _ (block other : List ℤ) where
  abbrev pub IsSameAt : ℕ → Type 0
  IsSameAt k = word_in other k ≡ word_in block k

  -- what is left of the other block, where this is left of the block
  abbrev pub left_of : ℕ → List ℤ → List ℤ
  left_of k left = set other k (word_in left k)

  abbrev pub on_other : ℕ → List ℤ × List ℤ → Made (List ℤ × List ℤ)
  on_other k made = Gives (left_of k made.0, made.1)

  pub keeps : (k : ℕ) → IsSameAt k → left_of k block ≡ other
  keeps k same = ap (λ (w : ℤ). set other k w) (sym same) ∙ own_again other k

  module _ (long : length other ≡ length block) where
    -- ---- memory

    -- the word at address a, of a block of so many words, with this word there
    abbrev word_by : (words : ℕ) (w : ℤ) (stack : List ℤ) (a : ℕ) → Made ℤ
    word_by words w stack a =
        if nat_lt a words then Gives w else if nat_lt (a - words) (length stack) then Gives (slice_index_or stack (a - words) (pos 0)) else Sticks

    word_same : (stack : List ℤ) (a : ℤ) → IsSameAt (place_at (length block) a) → Memory.word_at other stack a ≡ Memory.word_at block stack a
    word_same stack (negsuc n) same = refl
    word_same stack (pos a) same = ap (λ (n : ℕ). word_by n (word_in other a) stack a) long ∙ ap (λ (w : ℤ). word_by (length block) w stack a) same

    loaded_same : (m : Made (ℤ × List ℤ)) → IsSameAt (place_popped (length block) m) →
        (m >>= (λ x. Memory.word_at other x.1 x.0 >>= (λ w. Gives (x.1 ++ w ∷ [])))) ≡ (m >>= (λ x. Memory.word_at block x.1 x.0 >>= (λ w. Gives (x.1 ++ w ∷ []))))
    loaded_same (Gives x) same = ap (λ (m : Made ℤ). m >>= (λ w. Gives (x.1 ++ w ∷ []))) (word_same x.1 x.0 same)
    loaded_same (Traps k) same = refl
    loaded_same Sticks same = refl

    put_by : (a : ℕ) (w : ℤ) (stack moved : List ℤ) (inside above : Bool) → nat_lt a (length block) ≡ inside → IsSameAt a →
        (if inside then Gives (set other a w, stack) else if above then Gives (other, moved) else Sticks)
        ≡ ((if inside then Gives (set block a w, stack) else if above then Gives (block, moved) else Sticks) >>= on_other a)
    put_by a w stack moved true above is same =
        let less : a < length block = grind (arith, nat_tests, is) in
        ap (λ (v : ℤ). Gives (set other a v, stack)) (sym (as_written block a w less))
    put_by a w stack moved false true is same = ap (λ (ws : List ℤ). Gives (ws, moved)) (sym (keeps a same))
    put_by a w stack moved false false is same = refl

    abbrev put_in : (words a : ℕ) (w : ℤ) (stack : List ℤ) → Made (List ℤ × List ℤ)
    put_in words a w stack =
        if nat_lt a words then Gives (set other a w, stack) else if nat_lt (a - words) (length stack) then Gives (other, set stack (a - words) w) else Sticks

    put_follows : (w : ℤ) (stack : List ℤ) (a : ℤ) → IsSameAt (place_at (length block) a) →
        put_at other stack a w ≡ (put_at block stack a w >>= on_other (place_at (length block) a))
    put_follows w stack (negsuc n) same = refl
    put_follows w stack (pos a) same =
        ap (λ (n : ℕ). put_in n a w stack) long
        ∙ put_by a w stack (set stack (a - length block) w) (nat_lt a (length block)) (nat_lt (a - length block) (length stack)) refl same

    address_follows : (w : ℤ) (m : Made (ℤ × List ℤ)) → IsSameAt (place_popped (length block) m) →
        (m >>= (λ x. put_at other x.1 x.0 w)) ≡ ((m >>= (λ x. put_at block x.1 x.0 w)) >>= on_other (place_popped (length block) m))
    address_follows w (Gives x) same = put_follows w x.1 x.0 same
    address_follows w (Traps k) same = refl
    address_follows w Sticks same = refl

    stored_follows : (m : Made (ℤ × List ℤ)) → IsSameAt (place_popped (length block) (m >>= (λ y. popped y.1))) →
        (m >>= (λ y. popped y.1 >>= (λ x. put_at other x.1 x.0 y.0)))
        ≡ ((m >>= (λ y. popped y.1 >>= (λ x. put_at block x.1 x.0 y.0))) >>= on_other (place_popped (length block) (m >>= (λ y. popped y.1))))
    stored_follows (Gives y) same = address_follows y.0 (popped y.1) same
    stored_follows (Traps k) same = refl
    stored_follows Sticks same = refl

    -- ---- instructions

    stack_same : (reserve fp : ℕ) (i : Instr) (stack : List ℤ) → IsSameAt (place_of (length block) i stack) →
        stack_effect reserve fp i other stack ≡ stack_effect reserve fp i block stack
    stack_same reserve fp (Local word) stack same = ap (λ (n : ℕ). address (pos (n + fp + word)) >>= (λ a. pushed reserve stack a)) long
    stack_same reserve fp Get stack same = loaded_same (popped stack) same
    stack_same reserve fp i stack same = refl

    beside : (k : ℕ) → IsSameAt k → (m : Made (List ℤ)) →
        (m >>= (λ after. Gives (other, after))) ≡ ((m >>= (λ after. Gives (block, after))) >>= on_other k)
    beside k same (Gives after) = ap (λ (ws : List ℤ). Gives (ws, after)) (sym (keeps k same))
    beside k same (Traps n) = refl
    beside k same Sticks = refl

    pub effect_follows : (reserve fp : ℕ) (i : Instr) (stack : List ℤ) → IsSameAt (place_of (length block) i stack) →
        effect reserve fp i other stack ≡ (effect reserve fp i block stack >>= on_other (place_of (length block) i stack))
    effect_follows reserve fp Put stack same = stored_follows (popped stack) same
    effect_follows reserve fp i stack same =
        ap (λ (m : Made (List ℤ)). m >>= (λ after. Gives (other, after))) (stack_same reserve fp i stack same)
        ∙ beside (place_of (length block) i stack) same (stack_effect reserve fp i block stack)

    -- ---- the machine

    -- what comes of an instruction on the other block
    abbrev outcome_on : ℕ → Outcome → Outcome
    outcome_on k (Unfinished c) = Unfinished (record { block = left_of k c.block; body = c.body })
    outcome_on k (Returned left stack) = Returned (left_of k left) stack
    outcome_on k (Trapped n) = Trapped n
    outcome_on k Stuck = Stuck

    abbrev holding : List ℤ → BodyState → Configuration
    holding ws body = record { block = ws; body = body }

    computed_by : (k : ℕ) (body : BodyState) (m : Made (List ℤ × List ℤ)) →
        made_then (m >>= on_other k) (goes_on (holding other body)) ≡ outcome_on k (made_then m (goes_on (holding block body)))
    computed_by k body (Gives made) = refl
    computed_by k body (Traps n) = refl
    computed_by k body Sticks = refl

    module _ (k : ℕ) (same : IsSameAt k) where
      goes : (body : BodyState) → Unfinished (holding other body) ≡ outcome_on k (Unfinished (holding block body))
      goes body = ap (λ (ws : List ℤ). Unfinished (holding ws body)) (sym (keeps k same))

      then_follows : {A : Type 0} (m : Made A) (f g : A → Outcome) → ((a : A) → g a ≡ outcome_on k (f a)) → made_then m g ≡ outcome_on k (made_then m f)
      then_follows (Gives a) f g h = h a
      then_follows (Traps n) f g h = refl
      then_follows Sticks f g h = refl

      if_follows : (b : Bool) (x y x' y' : Outcome) → x' ≡ outcome_on k x → y' ≡ outcome_on k y → (if b then x' else y') ≡ outcome_on k (if b then x else y)
      if_follows true x y x' y' h l = h
      if_follows false x y x' y' h l = l

      taking_follows : (turns : ℕ) (f g : ℕ → Outcome) → ((left : ℕ) → g left ≡ outcome_on k (f left)) → taking_turn turns g ≡ outcome_on k (taking_turn turns f)
      taking_follows zero f g h = refl
      taking_follows (suc left) f g h = h left

      back_follows : (body : BodyState) (saved : List Saved) (stack : List ℤ) → back_to saved stack (holding other body) ≡ outcome_on k (back_to saved stack (holding block body))
      back_follows body [] stack = ap (λ (ws : List ℤ). Returned ws stack) (sym (keeps k same))
      back_follows body (s ∷ saved) stack = goes _

    act_follows : (reserve : ℕ) (i : Instr) (body : BodyState) → IsSameAt (place_of (length block) i body.stack) →
        act reserve i (holding other body) ≡ outcome_on (place_of (length block) i body.stack) (act reserve i (holding block body))
    act_follows reserve (Jump target) body same = goes (length block) same _
    act_follows reserve (JumpIfFalse target) body same =
        then_follows (length block) same (popped body.stack) _ _ (λ x. if_follows (length block) same (int_eq x.0 (pos 0)) _ _ _ _ (goes (length block) same _) (goes (length block) same _))
    act_follows reserve (AndJump target) body same =
        then_follows (length block) same (popped body.stack) _ _ (λ x. if_follows (length block) same (int_eq x.0 (pos 0)) _ _ _ _ (goes (length block) same _) (goes (length block) same _))
    act_follows reserve (OrJump target) body same =
        then_follows (length block) same (popped body.stack) _ _ (λ x. if_follows (length block) same (int_eq x.0 (pos 1)) _ _ _ _ (goes (length block) same _) (goes (length block) same _))
    act_follows reserve (Call entry parameters) body same =
        if_follows (length block) same (nat_le 63 (length body.saved)) _ _ _ _ refl
        (taking_follows (length block) same body.turns _ _ (λ left. if_follows (length block) same (nat_le parameters (length body.stack)) _ _ _ _ (goes (length block) same _) refl))
    act_follows reserve Return body same =
        if_follows (length block) same (nat_lt (length body.stack) body.fp) _ _ _ _ refl (back_follows (length block) same body body.saved (take body.fp body.stack))
    act_follows reserve Turn body same = taking_follows (length block) same body.turns _ _ (λ left. goes (length block) same _)
    act_follows reserve i body same =
        ap (λ (m : Made (List ℤ × List ℤ)). made_then m (goes_on (holding other body))) (effect_follows reserve body.fp i body.stack same)
        ∙ computed_by (place_of (length block) i body.stack) body (effect reserve body.fp i block body.stack)

    at_follows : (reserve : ℕ) (o : Option Instr) (body : BodyState) → IsSameAt (place_in (length block) o body.stack) →
        act_at reserve o (holding other body) ≡ outcome_on (place_in (length block) o body.stack) (act_at reserve o (holding block body))
    at_follows reserve None body same = refl
    at_follows reserve (Some i) body same = act_follows reserve i body same

    -- ---- steps

    abbrev step_on : ℕ → Step → Step
    step_on k s = record { turn = s.turn; run = s.run; block = left_of k s.block }

    shown_follows : (k : ℕ) → IsSameAt k → (run : Run) (o : Outcome) → shown run other (outcome_on k o) ≡ step_on k (shown run block o)
    shown_follows k same run (Unfinished c) = refl
    shown_follows k same run (Returned left stack) = refl
    shown_follows k same run (Trapped n) = ap (λ (ws : List ℤ). shown run ws (Trapped n)) (sym (keeps k same))
    shown_follows k same run Stuck = ap (λ (ws : List ℤ). shown run ws Stuck) (sym (keeps k same))

    pub step_follows : (code : List Instr) (run : Run) → IsSameAt (place_in (length block) (slice_get code run.body.pc) run.body.stack) →
        step_of code run other ≡ step_on (place_in (length block) (slice_get code run.body.pc) run.body.stack) (step_of code run block)
    step_follows code run same =
        let k = place_in (length block) (slice_get code run.body.pc) run.body.stack in
        ap (shown run other) (if_follows k same run.is_over Stuck (turn code run.reserve (at run block)) Stuck (turn code run.reserve (at run other)) refl (at_follows run.reserve (slice_get code run.body.pc) run.body same))
        ∙ shown_follows k same run (if run.is_over then Stuck else turn code run.reserve (at run block))
