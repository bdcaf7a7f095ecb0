-- The instructions of statements on images: PUT, the jumps and TURN.
use Rattle.std.proofs.Common.{◌≡◌, ℕ, suc, ◌+◌, ◌<◌, Bool, true, false, ℤ, pos, List, [], ◌∷◌, ◌++◌, length, drop, Some, refl, sym, ap, ◌∙◌, arith}
use Rattle.std.specs.Prelude.{slice_get, slice_set, if◌then◌else◌}
use Rattle.std.specs.Ordering.{int_eq}
use Rattle.ob_interface.specs.declared.scalar.Scalar.{Scalar}
use Rattle.ob_interface.specs.declared.scalar.ScalarType.{ScalarType}
use Rattle.ob_typing.specs.Program.{Simple}
use Rattle.ob_meaning.specs.ByPositionValue.{Single}
use Rattle.ob_meaning.specs.ByPositionStore.{Place, Store, activation_at, stored}
use Rattle.ob_code_scheme.specs.Types.{address, IsScalarOf, IsPlace, Fits}
use Rattle.ob_code_scheme.specs.Layout.{word}
use Rattle.ob_code_words.specs.declared.instr.Instr.TheVariants as Instrs
use Rattle.ob_code_words.specs.Words.{Made, Gives, ◌>>=◌}
use Rattle.ob_code_words.specs.Effect.{popped, put_at}
use Rattle.ob_code_words.specs.Effect as Effects
use Rattle.ob_code_machine.specs.Machine.{Unfinished, made_then, goes_to, jump_if_false, goes_on}
use Rattle.ob_code_scheme.specs.Image.{position_words, store_words, Leads, Stops}
use Rattle.ob_code_scheme.specs.Memory.{MemoryHolds}
use Rattle.ob_code_scheme.specs.Running.{Setting, scopes_of, all_of, reserve_of, here}
use Rattle.ob_code_scheme.specs.Placing.{CodePlaced}
use Rattle.ob_code_correct.proofs.Instructions.{popped_top, with_word, with_place, Leading, comes, traps}

-- an address and a word on top: what is put there
stored_top : (block s t : List ℤ) (a w : ℤ) (m : Made (List ℤ × List ℤ)) → put_at block (s ++ t) a w ≡ m → Effects.stored block (s ++ ((t ++ a ∷ []) ++ w ∷ [])) ≡ m
stored_top block s t a w m h =
    ap (λ (p : Made (ℤ × List ℤ)). p >>= (λ (y : ℤ × List ℤ). popped y.1 >>= (λ (x : ℤ × List ℤ). put_at block x.1 x.0 y.0))) (popped_top s (t ++ a ∷ []) w)
    ∙ ap (λ (p : Made (ℤ × List ℤ)). p >>= (λ (x : ℤ × List ℤ). put_at block x.1 x.0 w)) (popped_top s t a)
    ∙ h

module _ (placed : CodePlaced) (at : Setting) where
  -- PUT: a scalar of its type is stored into a place
  pub put_leads : MemoryHolds → (store : Store) (turns : ℕ) (place : Place) (t : ScalarType) (s : Scalar) (pc : ℕ) (temps : List ℤ) → Fits (all_of at) store → IsPlace (all_of at) place (Simple t) → IsScalarOf t s →
      slice_get at.code pc ≡ Some Instrs.Put →
      Fits (all_of at) (stored store place (Single s))
      × Leads at.code (reserve_of at) 1 (here at store turns pc (with_word (with_place at temps place) s)) (here at (stored store place (Single s)) turns (pc + 1) temps)
  put_leads memory store turns place t s pc temps fits is typed stands =
      let after = stored store place (Single s) in
      let a = address (all_of at) place in
      let block = position_words (all_of at) (activation_at store 0) in
      let others = store_words (all_of at) (drop 1 store) in
      let block' = position_words (all_of at) (activation_at after 0) in
      let others' = store_words (all_of at) (drop 1 after) in
      let changed = memory.changes (all_of at) store place t s fits is typed in
      let looked = memory.looks (all_of at) store place t fits is in
      let now = memory.lengths (scopes_of at) store fits in
      let later = memory.lengths (scopes_of at) after changed.fits in
      let inside : a < length (block ++ others) = omega (arith, looked.below, ap length now.parts) in
      let long : length block' ≡ length block = later.block ∙ sym now.block in
      let whole : block' ++ others' ≡ slice_set (block ++ others) a (word s) =
      sym later.parts ∙ changed.words_are ∙ ap (λ (ws : List ℤ). slice_set ws a (word s)) now.parts in
      let c = here at store turns pc (with_word (with_place at temps place) s) in (
        changed.fits,
        comes placed at store turns Instrs.Put pc (with_word (with_place at temps place) s) stands (here at after turns (pc + 1) temps)
            (ap (λ (m : Made (List ℤ × List ℤ)). made_then m (goes_on c))
            (stored_top block others temps (pos a) (word s) (Gives (block', others' ++ temps)) (memory.put_at block others temps block' others' a (word s) inside long whole))),
      )

  module _ (store : Store) (turns : ℕ) where
    -- JMP
    pub jump_leads : (target pc : ℕ) (temps : List ℤ) → slice_get at.code pc ≡ Some (Instrs.Jump target) → Leading placed at store turns 1 pc temps target temps
    jump_leads target pc temps stands = comes placed at store turns (Instrs.Jump target) pc temps stands (here at store turns target temps) refl

    -- JF: both ways the word is popped
    falls : (w : ℤ) (target pc : ℕ) (temps : List ℤ) (b : Bool) → int_eq w (pos 0) ≡ b →
        jump_if_false target (here at store turns pc (temps ++ w ∷ [])) ≡ Unfinished (here at store turns (if b then target else pc + 1) temps)
    falls w target pc temps b test =
        let c = here at store turns pc (temps ++ w ∷ []) in
        ap (λ (m : Made (ℤ × List ℤ)). made_then m (λ x. if int_eq x.0 (pos 0) then goes_to c target x.1 else goes_to c (pc + 1) x.1)) (popped_top (store_words (all_of at) (drop 1 store)) temps w)
        ∙ ap (λ (b : Bool). if b then goes_to c target (store_words (all_of at) (drop 1 store) ++ temps) else goes_to c (pc + 1) (store_words (all_of at) (drop 1 store) ++ temps)) test
        ∙ either b
      where
        either : (b : Bool) →
            (if b then Unfinished (here at store turns target temps) else Unfinished (here at store turns (pc + 1) temps)) ≡ Unfinished (here at store turns (if b then target else pc + 1) temps)
        either true = refl
        either false = refl

    pub false_leads : (target pc : ℕ) (temps : List ℤ) → slice_get at.code pc ≡ Some (Instrs.JumpIfFalse target) → Leading placed at store turns 1 pc (temps ++ pos 0 ∷ []) target temps
    false_leads target pc temps stands =
        comes placed at store turns (Instrs.JumpIfFalse target) pc (temps ++ pos 0 ∷ []) stands (here at store turns target temps) (falls (pos 0) target pc temps true refl)

    pub true_leads : (target pc : ℕ) (temps : List ℤ) → slice_get at.code pc ≡ Some (Instrs.JumpIfFalse target) → Leading placed at store turns 1 pc (temps ++ pos 1 ∷ []) (pc + 1) temps
    true_leads target pc temps stands =
        comes placed at store turns (Instrs.JumpIfFalse target) pc (temps ++ pos 1 ∷ []) stands (here at store turns (pc + 1) temps) (falls (pos 1) target pc temps false refl)

  -- TURN: one turn less, or trap 5
  pub turn_leads : (store : Store) (left pc : ℕ) (temps : List ℤ) → slice_get at.code pc ≡ Some Instrs.Turn →
      Leads at.code (reserve_of at) 1 (here at store (suc left) pc temps) (here at store left (pc + 1) temps)
  turn_leads store left pc temps stands = comes placed at store (suc left) Instrs.Turn pc temps stands (here at store left (pc + 1) temps) refl

  pub turn_stops : (store : Store) (pc : ℕ) (temps : List ℤ) → slice_get at.code pc ≡ Some Instrs.Turn → Stops at.code (reserve_of at) 1 (here at store 0 pc temps) 5
  turn_stops store pc temps stands = traps placed at store 0 Instrs.Turn pc temps stands 5 refl
