-- CALL, FRAME and RET.
use Rattle.std.proofs.Common.{◌≡◌, ℕ, suc, ◌+◌, ◌-◌, ◌<◌, ◌≤◌, Bool, cond, ℤ, pos, List, ◌∷◌, ◌++◌, length, take, replicate, Some, Option, ap, ◌∙◌}
use Rattle.std.specs.Prelude.{slice_get}
use Rattle.ob_code_words.specs.declared.instr.Instr.{Instr}
use Rattle.ob_code_words.specs.declared.instr.Instr.TheVariants as Instrs
use Rattle.ob_code_words.specs.Words.{Made, Gives, Sticks, ◌>>=◌}
use Rattle.ob_code_words.specs.Effect.{cleared}
use Rattle.ob_code_machine.specs.declared.saved.Saved.{Saved}
use Rattle.ob_code_machine.specs.Machine.{Configuration, Unfinished, Trapped, Stuck, made_then, goes_on, act_at, turn, taking_turn, entering, back_to}
use Rattle.ob_code_correct.proofs.Steps.{within, not_within, not_below}

module _ (code : List Instr) (reserve : ℕ) (block : List ℤ) (fp : ℕ) (saved : List Saved) where
  abbrev pub with_frame : (turns pc : ℕ) → List ℤ → Configuration
  with_frame turns pc stack = record { block = block; body = record { pc = pc; stack = stack; fp = fp; saved = saved; turns = turns } }

  -- FRAME: zeros
  pub frames : (turns pc words : ℕ) (stack : List ℤ) → slice_get code pc ≡ Some (Instrs.Frame words) → length stack + words ≤ reserve →
      turn code reserve (with_frame turns pc stack) ≡ Unfinished (with_frame turns (pc + 1) (stack ++ replicate words (pos 0)))
  frames turns pc words stack stands room =
      let c = with_frame turns pc stack in
      let made : cleared reserve words stack ≡ Gives (stack ++ replicate words (pos 0)) = ap (λ (b : Bool). cond b (Gives (stack ++ replicate words (pos 0))) Sticks) (within (length stack + words) reserve room) in
      ap (λ (o : Option Instr). act_at reserve o c) stands
      ∙ ap (λ (m : Made (List ℤ)). made_then (m >>= (λ after. Gives (block, after))) (goes_on c)) made

  -- RET: the frame is dropped
  pub returns : (turns pc : ℕ) (stack : List ℤ) → slice_get code pc ≡ Some Instrs.Return → fp ≤ length stack →
      turn code reserve (with_frame turns pc stack) ≡ back_to saved (take fp stack) (with_frame turns pc stack)
  returns turns pc stack stands high =
      let c = with_frame turns pc stack in
      ap (λ (o : Option Instr). act_at reserve o c) stands
      ∙ ap (λ (b : Bool). cond b Stuck (back_to saved (take fp stack) c)) (not_below (length stack) fp high)

  module _ (turns pc entry parameters : ℕ) (stack : List ℤ) (stands : slice_get code pc ≡ Some (Instrs.Call entry parameters)) where
    -- CALL at depth 64
    pub calls_deep : 63 ≤ length saved → turn code reserve (with_frame turns pc stack) ≡ Trapped 4
    calls_deep deep =
        let c = with_frame turns pc stack in
        ap (λ (o : Option Instr). act_at reserve o c) stands
        ∙ ap (λ (b : Bool). cond b (Trapped 4) (taking_turn turns (entering entry parameters c))) (within 63 (length saved) deep)

    calls_high : length saved < 63 → turn code reserve (with_frame turns pc stack) ≡ taking_turn turns (entering entry parameters (with_frame turns pc stack))
    calls_high high =
        let c = with_frame turns pc stack in
        ap (λ (o : Option Instr). act_at reserve o c) stands
        ∙ ap (λ (b : Bool). cond b (Trapped 4) (taking_turn turns (entering entry parameters c))) (not_within 63 (length saved) high)

  -- CALL without a turn
  pub calls_none : (pc entry parameters : ℕ) (stack : List ℤ) → slice_get code pc ≡ Some (Instrs.Call entry parameters) → length saved < 63 →
      turn code reserve (with_frame 0 pc stack) ≡ Trapped 5
  calls_none pc entry parameters stack stands high = calls_high 0 pc entry parameters stack stands high

  -- CALL: a frame from the topmost words on
  pub calls_on : (left pc entry parameters : ℕ) (stack : List ℤ) → slice_get code pc ≡ Some (Instrs.Call entry parameters) → length saved < 63 → parameters ≤ length stack →
      turn code reserve (with_frame (suc left) pc stack)
      ≡ Unfinished (record { block = block; body = record { pc = entry; stack = stack; fp = length stack - parameters; saved = record { pc = pc + 1; fp = fp } ∷ saved; turns = left } })
  calls_on left pc entry parameters stack stands high enough =
      let d : Configuration = record { block = block; body = record { pc = entry; stack = stack; fp = length stack - parameters; saved = record { pc = pc + 1; fp = fp } ∷ saved; turns = left } } in
      calls_high (suc left) pc entry parameters stack stands high ∙ ap (λ (b : Bool). cond b (Unfinished d) Stuck) (within parameters (length stack) enough)
