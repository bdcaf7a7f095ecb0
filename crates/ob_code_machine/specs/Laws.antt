-- Laws of the machine.
use Rattle.std.specs.Prelude.{◌≡◌, ℕ, ◌<◌, ◌≤◌, true, false, ℤ, List, length}
use Rattle.ob_code_words.specs.declared.instr.Instr.{Instr}
use Rattle.ob_code_machine.specs.declared.turn.BodyTurn.TheVariants as Answer
use Rattle.ob_code_machine.specs.Machine.{BodyState, Configuration, Outcome, Unfinished, Returned, Trapped, Stuck, turn, exec}
use Rattle.ob_code_machine.specs.Body.{Run, Step, step_of, steps}

-- nothing more can be done
abbrev pub IsOver : Outcome → Type 0
IsOver (Unfinished c) = ⊥
IsOver (Returned block stack) = Unit {0}
IsOver (Trapped k) = Unit {0}
IsOver Stuck = Unit {0}

-- what is over after some instructions is the same after more of them
abbrev pub StaysOver : Type 0
StaysOver = (code : List Instr) (reserve m n : ℕ) (c : Configuration) → IsOver (exec code reserve m c) → m ≤ n → exec code reserve n c ≡ exec code reserve m c

-- a step that is stuck changes nothing
abbrev pub StuckChangesNothing : Type 0
StuckChangesNothing = (code : List Instr) (run : Run) (block : List ℤ) → (step_of code run block).turn ≡ Answer.Stuck → ((step_of code run block).run ≡ run) × ((step_of code run block).block ≡ block)

-- a step that traps changes nothing but that the body is over
abbrev pub TrapEndsBody : Type 0
TrapEndsBody = (code : List Instr) (run : Run) (block : List ℤ) (k : ℕ) → (step_of code run block).turn ≡ Answer.Trapped k → ((step_of code run block).run ≡ record run { is_over = true }) × ((step_of code run block).block ≡ block)

-- after a step that returns, the next one is stuck
abbrev pub ReturnEndsBody : Type 0
ReturnEndsBody = (code : List Instr) (run : Run) (block : List ℤ) → (step_of code run block).turn ≡ Answer.Returned → (step_of code (step_of code run block).run (step_of code run block).block).turn ≡ Answer.Stuck

-- a step leaves a block of as many words and a stack of the same reserve, and a trap is from 1 to 5
pub record KeepsSizes (code : List Instr) (run : Run) (block : List ℤ) : Type 0 where
  pub long : length (step_of code run block).block ≡ length block
  pub reserve : (step_of code run block).run.reserve ≡ run.reserve
  pub traps : (k : ℕ) → (step_of code run block).turn ≡ Answer.Trapped k → (0 < k) × (k ≤ 5)

abbrev pub StepsKeepSizes : Type 0
StepsKeepSizes = (code : List Instr) (run : Run) (block : List ℤ) → KeepsSizes code run block

-- a stack within its words stays there
abbrev pub StackStaysWithin : Type 0
StackStaysWithin =
    (code : List Instr) (reserve : ℕ) (c d : Configuration) → length c.body.stack ≤ reserve → turn code reserve c ≡ Unfinished d → length d.body.stack ≤ reserve

-- a body stands so where instructions have come so far
abbrev pub HasCome : ℕ → Outcome → Step → Type 0
HasCome reserve (Unfinished c) s = s ≡ record { turn = Answer.On; run = record { reserve = reserve; is_over = false; body = c.body }; block = c.block }
HasCome reserve (Returned block stack) s = (s.turn ≡ Answer.Returned) × (s.block ≡ block) × (s.run.body.stack ≡ stack)
HasCome reserve (Trapped k) s = s.turn ≡ Answer.Trapped k
HasCome reserve Stuck s = s.turn ≡ Answer.Stuck

-- so many steps of a body that goes on are so many instructions
abbrev pub StepsAreInstructions : Type 0
StepsAreInstructions = (code : List Instr) (reserve k : ℕ) (body : BodyState) (block : List ℤ) → HasCome reserve (exec code reserve k (record { block = block; body = body })) (steps code k (record { reserve = reserve; is_over = false; body = body }) block)
