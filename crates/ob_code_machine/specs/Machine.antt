-- The stack machine: one instruction, and so many of them.
use Rattle.std.specs.Prelude.{ℕ, zero, suc, ◌+◌, ◌-◌, nat_lt, nat_le, ℤ, pos, List, [], ◌∷◌, length, take, slice_get, Option, Some, None, if◌then◌else◌}
use Rattle.std.specs.Ordering.{int_eq}
use Rattle.ob_code_words.specs.declared.instr.Instr.{Instr}
use Rattle.ob_code_words.specs.declared.instr.Instr.TheVariants.{Jump, JumpIfFalse, AndJump, OrJump, Call, Return, Turn}
use Rattle.ob_code_machine.specs.declared.saved.Saved.{Saved}
use Rattle.ob_code_words.specs.Words.{Made, Gives, Traps, Sticks}
use Rattle.ob_code_words.specs.Effect.{popped, effect}

-- what a body holds: the place of its next instruction, the stack from its bottom on, the height at which the running procedure's
-- frame begins, for each procedure that has called another one, the last first, where it goes on, and the turns that are left
pub record BodyState : Type 0 where
  pub pc : ℕ
  pub stack : List ℤ
  pub fp : ℕ
  pub saved : List Saved
  pub turns : ℕ

-- all that instructions work on
pub record Configuration : Type 0 where
  pub block : List ℤ
  pub body : BodyState

-- how far instructions come
pub data Outcome : Type 0 where
  Unfinished : (at : Configuration) → Outcome
  Returned : (block stack : List ℤ) → Outcome
  Trapped : (number : ℕ) → Outcome
  Stuck : Outcome

-- goes on with what was made
abbrev pub made_then : {A : Type 0} → Made A → (A → Outcome) → Outcome
made_then (Gives a) go = go a
made_then (Traps k) go = Trapped k
made_then Sticks go = Stuck

-- the machine at a place, with this stack
abbrev pub goes_to : Configuration → ℕ → List ℤ → Outcome
goes_to c place stack = Unfinished (record c { body = record c.body { pc = place; stack = stack } })

-- pops a word, and goes to the target where it is 0
abbrev pub jump_if_false : ℕ → Configuration → Outcome
jump_if_false target c =
    made_then (popped c.body.stack) (λ x. if int_eq x.0 (pos 0) then goes_to c target x.1 else goes_to c (c.body.pc + 1) x.1)

-- where the word on top decides, goes to the target and keeps it; else pops it
abbrev pub jump_if_decided : ℤ → ℕ → Configuration → Outcome
jump_if_decided decides target c =
    made_then (popped c.body.stack) (λ x. if int_eq x.0 decides then goes_to c target c.body.stack else goes_to c (c.body.pc + 1) x.1)

-- takes one of so many turns; where none is left it is trap 5
abbrev pub taking_turn : (turns : ℕ) → (ℕ → Outcome) → Outcome
taking_turn zero go = Trapped 5
taking_turn (suc left) go = go left

-- the instruction behind, with one turn less
abbrev pub turned : Configuration → Outcome
turned c = taking_turn c.body.turns (λ left. Unfinished (record c { body = record c.body { pc = c.body.pc + 1; turns = left } }))

-- the frame of a procedure begins below the topmost words, its parameters
abbrev pub entering : (entry parameters : ℕ) → Configuration → (left : ℕ) → Outcome
entering entry parameters c left =
    if nat_le parameters (length c.body.stack)
    then Unfinished (record c { body = record { pc = entry; stack = c.body.stack; fp = length c.body.stack - parameters; saved = record { pc = c.body.pc + 1; fp = c.body.fp } ∷ c.body.saved; turns = left } })
    else Stuck

-- the depth is one more than the saved pairs, and 64 at most: that is tested before the turn
abbrev pub called : (entry parameters : ℕ) → Configuration → Outcome
called entry parameters c =
    if nat_le 63 (length c.body.saved) then Trapped 4 else taking_turn c.body.turns (entering entry parameters c)

-- goes on behind the last call; without one the body ends
abbrev pub back_to : List Saved → List ℤ → Configuration → Outcome
back_to [] stack c = Returned c.block stack
back_to (s ∷ saved) stack c = Unfinished (record c { body = record c.body { pc = s.pc; stack = stack; fp = s.fp; saved = saved } })

-- drops the frame
abbrev pub returned : Configuration → Outcome
returned c =
    if nat_lt (length c.body.stack) c.body.fp then Stuck else back_to c.body.saved (take c.body.fp c.body.stack) c

-- the instruction behind, with what this one left of block and stack
abbrev pub goes_on : Configuration → List ℤ × List ℤ → Outcome
goes_on c left = Unfinished (record { block = left.0; body = record c.body { pc = c.body.pc + 1; stack = left.1 } })

-- an instruction without a jump
abbrev pub computed : ℕ → Instr → Configuration → Outcome
computed reserve i c = made_then (effect reserve c.body.fp i c.block c.body.stack) (goes_on c)

-- one instruction, on a stack with so much room
abbrev pub act : ℕ → Instr → Configuration → Outcome
-- JMP: goes on at the target
act reserve (Jump target) c = goes_to c target c.body.stack
-- JF: pops x, and goes on at the target where it is 0
act reserve (JumpIfFalse target) c = jump_if_false target c
-- ANDJ, ORJ: where 0 or 1 is on top, the value is known: it stays, and the other side is passed over
act reserve (AndJump target) c = jump_if_decided (pos 0) target c
act reserve (OrJump target) c = jump_if_decided (pos 1) target c
-- CALL: begins a procedure; trap 4 at depth 64, else trap 5 without a turn
act reserve (Call entry parameters) c = called entry parameters c
-- RET: ends a procedure
act reserve Return c = returned c
-- TURN: takes a turn, or trap 5
act reserve Turn c = turned c
-- the others go on behind them
act reserve i c = computed reserve i c

-- there is no instruction outside the code
abbrev pub act_at : ℕ → Option Instr → Configuration → Outcome
act_at reserve None c = Stuck
act_at reserve (Some i) c = act reserve i c

-- the instruction at the body's place
abbrev pub turn : List Instr → ℕ → Configuration → Outcome
turn code reserve c = act_at reserve (slice_get code c.body.pc) c

-- goes on where it isn't over
abbrev pub carried : Outcome → (Configuration → Outcome) → Outcome
carried (Unfinished c) go = go c
carried (Returned block stack) go = Returned block stack
carried (Trapped k) go = Trapped k
carried Stuck go = Stuck

-- at most so many instructions
abbrev pub exec : List Instr → ℕ → ℕ → Configuration → Outcome
exec code reserve zero c = Unfinished c
exec code reserve (suc k) c = carried (turn code reserve c) (exec code reserve k)
