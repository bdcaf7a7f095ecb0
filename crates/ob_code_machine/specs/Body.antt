-- The body of one call, from its start to its end, and what each step of it answers.
use Rattle.std.specs.Prelude.{◌≡◌, ℕ, zero, suc, ◌+◌, Bool, true, false, nat_le, ℤ, pos, List, [], ◌∷◌, ◌++◌, length, replicate, Option, Some, None, if◌then◌else◌}
use Rattle.ob_code_machine.specs.declared.argument.Argument.{Argument}
use Rattle.ob_code_machine.specs.declared.argument.Argument.TheVariants.{Value, Var}
use Rattle.ob_code_machine.specs.declared.turn.BodyTurn.{BodyTurn}
use Rattle.ob_code_machine.specs.declared.turn.BodyTurn.TheVariants as Answer
use Rattle.ob_code_words.specs.declared.instr.Instr.{Instr}
use Rattle.ob_code_machine.specs.declared.saved.Saved.{Saved}
use Rattle.ob_code_words.specs.StackWords.{StackWords}
use Rattle.ob_code_machine.specs.Machine.{BodyState, Configuration, Outcome, Unfinished, Returned, Trapped, Stuck, turn}

-- the words that its stack has room for, whether it is over, and what it holds
pub record Run : Type 0 where
  pub reserve : ℕ
  pub is_over : Bool
  pub body : BodyState

-- its parts, each by itself
abbrev pub run_view : (pc fp : ℕ) → StackWords → List Saved → (turns : ℕ) → (is_over : Bool) → Run
run_view pc fp stack saved turns is_over = record {
  reserve = stack.reserve;
  is_over = is_over;
  body = record { pc = pc; stack = stack.words; fp = fp; saved = saved; turns = turns };
}

-- ---- the start

-- how many of the parameters are VAR: so many results the call has
abbrev pub result_count : List Argument → ℕ
result_count [] = 0
result_count (Value w ∷ arguments) = result_count arguments
result_count (Var ∷ arguments) = suc (result_count arguments)

-- the first words of the first frame, behind so many VAR parameters: a value, or the address of the word of its result
abbrev pub handed : (variables before : ℕ) → List Argument → List ℤ
handed variables before [] = []
handed variables before (Value w ∷ arguments) = w ∷ handed variables before arguments
handed variables before (Var ∷ arguments) = pos (variables + before) ∷ handed variables (suc before) arguments

-- a body at the entry of its procedure, with its budget of turns: below the frame lie the words of the results
abbrev pub enter : (entry variables : ℕ) → List Argument → (budget : ℕ) → BodyState
enter entry variables arguments budget = record {
  pc = entry;
  stack = replicate (result_count arguments) (pos 0) ++ handed variables 0 arguments;
  fp = result_count arguments;
  saved = [];
  turns = budget;
}

-- a body that holds nothing
abbrev pub empty : BodyState
empty = record { pc = 0; stack = []; fp = 0; saved = []; turns = 0 }

-- the start of a procedure; where there is no such procedure, or no room for results and arguments, the body is over at once
abbrev pub entered : (reserve variables : ℕ) → Option ℕ → List Argument → (budget : ℕ) → Run
entered reserve variables None arguments budget = record { reserve = reserve; is_over = true; body = empty }
entered reserve variables (Some entry) arguments budget =
    if nat_le (result_count arguments + length arguments) reserve
    then record { reserve = reserve; is_over = false; body = enter entry variables arguments budget }
    else record { reserve = reserve; is_over = true; body = empty }

-- ---- the steps

-- a step's answer, with the run and the block that it leaves
pub record Step : Type 0 where
  pub turn : BodyTurn
  pub run : Run
  pub block : List ℤ

-- what comes of an instruction, as a step: a trap leaves all but that the body is over, and where the machine is stuck nothing changes
abbrev pub shown : Run → List ℤ → Outcome → Step
shown run block (Unfinished c) = record { turn = Answer.On; run = record run { body = c.body }; block = c.block }
shown run block (Returned left stack) =
    record { turn = Answer.Returned; run = record run { is_over = true; body = record run.body { stack = stack } }; block = left }
shown run block (Trapped k) = record { turn = Answer.Trapped k; run = record run { is_over = true }; block = block }
shown run block Stuck = record { turn = Answer.Stuck; run = run; block = block }

-- what the machine works on in a step
abbrev pub at : Run → List ℤ → Configuration
at run block = record { block = block; body = run.body }

-- an instruction that leaves each block as it is: the answer, and the run behind it
abbrev pub ShowsOnAnyBlock : BodyTurn → (old new : Run) → (Configuration → Outcome) → Type 0
ShowsOnAnyBlock turn old new instruction =
    (block : List ℤ) → record { turn = turn; run = new; block = block } ≡ shown old block (instruction (at old block))

-- one step: the instruction at the body's place; a body that is over is stuck
abbrev pub step_of : List Instr → Run → List ℤ → Step
step_of code run block = shown run block (if run.is_over then Stuck else turn code run.reserve (at run block))

-- going on only after On
abbrev pub after : BodyTurn → Step → Step → Step
after Answer.On s next = next
after Answer.Returned s next = s
after (Answer.Trapped k) s next = s
after Answer.Stuck s next = s

-- where a body stands after at most so many steps
abbrev pub steps : List Instr → ℕ → Run → List ℤ → Step
steps code zero run block = record { turn = Answer.On; run = run; block = block }
steps code (suc k) run block =
    let s = step_of code run block in after s.turn s (steps code k s.run s.block)
