-- Instructions that are made as one move.
use Rattle.std.specs.Prelude.{◌≡◌, ◌+◌, ◌-◌, ◌<◌, ◌≤◌, Bool, ℕ, ℤ, pos, List, [], ◌∷◌, ◌++◌, length, take, MatchBool, Some, slice_get, slice_index_or}
use Rattle.ob_code_words.specs.declared.instr.Instr.{Instr}
use Rattle.ob_code_machine.specs.declared.turn.BodyTurn.{BodyTurn}
use Rattle.ob_code_machine.specs.declared.turn.BodyTurn.TheVariants as Answer
use Rattle.ob_code_words.specs.Words.{Gives, ◌>>=◌, made_of_two}
use Rattle.ob_code_words.specs.Effect.{of_two, put_at}
use Rattle.ob_code_words.specs.StackWords.{two_on_top}
use Rattle.ob_code_machine.specs.Machine.{Configuration, Unfinished, act, carried, computed, goes_on, made_then}
use Rattle.ob_code_machine.specs.Body.{Run, at, steps}

-- an instruction without a jump
abbrev pub IsComputed : Instr → Type 0
IsComputed i = (reserve : ℕ) (c : Configuration) → act reserve i c ≡ computed reserve i c

-- an instruction that makes a word of two
abbrev pub IsOperator : Instr → Type 0
IsOperator i = (reserve : ℕ) (c : Configuration) → act reserve i c ≡ made_then (of_two (made_of_two i) c.body.stack >>= (λ after. Gives (c.block, after))) (goes_on c)

-- the instruction behind makes this word of the one on top and the value
pub record IsMadeWith (code : List Instr) (run : Run) (value word : ℤ) : Type 0 where
  pub second : Instr
  pub there : slice_get code (run.body.pc + 1) ≡ Some second
  pub room : length run.body.stack < run.reserve
  pub under : ℤ
  pub top : Some under ≡ slice_get run.body.stack (length run.body.stack - 1)
  pub made : Gives word ≡ made_of_two second under value

-- a word is put at the address that stands at this height, and nothing is left from there on; the body goes on so many instructions behind
pub record Puts (height behind : ℕ) (word : ℤ) (old : Run) (block : List ℤ) (new : Run) (block' : List ℤ) : Type 0 where
  pub within : height < length old.body.stack
  pub put : put_at block (take height old.body.stack) (slice_index_or old.body.stack height (pos 0)) word ≡ Gives (block', new.body.stack)
  pub body : new ≡ record old { body = record old.body { pc = old.body.pc + behind; stack = new.body.stack } }

-- where it is said, that is done; else body and block are as they were
abbrev pub PutsIf : Bool → (height behind : ℕ) → (word : ℤ) → (old : Run) → (block : List ℤ) → (new : Run) → (block' : List ℤ) → Type 0
PutsIf r height behind word old block new block' = MatchBool r (Puts height behind word old block new block') ((new ≡ old) × (block' ≡ block))

-- an operator makes a word of the two on top, and it is put at the address below them
pub record Assigns (operator : Instr) (old : Run) (block : List ℤ) (new : Run) (block' : List ℤ) : Type 0 where
  pub left : ℤ
  pub right : ℤ
  pub word : ℤ
  pub on_top : Some (left, right) ≡ two_on_top old.body.stack
  pub made : Gives word ≡ made_of_two operator left right
  pub puts : Puts (length old.body.stack - 3) 2 word old block new block'
  pub high : 3 ≤ length old.body.stack

-- the body behind two instructions, with this stack
abbrev pub behind_both : Run → List ℤ → Run
behind_both run stack = record run { body = record run.body { pc = run.body.pc + 2; stack = stack } }

-- so many steps lead from the one body and block to the other, and the body goes on
abbrev pub Goes : List Instr → ℕ → (old : Run) → (block : List ℤ) → (new : Run) → (block' : List ℤ) → Type 0
Goes code k old block new block' = steps code k old block ≡ record { turn = Answer.On; run = new; block = block' }

-- one step, or some that are one move; one behind which the body doesn't go on comes alone
pub record IsLeap (code : List Instr) (turn : BodyTurn) (taken : ℕ) (old : Run) (block : List ℤ) (new : Run) (block' : List ℤ) : Type 0 where
  pub some : 0 < taken
  pub few : taken ≤ 3
  pub alone : (turn ≡ Answer.On → ⊥) → taken ≡ 1
  pub steps : record { turn = turn; run = new; block = block' } ≡ steps code taken old block

-- two steps lead from the one body to the other, and leave the block as it is
abbrev pub AreMade : List Instr → (old new : Run) → (block : List ℤ) → Type 0
AreMade code old new block = Goes code 2 old block new block

-- so do these two instructions, one behind the other
abbrev pub Lead : (first second : Instr) → (old new : Run) → (block : List ℤ) → Type 0
Lead first second old new block =
    (carried (act old.reserve first (at old block)) (act old.reserve second) ≡ Unfinished (at new block)) × (new ≡ record old { body = new.body })

-- where it is said, both are made; else the body is as it was
abbrev pub MakesBoth : Bool → (first second : Instr) → (old new : Run) → (block : List ℤ) → Type 0
MakesBoth r first second old new block = MatchBool r (Lead first second old new block) (new ≡ old)

-- the same on each block
abbrev pub MakesBothOnAnyBlock : Bool → (first second : Instr) → (old new : Run) → Type 0
MakesBothOnAnyBlock r first second old new = (block : List ℤ) → MakesBoth r first second old new block

-- where there is room, the word is on top behind both; else the body is as it was
abbrev pub Brings : Bool → ℤ → (old new : Run) → Type 0
Brings r word old new = MatchBool r ((length old.body.stack < old.reserve) × (new ≡ behind_both old (old.body.stack ++ word ∷ []))) (new ≡ old)
