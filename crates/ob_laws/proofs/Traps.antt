-- The number of the trap in which a body ends.
use Rattle.std.proofs.Common.{◌≡◌, ℕ, zero, suc, ◌<◌, ◌≤◌, ℤ, List}
use Rattle.ob_code_machine.proofs.Sizes.{steps_keep_sizes}
use Rattle.ob_code_machine.specs.Body.{Run, Step, after, step_of, steps}
use Rattle.ob_code_words.specs.declared.instr.Instr.{Instr}
use Rattle.ob_code_machine.specs.declared.turn.BodyTurn.{BodyTurn}
use Rattle.ob_code_machine.specs.declared.turn.BodyTurn.TheVariants as Answer

abbrev IsNumber : ℕ → Type 0
IsNumber k = (0 < k) × (k ≤ 5)

abbrev HasNumber : Step → ℕ → Type 0
HasNumber s k = s.turn ≡ Answer.Trapped k → IsNumber k

-- behind a step the trap is its own, or one of a later step
behind : (t : BodyTurn) (s next : Step) (k : ℕ) → HasNumber s k → HasNumber next k → HasNumber (after t s next) k
behind Answer.On s next k one later h = later h
behind Answer.Returned s next k one later h = one h
behind (Answer.Trapped j) s next k one later h = one h
behind Answer.Stuck s next k one later h = one h

pub trap_number : (code : List Instr) (n : ℕ) (run : Run) (block : List ℤ) (k : ℕ) → HasNumber (steps code n run block) k
trap_number code zero run block k h = absurd (cc)
trap_number code (suc n) run block k h =
    let s = step_of code run block in
    behind s.turn s (steps code n s.run s.block) k ((steps_keep_sizes code run block).traps k) (trap_number code n s.run s.block k) h
