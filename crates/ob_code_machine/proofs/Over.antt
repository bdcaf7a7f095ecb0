-- What is over, and what is stuck.
use Rattle.std.proofs.Common.{◌≡◌, ℕ, zero, suc, true, ℤ, List, refl, arith}
use Rattle.ob_code_words.specs.declared.instr.Instr.{Instr}
use Rattle.ob_code_machine.specs.declared.turn.BodyTurn.TheVariants as Answer
use Rattle.ob_code_machine.specs.Machine.{Configuration, Outcome, Unfinished, Returned, Trapped, Stuck, turn, carried, exec}
use Rattle.ob_code_machine.specs.Body.{Run, shown, at, step_of}
use Rattle.ob_code_machine.specs.Laws.{IsOver, StaysOver, StuckChangesNothing, TrapEndsBody, ReturnEndsBody}
use Rattle.std.specs.Prelude.{if◌then◌else◌}

-- carried on from an outcome
carried_over : (o : Outcome) (f g : Configuration → Outcome) → ((c : Configuration) → IsOver (f c) → g c ≡ f c) → IsOver (carried o f) → carried o g ≡ carried o f
carried_over (Unfinished c) f g h over = h c over
carried_over (Returned block stack) f g h over = refl
carried_over (Trapped k) f g h over = refl
carried_over Stuck f g h over = refl

pub over_stays : StaysOver
over_stays code reserve zero n c over le = absurd over
over_stays code reserve (suc m) zero c over le = absurd (omega arith)
over_stays code reserve (suc m) (suc n) c over le =
    carried_over (turn code reserve c) (exec code reserve m) (exec code reserve n) (λ c' o. over_stays code reserve m n c' o (omega arith)) over

-- the same of what is shown of an outcome
stuck_shown : (run : Run) (block : List ℤ) (o : Outcome) → (shown run block o).turn ≡ Answer.Stuck → ((shown run block o).run ≡ run) × ((shown run block o).block ≡ block)
stuck_shown run block (Unfinished c) h = cc
stuck_shown run block (Returned b s) h = cc
stuck_shown run block (Trapped k) h = cc
stuck_shown run block Stuck h = (refl, refl)

trap_shown : (run : Run) (block : List ℤ) (o : Outcome) (k : ℕ) → (shown run block o).turn ≡ Answer.Trapped k → ((shown run block o).run ≡ record run { is_over = true }) × ((shown run block o).block ≡ block)
trap_shown run block (Unfinished c) k h = cc
trap_shown run block (Returned b s) k h = cc
trap_shown run block (Trapped j) k h = (refl, refl)
trap_shown run block Stuck k h = cc

return_shown : (run : Run) (block : List ℤ) (o : Outcome) → (shown run block o).turn ≡ Answer.Returned → (shown run block o).run.is_over ≡ true
return_shown run block (Unfinished c) h = cc
return_shown run block (Returned b s) h = refl
return_shown run block (Trapped j) h = cc
return_shown run block Stuck h = cc

pub stuck_step : StuckChangesNothing
stuck_step code run block h = stuck_shown run block (if run.is_over then Stuck else turn code run.reserve (at run block)) h

pub trap_step : TrapEndsBody
trap_step code run block k h = trap_shown run block (if run.is_over then Stuck else turn code run.reserve (at run block)) k h

-- a body that is over is stuck
over_is_stuck : (code : List Instr) (run : Run) (block : List ℤ) → run.is_over ≡ true → (step_of code run block).turn ≡ Answer.Stuck
over_is_stuck code run block h = rw h refl

pub return_step : ReturnEndsBody
return_step code run block h =
    over_is_stuck code (step_of code run block).run (step_of code run block).block (return_shown run block (if run.is_over then Stuck else turn code run.reserve (at run block)) h)
