-- Steps of a body and instructions of the machine.
use Rattle.std.proofs.Common.{ℕ, zero, suc, false, ℤ, List, refl}
use Rattle.ob_code_machine.specs.Machine.{BodyState, Configuration, Outcome, Unfinished, Returned, Trapped, Stuck, turn, carried, exec}
use Rattle.ob_code_machine.specs.Body.{Run, Step, shown, after, steps}
use Rattle.ob_code_machine.specs.Laws.{HasCome, StepsAreInstructions}

-- a body that goes on
abbrev going : ℕ → BodyState → Run
going reserve body = record { reserve = reserve; is_over = false; body = body }

-- one instruction, and what is carried on from it
one_on : (reserve : ℕ) (body : BodyState) (block : List ℤ) (o : Outcome) (go : Configuration → Outcome) (next : Run → List ℤ → Step) → ((c : Configuration) → HasCome reserve (go c) (next (going reserve c.body) c.block)) → HasCome reserve (carried o go) (after (shown (going reserve body) block o).turn (shown (going reserve body) block o) (next (shown (going reserve body) block o).run (shown (going reserve body) block o).block))
one_on reserve body block (Unfinished c) go next h = h c
one_on reserve body block (Returned b s) go next h = (refl, refl, refl)
one_on reserve body block (Trapped k) go next h = refl
one_on reserve body block Stuck go next h = refl

pub steps_stand : StepsAreInstructions
steps_stand code reserve zero body block = refl
steps_stand code reserve (suc k) body block =
    one_on reserve body block (turn code reserve (record { block = block; body = body })) (exec code reserve k) (steps code k) (λ c. steps_stand code reserve k c.body c.block)
