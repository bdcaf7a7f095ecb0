-- Steps of the engine are steps of a body.
use Rattle.std.proofs.Common.{◌≡◌, ◌≢◌, ℕ, zero, suc, ◌<◌, ◌≤◌, true, ℤ, List, length, refl, ap}
use Rattle.std.specs.Prelude.{slice_get}
use Rattle.ob_code_words.specs.declared.instr.Instr.{Instr}
use Rattle.ob_code_machine.specs.declared.turn.BodyTurn.{BodyTurn}
use Rattle.ob_code_machine.specs.declared.turn.BodyTurn.TheVariants as Answer
use Rattle.ob_code_machine.specs.Body.{Run, Step, step_of, after, steps as body_steps}
use Rattle.ob_code_machine.proofs.Sizes.{steps_keep_sizes}
use Rattle.wf_table.specs.declared.engine_turn.EngineTurn.TheVariants as Turn
use Rattle.wf_table.specs.Meaning.{Turned, after_turn, is_over, steps}
use Rattle.wf_table.specs.Law.{TouchesOneWord}
use Rattle.ob_code_correct.specs.CodeMeaning.{EngineParts, turn_of, turned, code_meaning}
use Rattle.ob_code_correct.proofs.OneWord.{place_in, step_follows}

after_same : (t : BodyTurn) (s next : Step) (other : Turned Run) → other ≡ turned next → after_turn (turn_of t) (turned s) other ≡ turned (after t s next)
after_same Answer.On s next other h = h
after_same Answer.Returned s next other h = refl
after_same (Answer.Trapped k) s next other h = refl
after_same Answer.Stuck s next other h = refl

pub steps_same : (parts : EngineParts) (k : ℕ) (run : Run) (block : List ℤ) → steps (code_meaning parts) k run block ≡ turned (body_steps parts.code.instructions k run block)
steps_same parts zero run block = refl
steps_same parts (suc k) run block =
    let s = step_of parts.code.instructions run block in
    after_same s.turn s (body_steps parts.code.instructions k s.run s.block) (steps (code_meaning parts) k s.run s.block) (steps_same parts k s.run s.block)

-- which step has which turn
pub was_stuck : (t : BodyTurn) → turn_of t ≡ Turn.Stuck → t ≡ Answer.Stuck
was_stuck Answer.On h = absurd (cc)
was_stuck Answer.Returned h = absurd (cc)
was_stuck (Answer.Trapped k) h = absurd (cc)
was_stuck Answer.Stuck h = refl

pub was_trapped : (t : BodyTurn) (k : ℕ) → turn_of t ≡ Turn.Trapped k → t ≡ Answer.Trapped k
was_trapped Answer.On k h = absurd (cc)
was_trapped Answer.Returned k h = absurd (cc)
was_trapped (Answer.Trapped j) k h = let same : j ≡ k = cc in ap Answer.Trapped same
was_trapped Answer.Stuck k h = absurd (cc)

pub was_returned : (t : BodyTurn) → turn_of t ≡ Turn.Returned → t ≡ Answer.Returned
was_returned Answer.On h = absurd (cc)
was_returned Answer.Returned h = refl
was_returned (Answer.Trapped k) h = absurd (cc)
was_returned Answer.Stuck h = absurd (cc)

-- a trap is one of a step
after_trap : (t : BodyTurn) (s next : Step) (k : ℕ) → s.turn ≡ t → ((j : ℕ) → s.turn ≡ Answer.Trapped j → (0 < j) × (j ≤ 5)) → (next.turn ≡ Answer.Trapped k → (0 < k) × (k ≤ 5)) → (after t s next).turn ≡ Answer.Trapped k → (0 < k) × (k ≤ 5)
after_trap Answer.On s next k e one more h = more h
after_trap Answer.Returned s next k e one more h = one k h
after_trap (Answer.Trapped j) s next k e one more h = one k h
after_trap Answer.Stuck s next k e one more h = one k h

pub trap_small : (code : List Instr) (n : ℕ) (run : Run) (block : List ℤ) (k : ℕ) → (body_steps code n run block).turn ≡ Answer.Trapped k → (0 < k) × (k ≤ 5)
trap_small code zero run block k h = absurd (cc)
trap_small code (suc n) run block k h =
    let s = step_of code run block in
    after_trap s.turn s (body_steps code n s.run s.block) k refl (steps_keep_sizes code run block).traps (trap_small code n s.run s.block k) h

-- what goes on is not over, and what does not is
pub was_on : (t : BodyTurn) → is_over (turn_of t) ≡ true → t ≢ Answer.On
was_on Answer.On over on = absurd (cc)
was_on Answer.Returned over on = absurd (cc)
was_on (Answer.Trapped k) over on = absurd (cc)
was_on Answer.Stuck over on = absurd (cc)

pub over_is : (t : BodyTurn) → t ≢ Answer.On → is_over (turn_of t) ≡ true
over_is Answer.On off = absurd (off refl)
over_is Answer.Returned off = refl
over_is (Answer.Trapped k) off = refl
over_is Answer.Stuck off = refl

-- a step touches one word of the block
pub code_touches : (parts : EngineParts) (run : Run) (block : List ℤ) → TouchesOneWord (code_meaning parts) run block
code_touches parts run block = record {
  place = place_in (length block) (slice_get parts.code.instructions run.body.pc) run.body.stack;
  same = λ other long is. ap turned (step_follows block other long parts.code.instructions run is);
}
