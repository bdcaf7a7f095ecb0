-- Steps of a body, as the engine's.
use Rattle.std.proofs.Common.{◌≡◌, ℕ, zero, suc, ℤ, List, refl, ap, ◌∙◌}
use Rattle.ob_code_machine.specs.Body as Body
use Rattle.ob_code_machine.specs.Body.{Run, Step}
use Rattle.ob_code_machine.specs.declared.turn.BodyTurn.{BodyTurn}
use Rattle.ob_code_machine.specs.declared.turn.BodyTurn.TheVariants as Answer
use Rattle.ob_code_machine.proofs.Sizes.{steps_keep_sizes}
use Rattle.ob_code_correct.specs.CodeMeaning.{EngineParts, code_meaning, turn_of, turned}
use Rattle.wf_table.specs.declared.engine_turn.EngineTurn.{EngineTurn}
use Rattle.wf_table.specs.declared.engine_turn.EngineTurn.TheVariants as Turn
use Rattle.wf_table.specs.Meaning.{Turned, after_turn, steps}

turned_after : (t : BodyTurn) (s next : Step) → after_turn (turn_of t) (turned s) (turned next) ≡ turned (Body.after t s next)
turned_after Answer.On s next = refl
turned_after Answer.Returned s next = refl
turned_after (Answer.Trapped k) s next = refl
turned_after Answer.Stuck s next = refl

pub steps_turned : (parts : EngineParts) (k : ℕ) (run : Run) (block : List ℤ) → steps (code_meaning parts) k run block ≡ turned (Body.steps parts.code.instructions k run block)
steps_turned parts zero run block = refl
steps_turned parts (suc k) run block =
    let s = Body.step_of parts.code.instructions run block in
    ap (after_turn (turn_of s.turn) (turned s)) (steps_turned parts k s.run s.block)
    ∙ turned_after s.turn s (Body.steps parts.code.instructions k s.run s.block)

-- the stack has as much room as before
kept_after : (t : EngineTurn) (s next : Turned Run) (reserve : ℕ) → s.run.reserve ≡ reserve → next.run.reserve ≡ reserve → (after_turn t s next).run.reserve ≡ reserve
kept_after Turn.On s next reserve here there = there
kept_after Turn.Returned s next reserve here there = here
kept_after (Turn.Trapped k) s next reserve here there = here
kept_after Turn.Stuck s next reserve here there = here

pub reserve_kept : (parts : EngineParts) (k : ℕ) (run : Run) (block : List ℤ) → (steps (code_meaning parts) k run block).run.reserve ≡ run.reserve
reserve_kept parts zero run block = refl
reserve_kept parts (suc k) run block =
    let s = (code_meaning parts).step run block in
    let kept = (steps_keep_sizes parts.code.instructions run block).reserve in
    kept_after s.turn s (steps (code_meaning parts) k s.run s.block) run.reserve kept (reserve_kept parts k s.run s.block ∙ kept)
