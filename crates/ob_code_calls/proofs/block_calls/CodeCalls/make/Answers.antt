use Rattle.std.proofs.Common.{refl, sym, ap, ◌∙◌}
use Rattle.ob_code_machine.specs.Body.{Run}
use Rattle.wf_table.specs.Meaning.{Turned, body}
use Rattle.ob_code_calls.specs.Calls.{asked, meaning_of, paid}
use Rattle.ob_code_calls.proofs.Ended.{length_is, made_returned, made_trapped, returned_one}
use Rattle.ob_code_calls.proofs.block_calls.CodeCalls.make.Goals as goal

pub run_through-turn-requires-clause-fits : goal.run_through-turn-requires-clause-fits
run_through-turn-requires-clause-fits c = ∣ c.requires.fits ∣₁

pub run_through-turn-requires-clause-block : goal.run_through-turn-requires-clause-block
run_through-turn-requires-clause-block c = length_is c.args.self.now.engine.parts c.args.block.now c.requires.lawful

pub returns-in_default-clause-made : goal.returns-in_default-clause-made
returns-in_default-clause-made c = λ program before compiled encodes.
    let parts = c.args.self.now.engine.parts in
    let call = asked c.args.proc c.args.arguments.now in
    let block = c.args.block.now in
    let b = c.run_through-turn.ensures.body in
    let returned = returned_one parts block c.requires.lawful call c.requires.fits c.run_through-turn.result.0 (sym (ap (λ (t : Turned Run). t.turn) b)) c.in_default.not-Trapped in
    made_returned program parts compiled call c.requires.fits before block encodes (body (meaning_of parts) (paid parts) block call) refl
    (returned ∙ ap (λ (t : Turned Run). t.turn) b) c.run_through-turn.new.room.run (ap (λ (t : Turned Run). t.run) b)
    c.run_through-turn.new.block (ap (λ (t : Turned Run). t.block) b) _ refl

pub returns-in-Trapped-clause-made : goal.returns-in-Trapped-clause-made
returns-in-Trapped-clause-made c = λ program before compiled encodes.
    let parts = c.args.self.now.engine.parts in
    let call = asked c.args.proc c.args.arguments.now in
    let block = c.args.block.now in
    let b = c.run_through-turn.ensures.body in
    made_trapped program parts compiled call c.requires.fits before block encodes (body (meaning_of parts) (paid parts) block call) refl c.in-Trapped.number
    (sym c.in-Trapped.is ∙ ap (λ (t : Turned Run). t.turn) b) block refl

pub returns-in_default-clause-left : goal.returns-in_default-clause-left
returns-in_default-clause-left c = ap (λ (t : Turned Run). t.block) c.run_through-turn.ensures.body

pub returns-in-Trapped-clause-left : goal.returns-in-Trapped-clause-left
returns-in-Trapped-clause-left c = ap (λ (t : Turned Run). t.block) c.run_through-turn.ensures.body
