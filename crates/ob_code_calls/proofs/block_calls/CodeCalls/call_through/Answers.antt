use Rattle.std.proofs.Common.{sym, ap, subst, ◌∙◌, List}
use Rattle.ob_interface.specs.Call.{ObjectCall, Trapped}
use Rattle.ob_interface.specs.View.{reply_of}
use Rattle.ob_interface.specs.declared.scalar.Scalar.{Scalar}
use Rattle.ob_code_calls.specs.Calls.{IsMade, asked, block_behind, left_by}
use Rattle.ob_code_calls.proofs.OnScalars.{through_returned, through_trapped}
use Rattle.ob_code_calls.proofs.block_calls.CodeCalls.call_through.Goals as goal
use Rattle.ob_code_correct.specs.Compiled.{IsFitting}

pub make-trap-requires-clause-fits : goal.make-trap-requires-clause-fits
make-trap-requires-clause-fits c =
    subst (λ (xs : List Scalar). IsFitting c.args.self.now.engine.parts.exports (asked c.args.call.now.proc xs)) (sym c.as_slice.ensures) c.requires.fits

pub returns-in-Some-clause-made : goal.returns-in-Some-clause-made
returns-in-Some-clause-made c = λ program before compiled encodes.
    let parts = c.args.self.now.engine.parts in
    let call = asked c.args.call.now.proc c.as_slice.result.now in
    let block = c.args.block.now in
    let number = c.in-Some.number in
    subst (λ (x : ObjectCall). IsMade program parts.budget x before block (Trapped number)) (ap (asked c.args.call.now.proc) c.as_slice.ensures)
    (through_trapped program parts call before block c.make-trap.new.block c.make-trap.new.room.run _ number c.in-Some.is (c.make-trap.ensures.made program before compiled encodes))

pub returns-in-None-clause-made : goal.returns-in-None-clause-made
returns-in-None-clause-made c = λ program before compiled encodes.
    let parts = c.args.self.now.engine.parts in
    let call = asked c.args.call.now.proc c.as_slice.result.now in
    let block = c.args.block.now in
    let left = c.make-trap.new.block in
    let reply = reply_of c.reply.result in
    subst (λ (x : ObjectCall). IsMade program parts.budget x before (block_behind reply block left) reply) (ap (asked c.args.call.now.proc) c.as_slice.ensures)
    (through_returned program parts call before block left c.make-trap.new.room.run _ c.in-None.is (c.make-trap.ensures.made program before compiled encodes) reply
    (c.reply.ensures.reply c.as_slice.result.now))

pub returns-in-Some-clause-left : goal.returns-in-Some-clause-left
returns-in-Some-clause-left c =
    c.make-trap.ensures.left ∙ ap (λ (xs : List Scalar). left_by c.args.self.now.engine.parts c.args.block.now (asked c.args.call.now.proc xs)) c.as_slice.ensures

pub returns-in-None-clause-left : goal.returns-in-None-clause-left
returns-in-None-clause-left c =
    c.make-trap.ensures.left ∙ ap (λ (xs : List Scalar). left_by c.args.self.now.engine.parts c.args.block.now (asked c.args.call.now.proc xs)) c.as_slice.ensures
