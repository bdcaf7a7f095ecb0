-- What is read from the block is the state that the call leads to.
use Rattle.std.proofs.Common.{◌∙◌, ap, sym, subst, List, map}
use Rattle.std.specs.Prelude.{ℤ}
use Rattle.ob_code_calls.specs.Calls.{IsMade, asked, meaning_of}
use Rattle.ob_code_calls.specs.Parts.{parts_in}
use Rattle.ob_code_calls.specs.Scalars.{IsMadeOf, IsMadeOn, held_of}
use Rattle.ob_code_calls.specs.declared.scalar_calls.Work.{Work}
use Rattle.wf_table.specs.Meaning.{kept}
use Rattle.ob_code_calls.proofs.OnScalars.{made_of, same_of, some_at, through_left, through_trapped}
use Rattle.ob_interface.specs.Call.{Trapped}
use Rattle.ob_interface.specs.View.{reply_of}
use Rattle.ob_interface.specs.declared.scalar.Scalar.{Scalar}
use Rattle.ob_code_calls.proofs.scalar_calls.ScalarCalls.called.Goals as goal

pub returns-in-Some-trap : goal.returns-in-Some-trap
returns-in-Some-trap c = λ program types compiled are.
    let parts = parts_in c.args.self.now.calls in
    let scalars = c.args.scalars.now in
    let before = map held_of scalars in
    let call = asked c.args.proc c.args.arguments.now in
    let work = c.in-Some.work.value in
    let number = c.in-Some-trap.number in
    let m = some_at c.in_ok-work.field-0 _ (λ made. IsMadeOn program parts call scalars made.0.value made.1) c.in-Some.is (c.in_ok-work.ensures.made program types compiled are) in
    let trapped = through_trapped program parts call before m.block work.block.items work.room.run c.in-Some.trap number c.in-Some-trap.is m.through in
    subst (λ (ss : List Scalar). IsMadeOf program parts call scalars ss (Trapped number)) (sym c.in_ok-same.ensures.ok)
    (made_of program parts c.args.variables.now types are call before m.block before (Trapped number) trapped (same_of program parts c.args.variables.now types are call before m.block m.laid))

pub returns : goal.returns
returns c = λ program types compiled are.
    let parts = parts_in c.args.self.now.calls in
    let scalars = c.args.scalars.now in
    let before = map held_of scalars in
    let call = asked c.args.proc c.args.arguments.now in
    let work = c.in-Some.work.value in
    let reply = reply_of c.reply-reply.result in
    let m = some_at c.in_ok-work.field-0 _ (λ made. IsMadeOn program parts call scalars made.0.value made.1) c.in-Some.is (c.in_ok-work.ensures.made program types compiled are) in
    let replied = c.reply-reply.ensures.reply c.args.arguments.now ∙ ap (λ (w : Work). (meaning_of parts).reply call (kept (meaning_of parts) w.room.run)) c.deref_mut.ensures.value in
    let left = through_left program parts call before m.block work.block.items work.room.run c.in-Some.trap c.in_default-trap.is m.through reply replied in
    let words = c.as_slice.ensures.value ∙ ap (λ (w : Work). w.block.items) c.deref.ensures in
    let read = some_at _ c.in-Some-2.after _ c.in-Some-2.is (c.in_ok-after.ensures types) in
    made_of program parts c.args.variables.now types are call before c.as_slice.result.now (map held_of c.in-Some-2.after.items) reply
    (subst (λ (b : List ℤ). IsMade program parts.budget call before b reply) (sym words) left) read
