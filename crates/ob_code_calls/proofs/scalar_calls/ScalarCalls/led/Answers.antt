-- The reply is that of the call, and the values behind it are of the state that it leads to.
use Rattle.std.proofs.Common.{◌≡◌, refl, sym, subst, List, map, ◌∙◌, ap}
use Rattle.ob_code_calls.specs.Calls.{asked}
use Rattle.ob_code_calls.specs.Led.{reply_behind}
use Rattle.ob_code_calls.specs.Parts.{parts_in}
use Rattle.ob_code_calls.specs.Scalars.{AreBehind, IsMadeOn, held_of}
use Rattle.ob_code_calls.specs.declared.scalar_calls.Work.{Work}
use Rattle.ob_code_calls.proofs.OnScalars.{behind_is, reply_is, some_at}
use Rattle.std.specs.Prelude.{ℤ, IfSome, option_map}
use Rattle.ob_interface.specs.Call.{Reply}
use Rattle.wf_history.specs.View.{seen_reply}
use Rattle.ob_code_calls.proofs.scalar_calls.ScalarCalls.led.Goals as goal

pub returns-then-not-has_known_reply : goal.returns-then-not-has_known_reply
returns-then-not-has_known_reply c = λ program types compiled are has.
    let parts = parts_in c.args.self.now.calls in
    let before = map held_of c.args.scalars.now in
    let call = asked c.args.request.proc c.args.request.arguments.now in
    let work = c.in-Some.work.value in
    let m = some_at c.in_ok-work.field-0 _ (λ made. IsMadeOn program parts call c.args.scalars.now made.0.value made.1) c.in-Some.is (c.in_ok-work.ensures.made program types compiled are) in
    let reply = reply_is program parts call before m.block work.block.items work.room.run c.in-Some.trap m.through
    ∙ ap (λ (w : Work). reply_behind parts call w.room.run c.in-Some.trap) (sym c.deref.ensures) in
    let known = option_map seen_reply c.args.request.known in
    let t = (c.has_known_reply.ensures c.args.request.arguments.now).1 (subst (λ (r : Reply). IfSome known (λ x. x ≡ r)) reply has) in
    let f = c.if-not-has_known_reply.true in
    absurd (cc)

pub returns-in-Some-after : goal.returns-in-Some-after
returns-in-Some-after c = λ program types compiled are.
    let parts = parts_in c.args.self.now.calls in
    let scalars = c.args.scalars.now in
    let before = map held_of scalars in
    let call = asked c.args.request.proc c.args.request.arguments.now in
    let work = c.in-Some.work.value in
    let m = some_at c.in_ok-work.field-0 _ (λ made. IsMadeOn program parts call scalars made.0.value made.1) c.in-Some.is (c.in_ok-work.ensures.made program types compiled are) in
    let reply = reply_is program parts call before m.block work.block.items work.room.run c.in-Some.trap m.through
    ∙ ap (λ (w : Work). reply_behind parts call w.room.run c.in-Some.trap) (sym c.deref.ensures) in
    let words = c.as_slice.ensures.value ∙ ap (λ (w : Work). w.block.items) c.deref-2.ensures in
    let behind = some_at c.in_ok-after.after c.in-Some-after.after (λ after. AreBehind c.args.variables.now scalars c.as_slice.result.now c.in-Some.trap after.items) c.in-Some-after.is c.in_ok-after.ensures in (
      behind_is program parts c.args.variables.now types are call before scalars c.in-Some-after.after.items m.block work.block.items work.room.run c.in-Some.trap refl m.laid m.through
          (subst (λ (ws : List ℤ). AreBehind c.args.variables.now scalars ws c.in-Some.trap c.in-Some-after.after.items) words behind),
      subst (λ (r : Reply). IfSome (option_map seen_reply c.args.request.known) (λ x. x ≡ r)) (sym reply)
          ((c.has_known_reply.ensures c.args.request.arguments.now).0 c.if-not-has_known_reply.false),
    )
