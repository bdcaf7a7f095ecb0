use Rattle.std.proofs.Common.{◌≡◌, ◌∙◌, ◌<◌, ap, arith, get_or, length, map, subst, sym}
use Rattle.std.proofs.Math.ListN.{get_or-map}
use Rattle.std.proofs.lemmas.List.{length-map}
use Rattle.std.proofs.lemmas.List.Elements.{All-get_or}
use Rattle.ob_code_correct.specs.Compiled.{IsFitting}
use Rattle.ob_code_calls.specs.Parts.{parts_in}
use Rattle.ob_code_calls.proofs.Again.{left_last, left_next}
use Rattle.ob_code_calls.proofs.noted_calls.made_again.Goals as goal
use Rattle.ob_interface.specs.Call.{ObjectCall}
use Rattle.ob_interface.specs.View.{call_of}

pub call_again-requires-clause-fits : goal.call_again-requires-clause-fits
call_again-requires-clause-fits c =
    let parts = parts_in c.args.calls.now in
    let calls = map call_of c.args.since.now in
    let n = c.loop-call.call-index in
    let call = call_of c.call-item.result in
    let below : n < length calls = rw length-map c.loop-call-test.true in
    let here : call ≡ get_or calls n call = ap call_of c.call-item.is ∙ sym (get_or-map call_of c.args.since.now n c.call-item.result) in
    subst (λ (x : ObjectCall). ∥ IsFitting parts.exports x ∥₁) (sym here) (All-get_or (λ (x : ObjectCall). ∥ IsFitting parts.exports x ∥₁) calls n call below c.requires.fit)

pub loop-call-preserved : goal.loop-call-preserved
loop-call-preserved c =
    let parts = parts_in c.args.calls.now in
    let calls = map call_of c.args.since.now in
    let n = c.loop-call.call-index in
    let call = call_of c.call-item.result in
    let below : n < length calls = rw length-map c.loop-call-test.true in
    let here : call ≡ get_or calls n call = ap call_of c.call-item.is ∙ sym (get_or-map call_of c.args.since.now n c.call-item.result) in
    record {
      room = c.call_again.ensures.room;
      left = left_next parts c.loop-call.block c.call_again.new.block _ calls n call below here c.call_again.ensures.left c.loop-call.invariant.left;
    }

pub returns-clause-again : goal.returns-clause-again
returns-clause-again c =
    let all = length-map c.args.since.now call_of in
    left_last (parts_in c.args.calls.now) c.loop-call.block _ (map call_of c.args.since.now) c.loop-call.call-index (omega (arith, all)) c.loop-call.invariant.left
