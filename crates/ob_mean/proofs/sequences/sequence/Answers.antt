use Rattle.std.proofs.Common.{arith, ap, sym, ◌∙◌, ◌<◌, ◌+◌, ◌++◌, map, length, drop}
use Rattle.std.proofs.lemmas.List.{length-map, map-append, get_or-map}
use Rattle.ob_checked.specs.CheckedModule.{program_in}
use Rattle.ob_meaning.specs.ByPositionObject.{effect}
use Rattle.ob_mean.specs.Sequences.{replies_to}
use Rattle.ob_store.specs.View.{state_of}
use Rattle.ob_mean.specs.View.{call_of, reply_of}
use Rattle.ob_mean.proofs.InTurn.{made_next, all_made}
use Rattle.ob_mean.proofs.sequences.sequence.Goals as goal

pub loop-call-preserved : goal.loop-call-preserved
loop-call-preserved c =
    let program = program_in c.args.checked.now in
    let calls = map call_of c.args.calls.now in
    let position = c.loop-call.call-index in
    let call = c.call-item.result in
    let state = state_of c.loop-call.state in
    let next = state_of c.in_ok-next.next in
    let so_far = c.loop-call.replies.items in
    let below : position < length calls = omega (arith, c.loop-call-test.true, length-map c.args.calls.now call_of) in
    ap (λ rs. rs ++ replies_to program c.args.budget next (drop (position + 1) calls)) (ap (map reply_of) c.in_ok-push.ensures.items ∙ map-append reply_of so_far _)
    ∙ made_next program c.args.budget calls _ position (call_of call) state next (map reply_of so_far) (reply_of c.in_ok-next.reply) below
    (ap call_of c.call-item.is ∙ sym (get_or-map call_of c.args.calls.now position call (call_of call) c.loop-call-test.true))
    (ap (λ p. effect p (call_of call) c.args.budget state) (sym c.program.ensures.program) ∙ c.in_ok-next.ensures)
    c.loop-call.invariant

pub returns-clause-replies : goal.returns-clause-replies
returns-clause-replies c =
    let calls = map call_of c.args.calls.now in
    let initial = state_of c.in_ok-state.state in
    record {
      state = initial;
      opens = c.in_ok-state.ensures.state;
      made =
          all_made (program_in c.args.checked.now) c.args.budget calls (replies_to (program_in c.args.checked.now) c.args.budget initial calls)
          c.loop-call.call-index (state_of c.loop-call.state) (map reply_of c.loop-call.replies.items)
          (omega (arith, c.loop-call-test.false, length-map c.args.calls.now call_of)) c.loop-call.invariant;
    }
