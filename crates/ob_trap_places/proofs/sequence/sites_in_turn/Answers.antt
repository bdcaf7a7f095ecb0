use Rattle.std.proofs.Common.{arith, ap, sym, ◌∙◌, ◌<◌, ◌+◌, ◌++◌, map, length, drop, option_map}
use Rattle.std.proofs.lemmas.List.{length-map, map-append, get_or-map}
use Rattle.ob_checked.specs.CheckedModule.{program_in}
use Rattle.ob_mean.specs.View.{call_of}
use Rattle.ob_store.specs.View.{state_of}
use Rattle.ob_trap_places.specs.Reaching.{site_of}
use Rattle.ob_trap_places.specs.Sequence.{sites_from}
use Rattle.ob_trap_places.proofs.Sited.{all_sited, sites_next}
use Rattle.ob_trap_places.proofs.sequence.sites_in_turn.Goals as goal

pub loop-call-preserved : goal.loop-call-preserved
loop-call-preserved c =
    let program = program_in c.args.checked.now in
    let calls = map call_of c.args.calls.now in
    let position = c.loop-call.call-index in
    let call = c.call-item.result in
    let state = state_of c.loop-call.state in
    let next = state_of c.in_ok-next.next in
    let so_far = c.loop-call.sites.items in
    let below : position < length calls = omega (arith, c.loop-call-test.true, length-map c.args.calls.now call_of) in
    ap (λ rs. rs ++ sites_from program c.args.budget next (drop (position + 1) calls)) (ap (map (option_map site_of)) c.in_ok-push.ensures.items ∙ map-append (option_map site_of) so_far _)
    ∙ sites_next program c.args.budget calls _ position (call_of call) state next (map (option_map site_of) so_far) (option_map site_of c.in_ok-next.site) below
    (ap call_of c.call-item.is ∙ sym (get_or-map call_of c.args.calls.now position call (call_of call) c.loop-call-test.true))
    c.in_ok-next.ensures.state c.in_ok-next.ensures.site c.loop-call.invariant

pub returns : goal.returns
returns c =
    let calls = map call_of c.args.calls.now in
    all_sited (program_in c.args.checked.now) c.args.budget calls _
    c.loop-call.call-index (state_of c.loop-call.state) (map (option_map site_of) c.loop-call.sites.items)
    (omega (arith, c.loop-call-test.false, length-map c.args.calls.now call_of)) c.loop-call.invariant
