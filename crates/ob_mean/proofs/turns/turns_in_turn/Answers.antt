use Rattle.std.proofs.Common.{◌≡◌, ℕ, ◌<◌, ◌≤◌, ◌+◌, ◌++◌, [], ◌∷◌, arith, ap, sym, subst, ◌∙◌, map, length, drop}
use Rattle.std.proofs.lemmas.List.{length-map, get_or-map}
use Rattle.ob_checked.specs.CheckedModule.{program_in}
use Rattle.ob_mean.specs.Sequences.{replies_to}
use Rattle.ob_mean.specs.View.{call_of, reply_of}
use Rattle.ob_meaning.specs.ByPositionObject.{effect}
use Rattle.ob_store.specs.View.{state_of}
use Rattle.ob_mean.specs.Turns.{IsLeastBudget, all_turns_at, is_out_of_turns}
use Rattle.ob_mean.proofs.Least.{least_is, needed_last, needed_next, raised, raised_more, raised_none, taken_next}
use Rattle.ob_mean.proofs.turns.turns_in_turn.Goals.{then-not-is_out_of_turns, else-not-is_out_of_turns}
use Rattle.ob_mean.proofs.turns.turns_in_turn.Goals as goal

pub loop-call-preserved : goal.loop-call-preserved
loop-call-preserved c =
    let program = program_in c.args.checked.now in
    let budget = c.args.budget in
    let calls = map call_of c.args.calls.now in
    let position = c.loop-call.call-index in
    let call = c.call-item.result in
    let state = state_of c.loop-call.state in
    let next = state_of c.in_ok-next.next in
    let reply = reply_of c.in_ok-next.reply in
    let so_far = c.loop-call.taken.items in
    let below : position < length calls = omega (arith, c.loop-call-test.true, length-map c.args.calls.now call_of) in
    let here = ap call_of c.call-item.is ∙ sym (get_or-map call_of c.args.calls.now position call (call_of call) c.loop-call-test.true) in
    let gives = ap (λ p. effect p (call_of call) budget state) (sym c.program.ensures.program) ∙ c.in_ok-next.ensures in
    let least : c.if-not-is_out_of_turns.least ≡ raised program budget (call_of call) state (is_out_of_turns reply) c.loop-call.least =
    elim c.if-not-is_out_of_turns.branch [
      | then-not-is_out_of_turns w ↦
          raised_more program budget (call_of call) state (is_out_of_turns reply) c.loop-call.least c.in_ok-turns.turns c.if-not-is_out_of_turns.least
          (rw c.is_out_of_turns.ensures at w.if-not-is_out_of_turns.true) c.in_ok-turns.ensures (w.least-is ∙ w.max-least.ensures)
      | else-not-is_out_of_turns w ↦
          raised_none program budget (call_of call) state (is_out_of_turns reply) c.loop-call.least c.if-not-is_out_of_turns.least
          (rw c.is_out_of_turns.ensures at w.if-not-is_out_of_turns.false) w.least-is
    ] in
    record {
      taken =
          ap (λ ts. ts ++ all_turns_at program budget next (drop (position + 1) calls)) (c.in_ok-push.ensures.items ∙ ap (λ t. so_far ++ t ∷ []) c.in_ok-turns.ensures)
          ∙ taken_next program budget calls position (call_of call) state next reply so_far _ below here gives c.loop-call.invariant.taken;
      least =
          rw least (needed_next program budget calls position (call_of call) state next reply c.loop-call.least _ below here gives c.loop-call.invariant.least);
    }

pub returns-clause-least : goal.returns-clause-least
returns-clause-least c =
    let program = program_in c.args.checked.now in
    let calls = map call_of c.args.calls.now in
    let initial = state_of c.args.begun in
    let past : length calls ≤ c.loop-call.call-index = omega (arith, c.loop-call-test.false, length-map c.args.calls.now call_of) in
    subst (λ (k : ℕ). IsLeastBudget (λ b. replies_to program b initial calls) c.args.budget k)
    (sym (needed_last program c.args.budget calls c.loop-call.call-index (state_of c.loop-call.state) c.loop-call.least _ past c.loop-call.invariant.least))
    (least_is program c.args.budget initial calls)
