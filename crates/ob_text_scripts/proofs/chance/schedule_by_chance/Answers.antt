use Rattle.std.proofs.Common.{◌≡◌, ◌+◌, ◌-◌, ◌<◌, ◌≤◌, rules, arith, string_bytes}
use Rattle.ob_text_scripts.proofs.Chosen.{more_steps, no_steps, nobody}
use Rattle.ob_text_scripts.proofs.chance.schedule_by_chance.Goals as goal

pub returns-then-processes-eq0 : goal.returns-then-processes-eq0
returns-then-processes-eq0 c = rw c.new-text.ensures.bytes (nobody c.args.processes c.args.steps c.if-processes-eq0.true)

pub loop-left-init : goal.loop-left-init
loop-left-init c =
    let before : c.args.steps - c.args.steps ≡ 0 = omega arith in
    (omega arith, rw (before, c.new-text.ensures.bytes) (no_steps c.args.processes))

pub loop-left-preserved : goal.loop-left-preserved
loop-left-preserved c =
    let p = c.next_process-process.result in
    let k = c.min-count.result in
    let within : k ≤ c.loop-left.left = search rules in
    let few : k ≤ 40 = search (rules, arith, c.next_burst.ensures.few) in
    let there : c.min-choices.result ≤ c.args.processes = search rules in
    let small : c.min-choices.result ≤ 16 = search rules in
    let below : p < c.min-choices.result = c.next_process-process.ensures in
    let most = c.loop-left.invariant.0 in
    let is : c.args.steps - (c.loop-left.left - k) ≡ (c.args.steps - c.loop-left.left) + k = omega (arith, within, most) in (
      omega (arith, most),
      rw c.in_ok-push_steps.ensures
          (more_steps p k (omega (arith, below, small)) (omega (arith, few)) c.args.processes (c.args.steps - c.loop-left.left) _ (string_bytes c.loop-left.text)
          (omega (arith, below, there)) (omega (arith, few)) is c.loop-left.invariant.1),
    )
