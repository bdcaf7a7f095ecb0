use Rattle.std.proofs.Common.{◌≡◌, ◌<◌, arith, subst}
use Rattle.ob_text_values_reading.proofs.Ids.{one_id}
use Rattle.wf_history.specs.declared.event.CallId.{CallId}
use Rattle.ob_explained_lines.proofs.call_place.call_within.Goals as goal

pub returns-else-id-processes : goal.returns-else-id-processes
returns-else-id-processes c = λ other within.
    let same : other ≡ c.in_ok-id.id = one_id within.names c.in_ok-id.ensures in
    omega (arith, subst (λ (i : CallId). i.process < c.args.processes) same within.below, c.if-id-processes.false)
