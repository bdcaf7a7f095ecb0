use Rattle.std.proofs.Common.{ap, arith, length}
use Rattle.wf_records.specs.CallsKept.{KeptCalls}
use Rattle.wf_records.proofs.CallsKept.{length-calls_from}
use Rattle.wf_records.proofs.submitted_calls.CallList.len.Goals as goal

pub returns : goal.returns
returns c = omega (arith, c.len.ensures, length-calls_from 0 c.self.inside.heads.items c.self.inside.arguments.items, ap (λ (k : KeptCalls). length k.calls) c.self.view_is)
