-- Of the kinds so far those that are expected.
use Rattle.std.proofs.Common.{take}
use Rattle.ob_explain_names.specs.Expected.{Expected}
use Rattle.ob_explain_names.proofs.expected.expected_kinds.Given as goal

abbrev pub invariant-loop-kind : goal.invariant-loop-kind
invariant-loop-kind l = Expected l.text l.at (take l.kind-index l.kind-items) l.expected.items
