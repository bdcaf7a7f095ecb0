-- What is left of the tokens gives the call, and there are not more commas than tokens so far.
use Rattle.std.proofs.Common.{◌≡◌, ◌≤◌, drop, None}
use Rattle.ob_explain_parts.specs.Parameters.{handed_at}
use Rattle.ob_explain_parts.proofs.handed_parameter.handed_at.Given as goal

abbrev pub invariant-loop-token : goal.invariant-loop-token
invariant-loop-token l =
    record {
      left : handed_at l.first l.commas (drop l.token-index l.before) ≡ handed_at None 0 l.before;
      few : l.commas ≤ l.token-index;
    }
