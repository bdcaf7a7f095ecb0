-- What is left of the tokens gives the operand, and there are not more open brackets than tokens so far.
use Rattle.std.proofs.Common.{◌≡◌, ◌≤◌, None, drop}
use Rattle.ob_explain_parts.specs.Parts.{operand_start}
use Rattle.ob_explain_parts.proofs.variable_parts.operand_start.Given as goal

abbrev pub invariant-loop-token : goal.invariant-loop-token
invariant-loop-token l =
    record {
      left : operand_start l.brackets l.name (drop l.token-index l.before) ≡ operand_start 0 None l.before;
      few : l.brackets ≤ l.token-index;
    }
