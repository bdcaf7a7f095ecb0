-- What is left of the tokens says whether one is there, and there are not more open parentheses than tokens so far.
use Rattle.std.proofs.Common.{◌≡◌, ◌≤◌, drop}
use Rattle.ob_explain_parts.proofs.InsideSteps.{truth_from}
use Rattle.ob_explain_parts.proofs.inside.has_truth.Given as goal

abbrev pub invariant-loop-token : goal.invariant-loop-token
invariant-loop-token l =
    record {
      left : truth_from l.parens (drop l.token-index l.inside) ≡ truth_from 0 l.inside;
      few : l.parens ≤ l.token-index;
    }
