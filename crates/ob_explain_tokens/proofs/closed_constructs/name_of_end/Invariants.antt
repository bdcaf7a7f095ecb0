-- What is left of the tokens gives the name, and there are not more ENDs than tokens so far.
use Rattle.std.proofs.Common.{◌≡◌, ◌≤◌, drop, None}
use Rattle.ob_explain_tokens.specs.ClosedConstructs.{name_of_end}
use Rattle.ob_explain_tokens.proofs.closed_constructs.name_of_end.Given as goal

abbrev pub invariant-loop-token : goal.invariant-loop-token
invariant-loop-token l =
    record {
      left : name_of_end l.closed l.behind (drop l.token-index l.tokens) ≡ name_of_end 0 None l.tokens;
      few : l.closed ≤ l.token-index;
    }
