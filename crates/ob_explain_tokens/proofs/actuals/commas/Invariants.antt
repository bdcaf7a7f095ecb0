-- The commas so far, and those that are left.
use Rattle.std.proofs.Common.{◌≡◌, ◌+◌, ◌≤◌, drop}
use Rattle.ob_explain_tokens.specs.Actuals.{commas}
use Rattle.ob_explain_tokens.proofs.actuals.commas.Given as goal

abbrev pub invariant-loop-token : goal.invariant-loop-token
invariant-loop-token l =
    record {
      all : l.count + commas (drop l.token-index l.tokens) ≡ commas l.tokens;
      few : l.count ≤ l.token-index;
    }
