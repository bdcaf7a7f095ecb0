-- What is left of the tokens tells the IF.
use Rattle.std.proofs.Common.{◌≡◌, drop, None}
use Rattle.ob_explain_tokens.specs.Open.{else_if}
use Rattle.ob_explain_tokens.proofs.open.else_if.Given as goal

abbrev pub invariant-loop-token : goal.invariant-loop-token
invariant-loop-token l = else_if l.from l.behind (drop l.token-index l.tokens) ≡ else_if l.from None l.tokens
