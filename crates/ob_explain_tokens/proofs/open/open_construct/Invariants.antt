-- Among the tokens so far none opens a construct that is open at the place, and so many end that begin before them.
use Rattle.ob_explain_tokens.proofs.OpenSteps.{Looked}
use Rattle.ob_explain_tokens.proofs.open.open_construct.Given as goal

abbrev pub invariant-loop-token : goal.invariant-loop-token
invariant-loop-token l = Looked l.closed l.token-index l.tokens
