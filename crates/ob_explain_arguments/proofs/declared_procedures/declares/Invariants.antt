-- What is left of the tokens tells it.
use Rattle.std.proofs.Common.{◌≡◌, drop, false}
use Rattle.ob_explain_arguments.specs.DeclaredNames.{declares}
use Rattle.ob_explain_arguments.proofs.declared_procedures.declares.Given as goal

abbrev pub invariant-loop-token : goal.invariant-loop-token
invariant-loop-token l = declares l.text l.name l.behind (drop l.token-index l.tokens) ≡ declares l.text l.name false l.tokens
