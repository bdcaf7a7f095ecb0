use Rattle.std.proofs.Common.{List, subst}
use Rattle.ob_scan.specs.declared.token.Token.{Token}
use Rattle.ob_explain_tokens.specs.Open.{IsOpenConstruct}
use Rattle.ob_evidence.proofs.Shown.{open_alone}
use Rattle.ob_evidence.proofs.constructs.open_around.Goals as goal

pub returns-then-is_open_name : goal.returns-then-is_open_name
returns-then-is_open_name c =
    let opening = c.open_construct.result in
    open_alone _ opening (subst (λ (ts : List Token). IsOpenConstruct ts opening) c.rest_of-before.ensures c.open_construct.ensures)
