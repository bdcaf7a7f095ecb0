use Rattle.std.proofs.Common.{List, subst}
use Rattle.ob_scan.specs.declared.token.Token.{Token}
use Rattle.ob_evidence.specs.Constructs.{AreOpen}
use Rattle.ob_evidence.proofs.constructs.behind_end.Goals as goal

pub returns-then-is_kind : goal.returns-then-is_kind
returns-then-is_kind c = subst (λ (ts : List Token). AreOpen ts c.of_end.result) c.rest_of.ensures c.of_end.ensures
