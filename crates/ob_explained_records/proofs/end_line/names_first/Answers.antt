use Rattle.ob_explained_records.proofs.Ends.{names_is}
use Rattle.ob_explained_records.proofs.end_line.names_first.Goals as goal

pub returns-in-Some : goal.returns-in-Some
returns-in-Some c = names_is c.args.id c.in-Some.named c.args.line.now _ c.is_same.result c.in-Some.ensures.taken c.is_same.ensures

pub returns-in-None : goal.returns-in-None
returns-in-None c = (λ t. absurd (cc), λ h. absurd (c.in-None.ensures.taken h.0 h.1 c.args.id h.2 h.3))
