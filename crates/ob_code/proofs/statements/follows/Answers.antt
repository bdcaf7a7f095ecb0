use Rattle.ob_checked.specs.View.{otherwise_of}
use Rattle.ob_code.proofs.Constructs.{some_more}
use Rattle.ob_code.proofs.statements.follows.Goals as goal

pub returns : goal.returns
returns c = some_more c.args.branches.now (otherwise_of c.args.otherwise.now) c.is_empty.result c.is_empty.ensures c.if-is_empty.false
