use Rattle.std.proofs.Common.{arith}
use Rattle.ob_store.specs.View.{value_in}
use Rattle.ob_store.proofs.Stored.{variables_set, variables_beyond, put_back-set}
use Rattle.ob_store.proofs.store.put_at.Goals as goal

pub returns-then-position-variables-clause-written : goal.returns-then-position-variables-clause-written
returns-then-position-variables-clause-written c =
    variables_set c.args.variables.now c.args.position c.index-variables-position.result _ c.args.path.now (value_in c.args.new) (omega arith)
    c.replace.ensures.written

pub returns-then-position-variables-clause-back : goal.returns-then-position-variables-clause-back
returns-then-position-variables-clause-back c =
    put_back-set c.args.variables.now c.args.position c.index-variables-position.result _ c.args.path.now c.replace.result (omega arith)
    c.replace.ensures.back

pub returns-else-position-variables-clause-written : goal.returns-else-position-variables-clause-written
returns-else-position-variables-clause-written c =
    variables_beyond c.args.variables.now c.args.position c.args.path.now (value_in c.args.new) (omega arith)
