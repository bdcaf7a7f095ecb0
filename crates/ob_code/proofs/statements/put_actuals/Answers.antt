use Rattle.ob_code.specs.Scoped.{globals_in, own_in}
use Rattle.ob_code.proofs.Constructs.{actuals_go}
use Rattle.ob_code.proofs.ConstructsWithin.{actuals_next}
use Rattle.ob_code.proofs.statements.put_actuals.Goals as goal

pub loop-actual-preserved : goal.loop-actual-preserved
loop-actual-preserved c =
    actuals_go (globals_in c.args.scopes.now) (own_in c.args.scopes.now) c.loop-actual.code c.put_actual.new.code _ c.args.actuals.now c.loop-actual.actual-index c.actual-item.result
    c.loop-actual-test.true c.actual-item.is c.in_ok-put_actual.ensures c.loop-actual.invariant

pub put_actual-requires : goal.put_actual-requires
put_actual-requires c =
    actuals_next (globals_in c.args.scopes.now) (own_in c.args.scopes.now) c.loop-actual.code _ c.args.actuals.now c.loop-actual.actual-index c.actual-item.result
    c.loop-actual-test.true c.actual-item.is c.loop-actual.invariant c.requires
