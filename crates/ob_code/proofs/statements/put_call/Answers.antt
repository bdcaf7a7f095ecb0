use Rattle.ob_code.specs.Entering.{entry_in}
use Rattle.ob_code.specs.Scoped.{globals_in, own_in}
use Rattle.ob_code.proofs.ConstructsWithin.{call_actuals}
use Rattle.ob_code.proofs.statements.put_call.Goals as goal

pub put_actuals-requires : goal.put_actuals-requires
put_actuals-requires c =
    call_actuals (globals_in c.args.scopes.now) (own_in c.args.scopes.now) (entry_in c.args.entries.now) c.args.code.now c.args.actuals.now c.args.procedure c.requires
