use Rattle.ob_scopes.specs.Names.{types_in, env_of}
use Rattle.ob_rules.proofs.Designated.{bare_variable}
use Rattle.ob_rules.proofs.statements.bare.Goals as goal

pub returns-in_default-meant : goal.returns-in_default-meant
returns-in_default-meant c =
    bare_variable (env_of c.args.scopes.now) c.args.written.now c.in-Named.designator c.in-Named.is (types_in c.args.scopes.now) c.deref.result.now c.meant.result
    c.deref.ensures c.meant.ensures.meant c.in_default-meant.not-Constant
