use Rattle.std.proofs.Common.{arith, []}
use Rattle.ob_scopes.specs.Names.{types_in}
use Rattle.ob_scopes.proofs.Looked.{length_around}
use Rattle.ob_scopes.proofs.scopes.Scopes.level.Goals as goal

pub returns : goal.returns
returns c = let e = length_around (types_in c.args.self.now) c.args.self.now.around.items [] in omega (arith, c.len.ensures, e)
