use Rattle.std.proofs.Common.{length}
use Rattle.ob_scopes.specs.Objects.{known_names, known_scopes}
use Rattle.ob_scopes.specs.Names.{types_in}
use Rattle.ob_scopes.proofs.Kept.{and_left, known_own}
use Rattle.ob_scopes.proofs.scopes.Scopes.find.Goals as goal

pub returns-in-Some-clause-known : goal.returns-in-Some-clause-known
returns-in-Some-clause-known c =
    let n = length (types_in c.args.self.now) in
    let own = c.args.self.now.own.entries in
    known_own n c.args.name.now _ c.args.self.now.own (and_left (known_names n own) (known_scopes n c.args.self.now.around.items) c.args.self.now.known) c.in-Some.ensures.value
