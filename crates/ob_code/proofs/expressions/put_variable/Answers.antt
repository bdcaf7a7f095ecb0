use Rattle.std.proofs.Common.{arith}
use Rattle.ob_checked.specs.View.{owner_of}
use Rattle.ob_code.specs.Scoped.{globals_in, own_in}
use Rattle.ob_code.proofs.ValuesWithin.{variable_starts}
use Rattle.ob_code.proofs.expressions.put_variable.Goals as goal

pub overflow_cast-word : goal.overflow_cast-word
overflow_cast-word c =
    let slot = c.args.slot.now in
    let starts = variable_starts (globals_in c.args.scopes.now) (own_in c.args.scopes.now) c.args.code.now (owner_of slot.owner) slot.position c.requires in
    omega (arith, starts.0, c.variable-place.ensures.word)
