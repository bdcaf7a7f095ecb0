use Rattle.std.proofs.Common.{codes}
use Rattle.std.specs.Str.Parse.{ExplainsUnsignedError, HasUnsignedDigitsIfOk, ParsesUnsigned}
use Rattle.clap.specs.Words.{found_of}
use Rattle.ob_command.proofs.Numbers.{budget_read}
use Rattle.ob_command.proofs.given.length_of.Goals as goal

pub returns : goal.returns
returns c = budget_read (λ bs r. ParsesUnsigned 32 10 bs r × ExplainsUnsignedError 10 bs r × HasUnsignedDigitsIfOk bs r) (λ u x g. g.0)
    (found_of c.args.matches.now) (codes "LENGTH") c.get_one.result c.get_one.ensures.none c.get_one.ensures.value
