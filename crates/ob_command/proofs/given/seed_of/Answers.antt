use Rattle.std.proofs.Common.{codes}
use Rattle.std.specs.Str.Parse.{ExplainsUnsignedError, HasUnsignedDigitsIfOk, ParsesUnsigned}
use Rattle.clap.specs.Words.{found_of}
use Rattle.ob_command.proofs.Numbers.{seed_read}
use Rattle.ob_command.proofs.given.seed_of.Goals as goal

pub returns : goal.returns
returns c = seed_read (λ bs r. ParsesUnsigned 64 10 bs r × ExplainsUnsignedError 10 bs r × HasUnsignedDigitsIfOk bs r) (λ u x g. g.0)
    (found_of c.args.matches.now) (codes "S") c.get_one.result c.get_one.ensures.none c.get_one.ensures.value
