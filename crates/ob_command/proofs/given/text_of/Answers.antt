use Rattle.clap.specs.Words.{found_of}
use Rattle.ob_command.proofs.Readings.{text_is}
use Rattle.ob_command.proofs.given.text_of.Goals as goal

pub returns : goal.returns
returns c = text_is (found_of c.args.matches.now) c.args.id.now c.get_str.result c.get_str.ensures
