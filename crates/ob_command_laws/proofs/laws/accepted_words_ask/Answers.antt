use Rattle.ob_command.proofs.Required.{accepted_asks}
use Rattle.ob_command_laws.proofs.laws.accepted_words_ask.Goals as goal

pub returns : goal.returns
returns c = accepted_asks
