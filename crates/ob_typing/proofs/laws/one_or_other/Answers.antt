use Rattle.ob_typing.proofs.DecidedModules as Modules
use Rattle.ob_typing.proofs.laws.one_or_other.Goals as goal

pub returns : goal.returns
returns c = λ m h. Modules.one_or_other m h
