use Rattle.ob_code_engine.proofs.Effects.{effects_total}
use Rattle.ob_code_engine.proofs.engine_laws.effects_are_total.Goals as goal

pub returns : goal.returns
returns c = effects_total
