use Rattle.ob_code_engine.proofs.EngineTotal.{keep_total}
use Rattle.ob_code_engine.proofs.engine_laws.engines_keep_total.Goals as goal

pub returns : goal.returns
returns c = keep_total c.calls_keep_total.ensures
