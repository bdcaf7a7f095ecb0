use Rattle.std.proofs.Common.{ap}
use Rattle.ob_code_engine.specs.CodeEngine.{CompiledParts, compiled_same}
use Rattle.ob_code_engine.proofs.coded.CodeEngineCodedEngine.is_same.Goals as goal

pub returns : goal.returns
returns c = (
  λ same. ap (λ (e : CompiledParts). e.parts) (c.is_same.ensures.0 same),
  λ parts. c.is_same.ensures.1 (compiled_same c.args.self.now c.args.other.now parts),
)
