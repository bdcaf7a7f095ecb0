use Rattle.std.proofs.Common.{arith, ◌∙◌}
use Rattle.ob_scopes.proofs.Looked.{found_here, not_here}
use Rattle.ob_scopes.proofs.Kept.{known_around}
use Rattle.ob_scopes.proofs.scopes.found_around.Goals as goal

pub returns-in-Some-clause-object : goal.returns-in-Some-clause-object
returns-in-Some-clause-object c =
    λ types. found_here types _ _ _ _ (omega arith) c.loop-level.invariant.within c.index-scopes-level.is _ c.in-Some.ensures.value ∙ c.loop-level.invariant.rest types

pub returns-in-Some-clause-known : goal.returns-in-Some-clause-known
returns-in-Some-clause-known c =
    λ n known.
    known_around n c.args.name.now _ c.args.scopes.now c.loop-level.level _ (omega arith) c.loop-level.invariant.within c.index-scopes-level.is known c.in-Some.ensures.value

pub loop-level-preserved : goal.loop-level-preserved
loop-level-preserved c = record {
  within = omega arith;
  rest = λ types. not_here types _ _ _ _ (omega arith) c.loop-level.invariant.within c.index-scopes-level.is c.in-None.ensures.value ∙ c.loop-level.invariant.rest types;
}
