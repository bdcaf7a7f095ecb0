use Rattle.std.proofs.Common.{◌≡◌, map, take}
use Rattle.ob_code_calls.specs.Scalars.{held_of}
use Rattle.ob_store.specs.View.{variables_in}
use Rattle.ob_object_search.proofs.kept_states.values_of.Given as goal

-- the scalars so far are these values
abbrev pub invariant-loop-scalar : goal.invariant-loop-scalar
invariant-loop-scalar l = variables_in l.values.items ≡ map held_of (take l.scalar-index l.scalars)
