use Rattle.std.proofs.Common.{◌≡◌, map, take}
use Rattle.ob_code_calls.specs.Scalars.{held_of}
use Rattle.ob_store.specs.View.{variables_in}
use Rattle.ob_object_search.proofs.kept_states.scalars_in.Given as goal

-- the values so far are these scalars
abbrev pub invariant-loop-value : goal.invariant-loop-value
invariant-loop-value l = map held_of l.scalars.items ≡ variables_in (take l.value-index l.values)
