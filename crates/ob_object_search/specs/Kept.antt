-- What states stand for that are kept.
use Rattle.std.specs.Prelude.{map}
use Rattle.ob_code_calls.specs.Scalars.{held_of}
use Rattle.ob_object_search.specs.declared.kept_states.KeptState.{KeptState}
use Rattle.ob_object_search.specs.declared.kept_states.KeptState.TheVariants as States
use Rattle.ob_meaning.specs.ByPositionStore.{Activation}
use Rattle.ob_store.specs.View.{variables_in}

abbrev pub kept_in : KeptState → Activation
kept_in (States.Scalars scalars) = map held_of scalars.items
kept_in (States.Values values) = variables_in values.items
