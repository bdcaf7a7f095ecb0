use Rattle.std.proofs.Common.{refl}
use Rattle.ob_object_run.proofs.laws.states_are_objects.Goals as goal

pub returns : goal.returns
returns c = λ program budget state well typed. record {
  compiled = record { well = well; parts_are = refl };
  encodes = record { typed = typed; words_are = refl };
}
