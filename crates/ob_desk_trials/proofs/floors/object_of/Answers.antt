use Rattle.ob_object_compile.specs.Asked.{by_body}
use Rattle.ob_object_compile.specs.View.{object_in}
use Rattle.ob_desk_trials.proofs.floors.object_of.Goals as goal

pub returns-clause-sound : goal.returns-clause-sound
returns-clause-sound c = c.compilations_are_sound.ensures.coded (by_body c.args.text.now c.args.n c.args.budget) (object_in c.in_ok-compile.field-0) c.in_ok-compile.ensures.object
