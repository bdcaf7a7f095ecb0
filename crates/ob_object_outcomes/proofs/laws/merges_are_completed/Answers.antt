-- Each call has an outcome on each state: the effect that it has there.
use Rattle.std.proofs.Common.{refl}
use Rattle.ob_code_correct.specs.Named.{CallMeans}
use Rattle.ob_meaning.specs.ByNameObject.{effect}
use Rattle.wf_outcomes.proofs.Completing.{all_completed}
use Rattle.ob_object_outcomes.proofs.laws.merges_are_completed.Goals as goal

pub returns : goal.returns
returns c = λ program budget scripts opening.
    all_completed (CallMeans program budget) scripts opening (λ call before. let e = effect program call budget before in (e.state, e.reply, refl))
