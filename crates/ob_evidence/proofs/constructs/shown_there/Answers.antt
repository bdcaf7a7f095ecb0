use Rattle.std.proofs.Common.{inr}
use Rattle.ob_evidence.specs.Sites.{scene_of}
use Rattle.ob_evidence.proofs.Shown.{shown_open}
use Rattle.ob_evidence.proofs.constructs.shown_there.Goals as goal

pub returns-in-Some : goal.returns-in-Some
returns-in-Some c = inr c.in-Some.ensures

pub returns-in-None : goal.returns-in-None
returns-in-None c = shown_open (scene_of c.args.site.now) _ c.of_open.ensures
