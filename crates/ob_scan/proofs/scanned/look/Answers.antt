use Rattle.ob_scan.proofs.Looks.{looked_from}
use Rattle.ob_scan.proofs.scanned.look.Goals as goal

pub returns-in-Ok : goal.returns-in-Ok
returns-in-Ok c = looked_from _ _ _ c.in-Ok.ensures.gives
