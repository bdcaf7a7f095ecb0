-- Each call goes on with one mending more, of at most nine.
use Rattle.std.proofs.Common.{◌-◌, length}
use Rattle.ob_slips.proofs.further_faults.+told_on.Given as goal

abbrev pub decreases-told_on : goal.decreases-told_on
decreases-told_on l = 10 - length l.stage.moves.now
