use Rattle.std.proofs.Common.{◌+◌, ◌*◌, length}
use Rattle.ob_store.proofs.value.+replace.Given as goal

abbrev pub decreases-replace : goal.decreases-replace
decreases-replace l = 2 * length l.path.now

abbrev pub decreases-with_part : goal.decreases-with_part
decreases-with_part l = 2 * length l.rest.now + 1
