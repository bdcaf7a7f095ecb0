-- What one activation more allows, and that a call goes on with less.
use Rattle.std.proofs.Common.{ℕ, suc, ◌*◌}
use Rattle.ob_typing.specs.Program as Programs
use Rattle.ob_mean.proofs.Sizes.{sizes}

abbrev pub turn_of : Programs.Program → ℕ
turn_of program = suc (4 * sizes program.procedures)
