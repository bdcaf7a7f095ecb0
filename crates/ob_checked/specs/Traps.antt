-- Traps, and what stands for the result of an evaluation.
use Rattle.std.specs.Prelude.{ℕ, Result, Ok, Err}
use Rattle.ob_typing.specs.Arithmetic.{Evaluated, Gives, Traps, out_of_range, outside_array, bad_divisor, too_many_activations, no_turn_left}
use Rattle.ob_checked.specs.declared.trap.Trap.{Trap}
use Rattle.ob_checked.specs.declared.trap.Trap.TheVariants.{OutOfRange, OutsideArray, BadDivisor, TooManyActivations, NoTurnLeft}

abbrev pub trap_number : Trap → ℕ
trap_number OutOfRange = out_of_range
trap_number OutsideArray = outside_array
trap_number BadDivisor = bad_divisor
trap_number TooManyActivations = too_many_activations
trap_number NoTurnLeft = no_turn_left

-- what was evaluated, or the trap
abbrev pub evaluated : {A : Type 0} → Result A Trap → Evaluated A
evaluated (Ok a) = Gives a
evaluated (Err trap) = Traps (trap_number trap)
