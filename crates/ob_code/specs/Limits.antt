-- The limits of code: how many instructions there can be, and operands of 16 bits.
use Rattle.std.specs.Prelude.{◌≤◌, length}
use Rattle.std.specs.List.{All}
use Rattle.ob_code_machine.specs.Code.{CodeParts}
use Rattle.ob_code_scheme.specs.Operands.{HasSmallOperands}

-- at most 65,535 instructions, with such operands
pub record IsWithinLimits (c : CodeParts) : Type 0 where
  pub short : length c.instructions ≤ 65535
  pub operands : All HasSmallOperands c.instructions
