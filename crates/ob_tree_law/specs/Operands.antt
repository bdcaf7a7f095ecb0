-- Operands of 16 bits.
use Rattle.std.specs.Prelude.{ℕ, ◌≤◌}
use Rattle.ob_code_words.specs.declared.instr.Instr.{Instr}
use Rattle.ob_code_words.specs.declared.instr.Instr.TheVariants as Instrs
use Rattle.ob_code_scheme.specs.Operands.{largest_operand}

-- the greatest operand of an instruction; 0 where it has none, and of a jump and a call, which know places of the code: it may be of any length
abbrev pub largest_word : Instr → ℕ
largest_word (Instrs.Call entry parameters) = 0
largest_word i = largest_operand i

abbrev pub HasSmallWords : Instr → Type 0
HasSmallWords i = largest_word i ≤ 65535
