-- The operands of instructions, and which of them have 16 bits.
use Rattle.std.specs.Prelude.{ℕ, ◌≤◌, max}
use Rattle.ob_code_words.specs.declared.instr.Instr.{Instr}
use Rattle.ob_code_words.specs.declared.instr.Instr.TheVariants as Instrs

-- the greatest operand of an instruction; 0 where it has none, and of a jump, whose target is a place of the code
abbrev pub largest_operand : Instr → ℕ
largest_operand (Instrs.Global word) = word
largest_operand (Instrs.Local word) = word
largest_operand (Instrs.Field offset) = offset
largest_operand (Instrs.Index count element_words) = max count element_words
largest_operand (Instrs.Call entry parameters) = max entry parameters
largest_operand (Instrs.Frame words) = words
largest_operand _ = 0

-- its operands have 16 bits
abbrev pub HasSmallOperands : Instr → Type 0
HasSmallOperands i = largest_operand i ≤ 65535

-- and it is no call, which knows a place of the code
abbrev pub IsSmallInstruction : Instr → Type 0
IsSmallInstruction (Instrs.Call entry parameters) = ⊥
IsSmallInstruction i = HasSmallOperands i
