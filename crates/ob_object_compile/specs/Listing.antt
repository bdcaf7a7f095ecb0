-- The text of code.
use Rattle.std.specs.Prelude.{ℕ, zero, suc, ◌+◌, ◌-◌, ℤ, pos, List, [], ◌∷◌, ◌++◌, length, drop, Option, Some, None, slice_get, codes, decimal}
use Rattle.std.specs.Fmt.{signed_decimal}
use Rattle.std.specs.List.{flat_map}
use Rattle.ob_code_words.specs.declared.instr.Instr.{Instr}
use Rattle.ob_code_words.specs.declared.instr.Instr.TheVariants.{Literal, Global, Local, Field, Index, Get, Put, Add, Subtract, Multiply, Divide, Modulo, Negate, Not, Equal, NotEqual, Less, LessOrEqual, Greater, GreaterOrEqual, Jump, JumpIfFalse, AndJump, OrJump, Call, Frame, Return, Turn}

abbrev pub mnemonic : Instr → List ℕ
mnemonic (Literal value) = codes "LIT"
mnemonic (Global word) = codes "GLOB"
mnemonic (Local word) = codes "LOC"
mnemonic (Field offset) = codes "FLD"
mnemonic (Index count element_words) = codes "IDX"
mnemonic Get = codes "GET"
mnemonic Put = codes "PUT"
mnemonic Add = codes "ADD"
mnemonic Subtract = codes "SUB"
mnemonic Multiply = codes "MUL"
mnemonic Divide = codes "DIV"
mnemonic Modulo = codes "MOD"
mnemonic Negate = codes "NEG"
mnemonic Not = codes "NOT"
mnemonic Equal = codes "EQ"
mnemonic NotEqual = codes "NE"
mnemonic Less = codes "LT"
mnemonic LessOrEqual = codes "LE"
mnemonic Greater = codes "GT"
mnemonic GreaterOrEqual = codes "GE"
mnemonic (Jump target) = codes "JMP"
mnemonic (JumpIfFalse target) = codes "JF"
mnemonic (AndJump target) = codes "ANDJ"
mnemonic (OrJump target) = codes "ORJ"
mnemonic (Call entry parameters) = codes "CALL"
mnemonic (Frame words) = codes "FRAME"
mnemonic Return = codes "RET"
mnemonic Turn = codes "TURN"

-- the operands of an instruction, in their order
abbrev pub operands : Instr → List ℤ
operands (Literal value) = value ∷ []
operands (Global word) = pos word ∷ []
operands (Local word) = pos word ∷ []
operands (Field offset) = pos offset ∷ []
operands (Index count element_words) = pos count ∷ pos element_words ∷ []
operands (Jump target) = pos target ∷ []
operands (JumpIfFalse target) = pos target ∷ []
operands (AndJump target) = pos target ∷ []
operands (OrJump target) = pos target ∷ []
operands (Call entry parameters) = pos entry ∷ pos parameters ∷ []
operands (Frame words) = pos words ∷ []
operands _ = []

-- the line of an instruction: its place, its name and its operands, with one space between two
abbrev pub instruction_line : ℕ → Instr → List ℕ
instruction_line place i =
    decimal place ++ codes " " ++ mnemonic i ++ flat_map (λ z. codes " " ++ signed_decimal z) (operands i) ++ codes "\n"

-- the line of the instruction at a place, where there is one
abbrev pub line_at : ℕ → Option Instr → List ℕ
line_at place None = []
line_at place (Some i) = instruction_line place i

-- the lines of so many instructions from a place on
abbrev pub lines_from : List Instr → (place count : ℕ) → List ℕ
lines_from instructions place zero = []
lines_from instructions place (suc count) = line_at place (slice_get instructions place) ++ lines_from instructions (place + 1) count

-- `PROCEDURE` and the name
abbrev pub heading_line : List ℕ → List ℕ
heading_line name = codes "PROCEDURE " ++ name ++ codes "\n"

-- a procedure ends where the next one begins, the last one at the end of the code
abbrev pub end_of : List ℕ → ℕ → ℕ
end_of [] end = end
end_of (next ∷ entries) end = next

-- of the first of some procedures, by their entries, its heading and its instructions
abbrev pub procedure_text : List Instr → (entries name : List ℕ) → List ℕ
procedure_text instructions [] name = []
procedure_text instructions (entry ∷ entries) name =
    heading_line name ++ lines_from instructions entry (end_of entries (length instructions) - entry)

-- the text of procedures with these entries and names
abbrev pub listing : List Instr → (entries : List ℕ) → (names : List (List ℕ)) → List ℕ
listing instructions entries [] = []
listing instructions entries (name ∷ names) = procedure_text instructions entries name ++ listing instructions (drop 1 entries) names
