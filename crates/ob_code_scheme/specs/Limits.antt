-- The limits that a checked program keeps, as far as its code stands on them: operands of instructions have 16 bits, and the words of
-- a stack are counted.
use Rattle.std.specs.Prelude.{ℕ, ◌+◌, ◌*◌}

-- of the module's variables, of a type, and the length of an array
abbrev pub most_words : ℕ
most_words = 4096

-- of the frame of a procedure
abbrev pub most_frame_words : ℕ
most_frame_words = 1024

-- That the code of a procedure holds above its frame. Constructs of a text stand at most 100 deep, of which the procedure is the
-- outermost one. At each depth an expression holds at most 4 words: of a bracket, a relation, a sum and a product. And at most 7
-- actuals of a call lie below the last one.
abbrev pub most_temporary_words : ℕ
most_temporary_words = 4 * 100 + 7
