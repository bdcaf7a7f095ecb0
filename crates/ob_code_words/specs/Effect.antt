-- What an instruction without a jump does to the block and the stack. Both are lists of words; the stack's begins at its bottom.
use Rattle.std.specs.Prelude.{ℕ, ◌+◌, ◌-◌, nat_lt, nat_le, ℤ, pos, negsuc, List, [], ◌∷◌, ◌++◌, length, take, replicate, slice_set, slice_index_or, if◌then◌else◌}
use Rattle.ob_code_words.specs.declared.instr.Instr.{Instr}
use Rattle.ob_code_words.specs.declared.instr.Instr.TheVariants.{Literal, Global, Local, Field, Index, Get, Put, Add, Subtract, Multiply, Divide, Modulo, Negate, Not, Equal, NotEqual, Less, LessOrEqual, Greater, GreaterOrEqual, Frame}
use Rattle.ob_code_words.specs.Words.{Made, Gives, Sticks, ◌>>=◌, address, made_of_one, made_of_two}

-- ---- memory: address a below V, the length of the block, is word a of the block, and address V + s is stack word s

-- the word at an address
abbrev pub word_at : (block stack : List ℤ) → ℤ → Made ℤ
word_at block stack (negsuc n) = Sticks
word_at block stack (pos a) =
    if nat_lt a (length block)
    then Gives (slice_index_or block a (pos 0))
    else if nat_lt (a - length block) (length stack)
    then Gives (slice_index_or stack (a - length block) (pos 0))
    else Sticks

-- block and stack with another word at an address
abbrev pub put_at : (block stack : List ℤ) → ℤ → ℤ → Made (List ℤ × List ℤ)
put_at block stack (negsuc n) w = Sticks
put_at block stack (pos a) w =
    if nat_lt a (length block)
    then Gives (slice_set block a w, stack)
    else if nat_lt (a - length block) (length stack)
    then Gives (block, slice_set stack (a - length block) w)
    else Sticks

-- ---- the stack

-- the topmost word, and the words below it
abbrev pub popped : List ℤ → Made (ℤ × List ℤ)
popped stack =
    if nat_lt 0 (length stack)
    then Gives (slice_index_or stack (length stack - 1) (pos 0), take (length stack - 1) stack)
    else Sticks

-- a word on top, where there is room
abbrev pub pushed : ℕ → List ℤ → ℤ → Made (List ℤ)
pushed reserve stack w = if nat_lt (length stack) reserve then Gives (stack ++ w ∷ []) else Sticks

-- x, on top, gives way to what is made of it
abbrev pub of_one : (ℤ → Made ℤ) → List ℤ → Made (List ℤ)
of_one make stack = do
  x ← popped stack
  made ← make x.0
  Gives (x.1 ++ made ∷ [])

-- x and y, on top, give way to what is made of them
abbrev pub of_two : (ℤ → ℤ → Made ℤ) → List ℤ → Made (List ℤ)
of_two make stack = do
  y ← popped stack
  x ← popped y.1
  made ← make x.0 y.0
  Gives (x.1 ++ made ∷ [])

-- an address on top gives way to the word there
abbrev pub loaded : List ℤ → List ℤ → Made (List ℤ)
loaded block stack = do
  x ← popped stack
  w ← word_at block x.1 x.0
  Gives (x.1 ++ w ∷ [])

-- an address and a word on top: the word is put there
abbrev pub stored : List ℤ → List ℤ → Made (List ℤ × List ℤ)
stored block stack = do
  y ← popped stack
  x ← popped y.1
  put_at block x.1 x.0 y.0

-- so many zeros on top, where there is room
abbrev pub cleared : ℕ → ℕ → List ℤ → Made (List ℤ)
cleared reserve count stack =
    if nat_le (length stack + count) reserve then Gives (stack ++ replicate count (pos 0)) else Sticks

-- ---- instructions

-- what instructions do that leave the block as it is; those that jump have no effect of this kind
abbrev pub stack_effect : (reserve fp : ℕ) → Instr → (block stack : List ℤ) → Made (List ℤ)
-- LIT: the value
stack_effect reserve fp (Literal value) block stack = pushed reserve stack value
-- GLOB: the address of that word of the block
stack_effect reserve fp (Global word) block stack = pushed reserve stack (pos word)
-- LOC: the address of that word of the frame
stack_effect reserve fp (Local word) block stack = do
  a ← address (pos (length block + fp + word))
  pushed reserve stack a
-- FLD: x, the address of a record, gives way to that of its field
stack_effect reserve fp (Field offset) block stack = of_one (made_of_one (Field offset)) stack
-- IDX: x and y, the address of an array and an index, give way to the address of the element
stack_effect reserve fp (Index count element_words) block stack = of_two (made_of_two (Index count element_words)) stack
-- GET: an address gives way to the word there
stack_effect reserve fp Get block stack = loaded block stack
-- ADD, SUB, MUL, DIV, MOD: two numbers give way to what arithmetic makes of them
stack_effect reserve fp Add block stack = of_two (made_of_two Add) stack
stack_effect reserve fp Subtract block stack = of_two (made_of_two Subtract) stack
stack_effect reserve fp Multiply block stack = of_two (made_of_two Multiply) stack
stack_effect reserve fp Divide block stack = of_two (made_of_two Divide) stack
stack_effect reserve fp Modulo block stack = of_two (made_of_two Modulo) stack
-- NEG, NOT: a number gives way to its negative, a truth value to the other one
stack_effect reserve fp Negate block stack = of_one (made_of_one Negate) stack
stack_effect reserve fp Not block stack = of_one (made_of_one Not) stack
-- EQ, NE, LT, LE, GT, GE: two words give way to the truth of the comparison
stack_effect reserve fp Equal block stack = of_two (made_of_two Equal) stack
stack_effect reserve fp NotEqual block stack = of_two (made_of_two NotEqual) stack
stack_effect reserve fp Less block stack = of_two (made_of_two Less) stack
stack_effect reserve fp LessOrEqual block stack = of_two (made_of_two LessOrEqual) stack
stack_effect reserve fp Greater block stack = of_two (made_of_two Greater) stack
stack_effect reserve fp GreaterOrEqual block stack = of_two (made_of_two GreaterOrEqual) stack
-- FRAME: so many zeros
stack_effect reserve fp (Frame words) block stack = cleared reserve words stack
-- no other instruction is one of these
stack_effect reserve fp _ block stack = Sticks

-- what an instruction without a jump does
abbrev pub effect : (reserve fp : ℕ) → Instr → (block stack : List ℤ) → Made (List ℤ × List ℤ)
-- PUT: of an address and a word on top, the word is put there
effect reserve fp Put block stack = stored block stack
effect reserve fp i block stack = do
  after ← stack_effect reserve fp i block stack
  Gives (block, after)
