-- Laws of words.
use Rattle.std.specs.Prelude.{◌≡◌, ℕ, ◌+◌, ◌<◌, ◌≤◌, ℤ, pos, ◌+ℤ◌, ◌*ℤ◌, ◌≤ℤ◌, ◌<ℤ◌, List, ◌++◌, length, slice_index_or, slice_set}
use Rattle.ob_code_words.specs.declared.instr.Instr.TheVariants.{Divide, Modulo}
use Rattle.ob_code_words.specs.Words.{Gives, Sticks, made_of_two}
use Rattle.ob_code_words.specs.Effect.{word_at, put_at}

-- DIV and MOD by y: x is the quotient times y and the rest, which is from 0 to y - 1
pub record DividesDown (x y : ℤ) : Type 0 where
  pub quotient : ℤ
  pub rest : ℤ
  pub divide : made_of_two Divide x y ≡ Gives quotient
  pub modulo : made_of_two Modulo x y ≡ Gives rest
  pub whole : x ≡ quotient *ℤ y +ℤ rest
  pub from_zero : pos 0 ≤ℤ rest
  pub below : rest <ℤ y

-- so it is for each divisor above 0
abbrev pub DividesAll : Type 0
DividesAll = (x y : ℤ) → pos 0 <ℤ y → DividesDown x y

-- a word that was written at an address: block and stack are the one list with that word, divided where they were
pub record WritesOne (block stack : List ℤ) (a : ℕ) (w : ℤ) : Type 0 where
  pub new_block : List ℤ
  pub new_stack : List ℤ
  pub put : put_at block stack (pos a) w ≡ Gives (new_block, new_stack)
  pub whole : new_block ++ new_stack ≡ slice_set (block ++ stack) a w
  pub divided : length new_block ≡ length block

-- the words that have an address are one list, the block and the stack behind it
pub record IsOneList (block stack : List ℤ) (a : ℕ) : Type 0 where
  pub reads : a < length block + length stack → word_at block stack (pos a) ≡ Gives (slice_index_or (block ++ stack) a (pos 0))
  pub writes : (w : ℤ) → a < length block + length stack → WritesOne block stack a w
  pub reads_nothing : length block + length stack ≤ a → word_at block stack (pos a) ≡ Sticks
  pub writes_nothing : (w : ℤ) → length block + length stack ≤ a → put_at block stack (pos a) w ≡ Sticks

abbrev pub MemoryIsOneList : Type 0
MemoryIsOneList = (block stack : List ℤ) (a : ℕ) → IsOneList block stack a
