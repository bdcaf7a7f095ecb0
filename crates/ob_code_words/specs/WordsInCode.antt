-- What the enums of the code stand for.
use Rattle.std.specs.Prelude.{ℤ}
use Rattle.ob_code_words.specs.declared.stack_operators.Made.{Made as MadeInCode}
use Rattle.ob_code_words.specs.declared.stack_operators.Made.TheVariants.{Word, Trap, Stuck}
use Rattle.ob_code_words.specs.Words.{Made, Gives, Traps, Sticks}

abbrev pub made_in : MadeInCode → Made ℤ
made_in (Word z) = Gives z
made_in (Trap k) = Traps k
made_in Stuck = Sticks
