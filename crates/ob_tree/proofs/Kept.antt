-- An effect that leaves the block as it is.
use Rattle.std.proofs.Common.{ℤ, List, refl}
use Rattle.ob_code_words.specs.declared.effect.Answer.{Answer}
use Rattle.ob_code_words.specs.StackWords.{StackWords}
use Rattle.ob_code_words.specs.Words.{Made, Gives, Traps, Sticks, ◌>>=◌}
use Rattle.ob_code_words.specs.Running.{LeavesStack, HasEffect}

pub keeps_block : (r : Answer) (block : List ℤ) (s s' : StackWords) (m : Made (List ℤ)) → LeavesStack r s s' m → HasEffect r block block s s' (m >>= (λ after. Gives (block, after)))
keeps_block r block s s' (Gives after) h = (h.0, refl, h.1)
keeps_block r block s s' (Traps k) h = (h.0, refl, h.1)
keeps_block r block s s' Sticks h = (h.0, refl, h.1)
