-- What functions on words leave, told by the definitions of what instructions do.
use Rattle.std.specs.Prelude.{◌≡◌, ◌+◌, Bool, ℕ, ℤ, pos, List, length, MatchBool, MatchOption, Option}
use Rattle.ob_code_words.specs.declared.effect.Answer.{Answer}
use Rattle.ob_code_words.specs.declared.effect.Answer.TheVariants.{Done, Trap, Stuck}
use Rattle.ob_code_words.specs.Effect.{word_at}
use Rattle.ob_code_words.specs.Words.{Made, Gives, Traps, Sticks, address}
use Rattle.ob_code_words.specs.StackWords.{StackWords, with_words}

-- the stack is left as the definition makes it; with a trap, and where there is nothing to be made, as it was
abbrev pub LeavesStack : Answer → (old new : StackWords) → Made (List ℤ) → Type 0
LeavesStack r old new (Gives words) = (r ≡ Done) × (new ≡ with_words old words)
LeavesStack r old new (Traps k) = (r ≡ Trap k) × (new ≡ old)
LeavesStack r old new Sticks = (r ≡ Stuck) × (new ≡ old)

-- the same of block and stack
abbrev pub HasEffect : Answer → (old_block new_block : List ℤ) → (old new : StackWords) → Made (List ℤ × List ℤ) → Type 0
HasEffect r b b' s s' (Gives made) = (r ≡ Done) × (b' ≡ made.0) × (s' ≡ with_words s made.1)
HasEffect r b b' s s' (Traps k) = (r ≡ Trap k) × (b' ≡ b) × (s' ≡ s)
HasEffect r b b' s s' Sticks = (r ≡ Stuck) × (b' ≡ b) × (s' ≡ s)

-- what the definition makes, and none where there is nothing to be made
abbrev pub IsMade : Option ℤ → Made ℤ → Type 0
IsMade r made = MatchOption r (made ≡ Sticks) (λ z. made ≡ Gives z)

-- the word of the frame that LOC and GET bring: LOC makes its address, and GET finds it there
abbrev pub IsLocalWord : (block stack : List ℤ) → (fp word : ℕ) → ℤ → Type 0
IsLocalWord block stack fp word value =
    let place = pos (length block + fp + word) in
    (address place ≡ Gives place) × (word_at block stack place ≡ Gives value)

-- where it is so, block and stack are left as the definition makes them; else they are as they were, and there is nothing to be made
abbrev pub LeavesBoth : Bool → (old_block new_block : List ℤ) → (old new : StackWords) → Made (List ℤ × List ℤ) → Type 0
LeavesBoth r b b' s s' made =
    MatchBool r ((made ≡ Gives (b', s'.words)) × (s'.reserve ≡ s.reserve)) ((made ≡ Sticks) × (b' ≡ b) × (s' ≡ s))
