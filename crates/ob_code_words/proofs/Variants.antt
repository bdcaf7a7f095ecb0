-- An instruction that is none of some has the effect of the others.
use Rattle.std.proofs.Common.{◌≡◌, ◌≢◌, ℕ, ℤ, List, refl}
use Rattle.ob_code_words.specs.declared.effect.Answer.{Answer}
use Rattle.ob_code_words.specs.declared.instr.Instr.{Instr}
use Rattle.ob_code_words.specs.declared.instr.Instr.TheVariants.{Literal, Global, Local, Field, Index, Get, Put, Add, Subtract, Multiply, Divide, Modulo, Negate, Not, Equal, NotEqual, Less, LessOrEqual, Greater, GreaterOrEqual, Jump, JumpIfFalse, AndJump, OrJump, Call, Frame, Return, Turn}
use Rattle.ob_code_words.specs.StackWords.{StackWords}
use Rattle.ob_code_words.specs.Words.{Made, Gives, Traps, Sticks, ◌>>=◌}
use Rattle.ob_code_words.specs.Effect.{effect, stack_effect}
use Rattle.ob_code_words.specs.Running.{LeavesStack, HasEffect}

-- the block stays
pub keeps_block : (r : Answer) (block : List ℤ) (s s' : StackWords) (m : Made (List ℤ)) → LeavesStack r s s' m → HasEffect r block block s s' (m >>= (λ after. Gives (block, after)))
keeps_block r block s s' (Gives after) h = (h.0, refl, h.1)
keeps_block r block s s' (Traps k) h = (h.0, refl, h.1)
keeps_block r block s s' Sticks h = (h.0, refl, h.1)

-- every instruction but PUT leaves the block as it is
pub effect_not_put : (reserve fp : ℕ) (i : Instr) (block stack : List ℤ) → i ≢ Put → effect reserve fp i block stack ≡ (stack_effect reserve fp i block stack >>= (λ after. Gives (block, after)))
effect_not_put reserve fp (Literal value) block stack h = refl
effect_not_put reserve fp (Global word) block stack h = refl
effect_not_put reserve fp (Local word) block stack h = refl
effect_not_put reserve fp (Field offset) block stack h = refl
effect_not_put reserve fp (Index count element_words) block stack h = refl
effect_not_put reserve fp Get block stack h = refl
effect_not_put reserve fp Put block stack h = absurd (h refl)
effect_not_put reserve fp Add block stack h = refl
effect_not_put reserve fp Subtract block stack h = refl
effect_not_put reserve fp Multiply block stack h = refl
effect_not_put reserve fp Divide block stack h = refl
effect_not_put reserve fp Modulo block stack h = refl
effect_not_put reserve fp Negate block stack h = refl
effect_not_put reserve fp Not block stack h = refl
effect_not_put reserve fp Equal block stack h = refl
effect_not_put reserve fp NotEqual block stack h = refl
effect_not_put reserve fp Less block stack h = refl
effect_not_put reserve fp LessOrEqual block stack h = refl
effect_not_put reserve fp Greater block stack h = refl
effect_not_put reserve fp GreaterOrEqual block stack h = refl
effect_not_put reserve fp (Jump target) block stack h = refl
effect_not_put reserve fp (JumpIfFalse target) block stack h = refl
effect_not_put reserve fp (AndJump target) block stack h = refl
effect_not_put reserve fp (OrJump target) block stack h = refl
effect_not_put reserve fp (Call entry parameters) block stack h = refl
effect_not_put reserve fp (Frame words) block stack h = refl
effect_not_put reserve fp Return block stack h = refl
effect_not_put reserve fp Turn block stack h = refl
