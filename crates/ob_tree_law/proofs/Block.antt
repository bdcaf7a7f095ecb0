-- A step leaves the block as long as it was.
use Rattle.std.proofs.Common.{◌≡◌, ℕ, zero, suc, ◌-◌, Bool, true, false, ℤ, pos, negsuc, List, [], ◌∷◌, length, take, length-set, refl}
use Rattle.std.specs.Prelude.{nat_le, nat_lt, slice_set, if◌then◌else◌}
use Rattle.std.specs.Ordering.{int_eq}
use Rattle.ob_typing.specs.Program.{Program}
use Rattle.ob_code_words.specs.declared.instr.Instr.{Instr}
use Rattle.ob_code_words.specs.declared.instr.Instr.TheVariants.{Put}
use Rattle.ob_code_words.specs.Words.{Made, Gives, Traps, Sticks, ◌>>=◌}
use Rattle.ob_code_words.specs.Effect.{popped, put_at, stored, stack_effect, effect}
use Rattle.ob_code_scheme.specs.Types.{variables_scope}
use Rattle.ob_tree_law.specs.Work.{Task, Instruction, AndThen, OrElse, Alternative, Over, Looping, Again, Until, Taking, Calling, Leaving, TreeState, Answer, On, Finished, Failed, Lost, opened, made_on, taking, leaving_to, does, does_first, step}
use Rattle.ob_tree_law.specs.TreeEngine.{TreeRun, tree_shown, tree_step}

-- what is made has a block of so many words
abbrev IsLong : ℕ → Made (List ℤ × List ℤ) → Type 0
IsLong n (Gives made) = length made.0 ≡ n
IsLong n (Traps k) = Unit {0}
IsLong n Sticks = Unit {0}

then_long : {A : Type 0} (n : ℕ) (m : Made A) (go : A → Made (List ℤ × List ℤ)) → ((a : A) → IsLong n (go a)) → IsLong n (m >>= go)
then_long n (Gives a) go h = h a
then_long n (Traps k) go h = tt
then_long n Sticks go h = tt

if_long : (n : ℕ) (b : Bool) (x y : Made (List ℤ × List ℤ)) → IsLong n x → IsLong n y → IsLong n (if b then x else y)
if_long n true x y h k = h
if_long n false x y h k = k

put_long : (block stack : List ℤ) (a w : ℤ) → IsLong (length block) (put_at block stack a w)
put_long block stack (pos a) w =
    if_long (length block) (nat_lt a (length block)) (Gives (slice_set block a w, stack)) _ (length-set block a w)
    (if_long (length block) (nat_lt (a - length block) (length stack)) (Gives (block, slice_set stack (a - length block) w)) Sticks refl tt)
put_long block stack (negsuc m) w = tt

stored_long : (block stack : List ℤ) → IsLong (length block) (stored block stack)
stored_long block stack =
    then_long (length block) (popped stack) (λ y. popped y.1 >>= (λ x. put_at block x.1 x.0 y.0))
    (λ y. then_long (length block) (popped y.1) (λ x. put_at block x.1 x.0 y.0) (λ x. put_long block x.1 x.0 y.0))

effect_long : (reserve fp : ℕ) (i : Instr) (block stack : List ℤ) → IsLong (length block) (effect reserve fp i block stack)
effect_long reserve fp Put block stack = stored_long block stack
effect_long reserve fp i block stack =
    then_long (length block) (stack_effect reserve fp i block stack) (λ after. Gives (block, after)) (λ after. refl)

-- what a step comes to
abbrev AnswerIsLong : ℕ → Answer → Type 0
AnswerIsLong n (On t) = length t.block ≡ n
AnswerIsLong n (Finished block stack) = length block ≡ n
AnswerIsLong n (Failed k) = Unit {0}
AnswerIsLong n Lost = Unit {0}

made_long : (n : ℕ) (m : Made (List ℤ × List ℤ)) (go : List ℤ × List ℤ → Answer) → IsLong n m → ((made : List ℤ × List ℤ) → length made.0 ≡ n → AnswerIsLong n (go made)) → AnswerIsLong n (made_on m go)
made_long n (Gives made) go h k = k made h
made_long n (Traps number) go h k = tt
made_long n Sticks go h k = tt

on_long : {A : Type 0} (n : ℕ) (m : Made A) (go : A → Answer) → ((a : A) → AnswerIsLong n (go a)) → AnswerIsLong n (made_on m go)
on_long n (Gives a) go h = h a
on_long n (Traps k) go h = tt
on_long n Sticks go h = tt

either_long : (n : ℕ) (b : Bool) (x y : Answer) → AnswerIsLong n x → AnswerIsLong n y → AnswerIsLong n (if b then x else y)
either_long n true x y h k = h
either_long n false x y h k = k

turn_long : (n turns : ℕ) (go : ℕ → Answer) → ((left : ℕ) → AnswerIsLong n (go left)) → AnswerIsLong n (taking turns go)
turn_long n zero go h = tt
turn_long n (suc left) go h = h left

module _ (program : Program) (reserve : ℕ) (t : TreeState) where
  abbrev long : ℕ
  long = length t.block

  leaves_long : (saved : List ℕ) (rest : List Task) (stack : List ℤ) → AnswerIsLong long (leaving_to saved rest stack t)
  leaves_long [] rest stack = refl
  leaves_long (fp ∷ saved) rest stack = refl

  does_long : (task : Task) (rest : List Task) → AnswerIsLong long (does program reserve task rest t)
  does_long (Instruction i) rest = made_long long (effect reserve t.body.fp i t.block t.body.stack) _ (effect_long reserve t.body.fp i t.block t.body.stack) (λ made h. h)
  does_long (AndThen own right) rest = on_long long (popped t.body.stack) _ (λ x. either_long long (int_eq x.0 (pos 0)) _ _ refl refl)
  does_long (OrElse own right) rest = on_long long (popped t.body.stack) _ (λ x. either_long long (int_eq x.0 (pos 1)) _ _ refl refl)
  does_long (Alternative own ss others) rest = on_long long (popped t.body.stack) _ (λ x. either_long long (int_eq x.0 (pos 0)) _ _ refl refl)
  does_long Over rest = refl
  does_long (Looping own condition body) rest = on_long long (popped t.body.stack) _ (λ x. either_long long (int_eq x.0 (pos 0)) _ _ refl refl)
  does_long (Again own condition body) rest = refl
  does_long (Until own body condition) rest = on_long long (popped t.body.stack) _ (λ x. either_long long (int_eq x.0 (pos 0)) _ _ refl refl)
  does_long Taking rest = turn_long long t.body.turns _ (λ left. refl)
  does_long (Calling number parameters) rest =
      either_long long (nat_le 63 (length t.body.saved)) _ _ tt
      (turn_long long t.body.turns _ (λ left. either_long long (nat_le parameters (length t.body.stack)) _ _ refl tt))
  does_long Leaving rest = either_long long (nat_lt (length t.body.stack) t.body.fp) _ _ tt (leaves_long t.body.saved rest (take t.body.fp t.body.stack))
  does_long _ rest = tt

  first_long : (work : List Task) → AnswerIsLong long (does_first program reserve work t)
  first_long [] = tt
  first_long (task ∷ rest) = does_long task rest

  step_long : AnswerIsLong long (step program reserve t)
  step_long = first_long (opened (variables_scope program.variables) t.body.work)

shown_long : (program : Program) (run : TreeRun) (block : List ℤ) (a : Answer) → AnswerIsLong (length block) a → length (tree_shown program run block a).block ≡ length block
shown_long program run block (On t) h = h
shown_long program run block (Finished left stack) h = h
shown_long program run block (Failed k) h = refl
shown_long program run block Lost h = refl

pub tree_step_long : (program : Program) (run : TreeRun) (block : List ℤ) → length (tree_step program run block).block ≡ length block
tree_step_long program run block =
    shown_long program run block (if run.is_over then Lost else step program run.reserve (record { block = block; body = run.body }))
    (either_long (length block) run.is_over Lost (step program run.reserve (record { block = block; body = run.body })) tt
    (step_long program run.reserve (record { block = block; body = run.body })))
