-- A stack within its words stays there.
use Rattle.std.proofs.Common.{◌≡◌, ℕ, zero, suc, ◌+◌, ◌-◌, ◌<◌, ◌≤◌, Bool, true, false, ℤ, pos, negsuc, List, [], ◌∷◌, ◌++◌, length, take, replicate, length-set, length-append, refl, subst, arith}
use Rattle.std.specs.Prelude.{nat_lt, nat_le, slice_set, slice_get, slice_index_or, Option, Some, None, if◌then◌else◌}
use Rattle.std.specs.Ordering.{int_eq}
use Rattle.std.proofs.lemmas.List.{length-take-le, length-replicate}
use Rattle.std.proofs.lemmas.Bool.Decides.{nat_tests}
use Rattle.ob_code_words.specs.declared.instr.Instr.{Instr}
use Rattle.ob_code_words.specs.declared.instr.Instr.TheVariants.{Literal, Global, Local, Field, Index, Get, Put, Add, Subtract, Multiply, Divide, Modulo, Negate, Not, Equal, NotEqual, Less, LessOrEqual, Greater, GreaterOrEqual, Jump, JumpIfFalse, AndJump, OrJump, Call, Frame, Return, Turn}
use Rattle.ob_code_machine.specs.declared.saved.Saved.{Saved}
use Rattle.ob_code_words.specs.Words.{Made, Gives, Traps, Sticks, ◌>>=◌, address, made_of_one, made_of_two}
use Rattle.ob_code_words.specs.Effect.{word_at, put_at, popped, pushed, of_one, of_two, loaded, stored, cleared, stack_effect, effect}
use Rattle.ob_code_machine.specs.Machine.{Configuration, Outcome, Unfinished, Returned, Trapped, Stuck, made_then, goes_on, back_to, taking_turn, computed, act, act_at, turn, carried, exec}
use Rattle.ob_code_machine.specs.Laws.{StackStaysWithin}

abbrev IsFine : {A : Type 0} → (A → Type 0) → Made A → Type 0
IsFine P (Gives a) = P a
IsFine P (Traps k) = Unit {0}
IsFine P Sticks = Unit {0}

then_fine : {A B : Type 0} (P : A → Type 0) (Q : B → Type 0) (m : Made A) (go : A → Made B) → IsFine P m → ((a : A) → P a → IsFine Q (go a)) → IsFine Q (m >>= go)
then_fine P Q (Gives a) go h g = g a h
then_fine P Q (Traps k) go h g = tt
then_fine P Q Sticks go h g = tt

if_fine : {A : Type 0} (P : A → Type 0) (b : Bool) (x y : Made A) → (b ≡ true → IsFine P x) → IsFine P y → IsFine P (if b then x else y)
if_fine P true x y h g = h refl
if_fine P false x y h g = g

abbrev Any : {A : Type 0} → A → Type 0
Any a = Unit {0}

any_fine : {A : Type 0} (m : Made A) → IsFine Any m
any_fine (Gives a) = tt
any_fine (Traps k) = tt
any_fine Sticks = tt

abbrev IsIn : ℕ → List ℤ → Type 0
IsIn n stack = length stack ≤ n

-- a stack that a word was popped from
abbrev IsBelow : List ℤ → ℤ × List ℤ → Type 0
IsBelow stack x = suc (length x.1) ≤ length stack

popped_fine : (stack : List ℤ) → IsFine (IsBelow stack) (popped stack)
popped_fine stack =
    if_fine (IsBelow stack) (nat_lt 0 (length stack)) (Gives (slice_index_or stack (length stack - 1) (pos 0), take (length stack - 1) stack)) Sticks
    (λ some. let high : 0 < length stack = grind (arith, nat_tests) in let n = length-take-le (length stack - 1) stack (omega arith) in omega (arith, n, high)) tt

pushed_fine : (reserve : ℕ) (stack : List ℤ) (w : ℤ) → IsFine (IsIn reserve) (pushed reserve stack w)
pushed_fine reserve stack w =
    if_fine (IsIn reserve) (nat_lt (length stack) reserve) (Gives (stack ++ w ∷ [])) Sticks
    (λ room. let below : length stack < reserve = grind (arith, nat_tests) in let n = length-append stack (w ∷ []) in omega (arith, n, below)) tt

-- a word in the place of one
swapped : (n : ℕ) (stack : List ℤ) (x : ℤ × List ℤ) (w : ℤ) → length stack ≤ n → IsBelow stack x → IsIn n (x.1 ++ w ∷ [])
swapped n stack x w le h = let k = length-append x.1 (w ∷ []) in omega (arith, k, h, le)

of_one_fine : (n : ℕ) (make : ℤ → Made ℤ) (stack : List ℤ) → length stack ≤ n → IsFine (IsIn n) (of_one make stack)
of_one_fine n make stack le =
    then_fine (IsBelow stack) (IsIn n) (popped stack) (λ x. make x.0 >>= (λ made. Gives (x.1 ++ made ∷ []))) (popped_fine stack)
    (λ x k. then_fine Any (IsIn n) (make x.0) (λ made. Gives (x.1 ++ made ∷ [])) (any_fine (make x.0)) (λ made m. swapped n stack x made le k))

of_two_fine : (n : ℕ) (make : ℤ → ℤ → Made ℤ) (stack : List ℤ) → length stack ≤ n → IsFine (IsIn n) (of_two make stack)
of_two_fine n make stack le =
    then_fine (IsBelow stack) (IsIn n) (popped stack) (λ y. popped y.1 >>= (λ x. make x.0 y.0 >>= (λ made. Gives (x.1 ++ made ∷ [])))) (popped_fine stack)
    (λ y k. then_fine (IsBelow y.1) (IsIn n) (popped y.1) (λ x. make x.0 y.0 >>= (λ made. Gives (x.1 ++ made ∷ []))) (popped_fine y.1)
    (λ x l. then_fine Any (IsIn n) (make x.0 y.0) (λ made. Gives (x.1 ++ made ∷ [])) (any_fine (make x.0 y.0)) (λ made m. swapped n y.1 x made (omega (arith, k, le)) l)))

loaded_fine : (n : ℕ) (block stack : List ℤ) → length stack ≤ n → IsFine (IsIn n) (loaded block stack)
loaded_fine n block stack le =
    then_fine (IsBelow stack) (IsIn n) (popped stack) (λ x. word_at block x.1 x.0 >>= (λ w. Gives (x.1 ++ w ∷ []))) (popped_fine stack)
    (λ x k. then_fine Any (IsIn n) (word_at block x.1 x.0) (λ w. Gives (x.1 ++ w ∷ [])) (any_fine (word_at block x.1 x.0)) (λ w m. swapped n stack x w le k))

-- block and stack
abbrev AreIn : ℕ → List ℤ × List ℤ → Type 0
AreIn n made = length made.1 ≤ n

put_fine : (n : ℕ) (block stack : List ℤ) (a w : ℤ) → length stack ≤ n → IsFine (AreIn n) (put_at block stack a w)
put_fine n block stack (pos a) w le =
    if_fine (AreIn n) (nat_lt a (length block)) (Gives (slice_set block a w, stack)) _ (λ e. le)
    (if_fine (AreIn n) (nat_lt (a - length block) (length stack)) (Gives (block, slice_set stack (a - length block) w)) Sticks (λ e. let k = length-set stack (a - length block) w in omega (arith, k, le)) tt)
put_fine n block stack (negsuc m) w le = tt

stored_fine : (n : ℕ) (block stack : List ℤ) → length stack ≤ n → IsFine (AreIn n) (stored block stack)
stored_fine n block stack le =
    then_fine (IsBelow stack) (AreIn n) (popped stack) (λ y. popped y.1 >>= (λ x. put_at block x.1 x.0 y.0)) (popped_fine stack)
    (λ y k. then_fine (IsBelow y.1) (AreIn n) (popped y.1) (λ x. put_at block x.1 x.0 y.0) (popped_fine y.1) (λ x l. put_fine n block x.1 x.0 y.0 (omega (arith, k, l, le))))

cleared_fine : (reserve count : ℕ) (stack : List ℤ) → IsFine (IsIn reserve) (cleared reserve count stack)
cleared_fine reserve count stack =
    if_fine (IsIn reserve) (nat_le (length stack + count) reserve) (Gives (stack ++ replicate count (pos 0))) Sticks
    (λ room. let within : length stack + count ≤ reserve = grind (arith, nat_tests) in
    let n = length-append stack (replicate count (pos 0)) in let m = length-replicate count (pos 0) in omega (arith, n, m, within)) tt

module _ (reserve fp : ℕ) (block stack : List ℤ) (le : length stack ≤ reserve) where
  stack_fine : (i : Instr) → IsFine (IsIn reserve) (stack_effect reserve fp i block stack)
  stack_fine (Literal value) = pushed_fine reserve stack value
  stack_fine (Global word) = pushed_fine reserve stack (pos word)
  stack_fine (Local word) =
      then_fine Any (IsIn reserve) (address (pos (length block + fp + word))) (λ a. pushed reserve stack a) (any_fine (address (pos (length block + fp + word))))
      (λ a h. pushed_fine reserve stack a)
  stack_fine (Field offset) = of_one_fine reserve (made_of_one (Field offset)) stack le
  stack_fine (Index count element_words) = of_two_fine reserve (made_of_two (Index count element_words)) stack le
  stack_fine Get = loaded_fine reserve block stack le
  stack_fine Put = tt
  stack_fine Add = of_two_fine reserve (made_of_two Add) stack le
  stack_fine Subtract = of_two_fine reserve (made_of_two Subtract) stack le
  stack_fine Multiply = of_two_fine reserve (made_of_two Multiply) stack le
  stack_fine Divide = of_two_fine reserve (made_of_two Divide) stack le
  stack_fine Modulo = of_two_fine reserve (made_of_two Modulo) stack le
  stack_fine Negate = of_one_fine reserve (made_of_one Negate) stack le
  stack_fine Not = of_one_fine reserve (made_of_one Not) stack le
  stack_fine Equal = of_two_fine reserve (made_of_two Equal) stack le
  stack_fine NotEqual = of_two_fine reserve (made_of_two NotEqual) stack le
  stack_fine Less = of_two_fine reserve (made_of_two Less) stack le
  stack_fine LessOrEqual = of_two_fine reserve (made_of_two LessOrEqual) stack le
  stack_fine Greater = of_two_fine reserve (made_of_two Greater) stack le
  stack_fine GreaterOrEqual = of_two_fine reserve (made_of_two GreaterOrEqual) stack le
  stack_fine (Jump target) = tt
  stack_fine (JumpIfFalse target) = tt
  stack_fine (AndJump target) = tt
  stack_fine (OrJump target) = tt
  stack_fine (Call entry parameters) = tt
  stack_fine (Frame words) = cleared_fine reserve words stack
  stack_fine Return = tt
  stack_fine Turn = tt

  beside_fine : (i : Instr) → IsFine (AreIn reserve) (stack_effect reserve fp i block stack >>= (λ after. Gives (block, after)))
  beside_fine i = then_fine (IsIn reserve) (AreIn reserve) (stack_effect reserve fp i block stack) (λ after. Gives (block, after)) (stack_fine i) (λ after h. h)

  effect_fine : (i : Instr) → IsFine (AreIn reserve) (effect reserve fp i block stack)
  effect_fine (Literal value) = beside_fine (Literal value)
  effect_fine (Global word) = beside_fine (Global word)
  effect_fine (Local word) = beside_fine (Local word)
  effect_fine (Field offset) = beside_fine (Field offset)
  effect_fine (Index count element_words) = beside_fine (Index count element_words)
  effect_fine Get = beside_fine Get
  effect_fine Put = stored_fine reserve block stack le
  effect_fine Add = beside_fine Add
  effect_fine Subtract = beside_fine Subtract
  effect_fine Multiply = beside_fine Multiply
  effect_fine Divide = beside_fine Divide
  effect_fine Modulo = beside_fine Modulo
  effect_fine Negate = beside_fine Negate
  effect_fine Not = beside_fine Not
  effect_fine Equal = beside_fine Equal
  effect_fine NotEqual = beside_fine NotEqual
  effect_fine Less = beside_fine Less
  effect_fine LessOrEqual = beside_fine LessOrEqual
  effect_fine Greater = beside_fine Greater
  effect_fine GreaterOrEqual = beside_fine GreaterOrEqual
  effect_fine (Jump target) = beside_fine (Jump target)
  effect_fine (JumpIfFalse target) = beside_fine (JumpIfFalse target)
  effect_fine (AndJump target) = beside_fine (AndJump target)
  effect_fine (OrJump target) = beside_fine (OrJump target)
  effect_fine (Call entry parameters) = beside_fine (Call entry parameters)
  effect_fine (Frame words) = beside_fine (Frame words)
  effect_fine Return = beside_fine Return
  effect_fine Turn = beside_fine Turn

-- where it goes on, its stack is within the words
abbrev IsWithin : ℕ → Outcome → Type 0
IsWithin n (Unfinished c) = length c.body.stack ≤ n
IsWithin n (Returned block stack) = Unit {0}
IsWithin n (Trapped k) = Unit {0}
IsWithin n Stuck = Unit {0}

made_within : {A : Type 0} (n : ℕ) (P : A → Type 0) (m : Made A) (go : A → Outcome) → IsFine P m → ((a : A) → P a → IsWithin n (go a)) → IsWithin n (made_then m go)
made_within n P (Gives a) go h g = g a h
made_within n P (Traps k) go h g = tt
made_within n P Sticks go h g = tt

if_within : (n : ℕ) (b : Bool) (x y : Outcome) → IsWithin n x → IsWithin n y → IsWithin n (if b then x else y)
if_within n true x y h g = h
if_within n false x y h g = g

turn_within : (n turns : ℕ) (go : ℕ → Outcome) → ((left : ℕ) → IsWithin n (go left)) → IsWithin n (taking_turn turns go)
turn_within n zero go h = tt
turn_within n (suc left) go h = h left

back_within : (n : ℕ) (c : Configuration) (saved : List Saved) (stack : List ℤ) → length stack ≤ n → IsWithin n (back_to saved stack c)
back_within n c [] stack le = tt
back_within n c (s ∷ saved) stack le = le

short_take : (n : ℕ) (s : List ℤ) → length (take n s) ≤ length s
short_take zero s = omega arith
short_take (suc n) [] = omega arith
short_take (suc n) (x ∷ s) = let h = short_take n s in omega (arith, h)

module _ (reserve : ℕ) (c : Configuration) (le : length c.body.stack ≤ reserve) where
  computed_within : (i : Instr) → IsWithin reserve (computed reserve i c)
  computed_within i =
      made_within reserve (AreIn reserve) (effect reserve c.body.fp i c.block c.body.stack) (goes_on c) (effect_fine reserve c.body.fp c.block c.body.stack le i) (λ made h. h)

  act_within : (i : Instr) → IsWithin reserve (act reserve i c)
  act_within (Literal value) = computed_within (Literal value)
  act_within (Global word) = computed_within (Global word)
  act_within (Local word) = computed_within (Local word)
  act_within (Field offset) = computed_within (Field offset)
  act_within (Index count element_words) = computed_within (Index count element_words)
  act_within Get = computed_within Get
  act_within Put = computed_within Put
  act_within Add = computed_within Add
  act_within Subtract = computed_within Subtract
  act_within Multiply = computed_within Multiply
  act_within Divide = computed_within Divide
  act_within Modulo = computed_within Modulo
  act_within Negate = computed_within Negate
  act_within Not = computed_within Not
  act_within Equal = computed_within Equal
  act_within NotEqual = computed_within NotEqual
  act_within Less = computed_within Less
  act_within LessOrEqual = computed_within LessOrEqual
  act_within Greater = computed_within Greater
  act_within GreaterOrEqual = computed_within GreaterOrEqual
  act_within (Jump target) = le
  act_within (JumpIfFalse target) =
      made_within reserve (IsBelow c.body.stack) (popped c.body.stack) _ (popped_fine c.body.stack)
      (λ x h. if_within reserve (int_eq x.0 (pos 0)) _ _ (omega (arith, h, le)) (omega (arith, h, le)))
  act_within (AndJump target) =
      made_within reserve (IsBelow c.body.stack) (popped c.body.stack) _ (popped_fine c.body.stack)
      (λ x h. if_within reserve (int_eq x.0 (pos 0)) _ _ le (omega (arith, h, le)))
  act_within (OrJump target) =
      made_within reserve (IsBelow c.body.stack) (popped c.body.stack) _ (popped_fine c.body.stack)
      (λ x h. if_within reserve (int_eq x.0 (pos 1)) _ _ le (omega (arith, h, le)))
  act_within (Call entry parameters) =
      if_within reserve (nat_le 63 (length c.body.saved)) (Trapped 4) _ tt
      (turn_within reserve c.body.turns _ (λ left. if_within reserve (nat_le parameters (length c.body.stack)) _ Stuck le tt))
  act_within (Frame words) = computed_within (Frame words)
  act_within Return =
      if_within reserve (nat_lt (length c.body.stack) c.body.fp) Stuck _ tt
      (back_within reserve c c.body.saved (take c.body.fp c.body.stack) (let h = short_take c.body.fp c.body.stack in omega (arith, h, le)))
  act_within Turn = turn_within reserve c.body.turns _ (λ left. le)

  at_within : (o : Option Instr) → IsWithin reserve (act_at reserve o c)
  at_within None = tt
  at_within (Some i) = act_within i

pub stack_within : StackStaysWithin
stack_within code reserve c d le h = subst (IsWithin reserve) h (at_within reserve c le (slice_get code c.body.pc))

carried_within : (n : ℕ) (o : Outcome) (go : Configuration → Outcome) → IsWithin n o → ((c : Configuration) → length c.body.stack ≤ n → IsWithin n (go c)) → IsWithin n (carried o go)
carried_within n (Unfinished c) go h g = g c h
carried_within n (Returned block stack) go h g = tt
carried_within n (Trapped k) go h g = tt
carried_within n Stuck go h g = tt

exec_within : (code : List Instr) (reserve count : ℕ) (c : Configuration) → length c.body.stack ≤ reserve → IsWithin reserve (exec code reserve count c)
exec_within code reserve zero c le = le
exec_within code reserve (suc k) c le =
    carried_within reserve (turn code reserve c) (exec code reserve k) (at_within reserve c le (slice_get code c.body.pc)) (λ d h. exec_within code reserve k d h)

-- after any number of instructions
pub stack_stays : (code : List Instr) (reserve count : ℕ) (c d : Configuration) → length c.body.stack ≤ reserve → exec code reserve count c ≡ Unfinished d → length d.body.stack ≤ reserve
stack_stays code reserve count c d le h = subst (IsWithin reserve) h (exec_within code reserve count c le)
