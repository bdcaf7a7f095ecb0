-- What an instruction leaves of sizes: the block has as many words as before, and a trap is from 1 to 5.
use Rattle.std.proofs.Common.{◌≡◌, ℕ, zero, suc, ◌+◌, ◌-◌, ◌<◌, ◌≤◌, Bool, true, false, ◌||◌, ℤ, pos, negsuc, List, [], ◌∷◌, ◌++◌, length, take, replicate, length-set, refl, arith}
use Rattle.std.specs.Prelude.{◌+ℤ◌, ◌-ℤ◌, ◌*ℤ◌, neg_ℤ, nat_lt, nat_le, int_lt, int_le, slice_set, slice_get, slice_index_or, Option, Some, None, if◌then◌else◌}
use Rattle.std.specs.Ordering.{int_eq}
use Rattle.ob_code_words.specs.declared.instr.Instr.{Instr}
use Rattle.ob_code_words.specs.declared.instr.Instr.TheVariants.{Literal, Global, Local, Field, Index, Get, Put, Add, Subtract, Multiply, Divide, Modulo, Negate, Not, Equal, NotEqual, Less, LessOrEqual, Greater, GreaterOrEqual, Jump, JumpIfFalse, AndJump, OrJump, Call, Frame, Return, Turn}
use Rattle.ob_code_machine.specs.declared.saved.Saved.{Saved}
use Rattle.ob_code_machine.specs.declared.turn.BodyTurn.TheVariants as Answer
use Rattle.ob_code_words.specs.Words.{Made, Gives, Traps, Sticks, ◌>>=◌, is_integer, is_word, integer, address, other_truth, made_of_one, made_of_two}
use Rattle.ob_code_words.specs.Effect.{word_at, put_at, popped, pushed, of_one, of_two, loaded, stored, cleared, stack_effect, effect}
use Rattle.ob_code_machine.specs.Machine.{Configuration, Outcome, Unfinished, Returned, Trapped, Stuck, made_then, goes_on, back_to, taking_turn, computed, act, act_at, turn}
use Rattle.ob_code_machine.specs.Body.{Run, shown, at}
use Rattle.ob_code_machine.specs.Laws.{StepsKeepSizes}

-- ---- what is made

abbrev IsTrap : ℕ → Type 0
IsTrap k = (0 < k) × (k ≤ 5)

abbrev IsFine : {A : Type 0} → (A → Type 0) → Made A → Type 0
IsFine P (Gives a) = P a
IsFine P (Traps k) = IsTrap k
IsFine P Sticks = Unit {0}

abbrev Any : {A : Type 0} → A → Type 0
Any a = Unit {0}

then_fine : {A B : Type 0} (P : A → Type 0) (Q : B → Type 0) (m : Made A) (go : A → Made B) → IsFine P m → ((a : A) → P a → IsFine Q (go a)) → IsFine Q (m >>= go)
then_fine P Q (Gives a) go h g = g a h
then_fine P Q (Traps k) go h g = h
then_fine P Q Sticks go h g = tt

if_fine : {A : Type 0} (P : A → Type 0) (b : Bool) (x y : Made A) → IsFine P x → IsFine P y → IsFine P (if b then x else y)
if_fine P true x y h g = h
if_fine P false x y h g = g

integer_fine : (z : ℤ) → IsFine Any (integer z)
integer_fine z = if_fine Any (is_integer z) (Gives z) (Traps 1) tt (omega arith, omega arith)

address_fine : (z : ℤ) → IsFine Any (address z)
address_fine z = if_fine Any (is_word z) (Gives z) Sticks tt tt

truth_fine : (x : ℤ) → IsFine Any (other_truth x)
truth_fine x = if_fine Any (int_eq x (pos 0)) (Gives (pos 1)) (if int_eq x (pos 1) then Gives (pos 0) else Sticks) tt (if_fine Any (int_eq x (pos 1)) (Gives (pos 0)) Sticks tt tt)

one_fine : (i : Instr) (x : ℤ) → IsFine Any (made_of_one i x)
one_fine (Literal value) x = tt
one_fine (Global word) x = tt
one_fine (Local word) x = tt
one_fine (Field offset) x = address_fine (x +ℤ pos offset)
one_fine (Index count element_words) x = tt
one_fine Get x = tt
one_fine Put x = tt
one_fine Add x = tt
one_fine Subtract x = tt
one_fine Multiply x = tt
one_fine Divide x = tt
one_fine Modulo x = tt
one_fine Negate x = integer_fine (neg_ℤ x)
one_fine Not x = truth_fine x
one_fine Equal x = tt
one_fine NotEqual x = tt
one_fine Less x = tt
one_fine LessOrEqual x = tt
one_fine Greater x = tt
one_fine GreaterOrEqual x = tt
one_fine (Jump target) x = tt
one_fine (JumpIfFalse target) x = tt
one_fine (AndJump target) x = tt
one_fine (OrJump target) x = tt
one_fine (Call entry parameters) x = tt
one_fine (Frame words) x = tt
one_fine Return x = tt
one_fine Turn x = tt

two_fine : (i : Instr) (x y : ℤ) → IsFine Any (made_of_two i x y)
two_fine (Literal value) x y = tt
two_fine (Global word) x y = tt
two_fine (Local word) x y = tt
two_fine (Field offset) x y = tt
two_fine (Index count element_words) x y = if_fine Any (int_lt y (pos 0) || int_le (pos count) y) (Traps 2) _ (omega arith, omega arith) (address_fine (x +ℤ y *ℤ pos element_words))
two_fine Get x y = tt
two_fine Put x y = tt
two_fine Add x y = integer_fine (x +ℤ y)
two_fine Subtract x y = integer_fine (x -ℤ y)
two_fine Multiply x y = integer_fine (x *ℤ y)
two_fine Divide x y = if_fine Any (int_le y (pos 0)) (Traps 3) _ (omega arith, omega arith) tt
two_fine Modulo x y = if_fine Any (int_le y (pos 0)) (Traps 3) _ (omega arith, omega arith) tt
two_fine Negate x y = tt
two_fine Not x y = tt
two_fine Equal x y = tt
two_fine NotEqual x y = tt
two_fine Less x y = tt
two_fine LessOrEqual x y = tt
two_fine Greater x y = tt
two_fine GreaterOrEqual x y = tt
two_fine (Jump target) x y = tt
two_fine (JumpIfFalse target) x y = tt
two_fine (AndJump target) x y = tt
two_fine (OrJump target) x y = tt
two_fine (Call entry parameters) x y = tt
two_fine (Frame words) x y = tt
two_fine Return x y = tt
two_fine Turn x y = tt

-- ---- block and stack

popped_fine : (stack : List ℤ) → IsFine Any (popped stack)
popped_fine stack = if_fine Any (nat_lt 0 (length stack)) (Gives (slice_index_or stack (length stack - 1) (pos 0), take (length stack - 1) stack)) Sticks tt tt

pushed_fine : (reserve : ℕ) (stack : List ℤ) (w : ℤ) → IsFine Any (pushed reserve stack w)
pushed_fine reserve stack w = if_fine Any (nat_lt (length stack) reserve) (Gives (stack ++ w ∷ [])) Sticks tt tt

of_one_fine : (make : ℤ → Made ℤ) (stack : List ℤ) → ((x : ℤ) → IsFine Any (make x)) → IsFine Any (of_one make stack)
of_one_fine make stack h =
    then_fine Any Any (popped stack) (λ x. make x.0 >>= (λ made. Gives (x.1 ++ made ∷ []))) (popped_fine stack)
    (λ x k. then_fine Any Any (make x.0) (λ made. Gives (x.1 ++ made ∷ [])) (h x.0) (λ made m. tt))

of_two_fine : (make : ℤ → ℤ → Made ℤ) (stack : List ℤ) → ((x y : ℤ) → IsFine Any (make x y)) → IsFine Any (of_two make stack)
of_two_fine make stack h =
    then_fine Any Any (popped stack) (λ y. popped y.1 >>= (λ x. make x.0 y.0 >>= (λ made. Gives (x.1 ++ made ∷ [])))) (popped_fine stack)
    (λ y k. then_fine Any Any (popped y.1) (λ x. make x.0 y.0 >>= (λ made. Gives (x.1 ++ made ∷ []))) (popped_fine y.1)
    (λ x l. then_fine Any Any (make x.0 y.0) (λ made. Gives (x.1 ++ made ∷ [])) (h x.0 y.0) (λ made m. tt)))

word_fine : (block stack : List ℤ) (a : ℤ) → IsFine Any (word_at block stack a)
word_fine block stack (pos a) =
    if_fine Any (nat_lt a (length block)) (Gives (slice_index_or block a (pos 0))) _ tt
    (if_fine Any (nat_lt (a - length block) (length stack)) (Gives (slice_index_or stack (a - length block) (pos 0))) Sticks tt tt)
word_fine block stack (negsuc n) = tt

loaded_fine : (block stack : List ℤ) → IsFine Any (loaded block stack)
loaded_fine block stack =
    then_fine Any Any (popped stack) (λ x. word_at block x.1 x.0 >>= (λ w. Gives (x.1 ++ w ∷ []))) (popped_fine stack)
    (λ x k. then_fine Any Any (word_at block x.1 x.0) (λ w. Gives (x.1 ++ w ∷ [])) (word_fine block x.1 x.0) (λ w m. tt))

-- a block of as many words
abbrev IsLong : List ℤ → List ℤ × List ℤ → Type 0
IsLong block made = length made.0 ≡ length block

put_fine : (block stack : List ℤ) (a w : ℤ) → IsFine (IsLong block) (put_at block stack a w)
put_fine block stack (pos a) w =
    if_fine (IsLong block) (nat_lt a (length block)) (Gives (slice_set block a w, stack)) _ (length-set block a w)
    (if_fine (IsLong block) (nat_lt (a - length block) (length stack)) (Gives (block, slice_set stack (a - length block) w)) Sticks refl tt)
put_fine block stack (negsuc n) w = tt

stored_fine : (block stack : List ℤ) → IsFine (IsLong block) (stored block stack)
stored_fine block stack =
    then_fine Any (IsLong block) (popped stack) (λ y. popped y.1 >>= (λ x. put_at block x.1 x.0 y.0)) (popped_fine stack)
    (λ y k. then_fine Any (IsLong block) (popped y.1) (λ x. put_at block x.1 x.0 y.0) (popped_fine y.1) (λ x l. put_fine block x.1 x.0 y.0))

cleared_fine : (reserve count : ℕ) (stack : List ℤ) → IsFine Any (cleared reserve count stack)
cleared_fine reserve count stack = if_fine Any (nat_le (length stack + count) reserve) (Gives (stack ++ replicate count (pos 0))) Sticks tt tt

-- ---- instructions

stack_fine : (reserve fp : ℕ) (i : Instr) (block stack : List ℤ) → IsFine Any (stack_effect reserve fp i block stack)
stack_fine reserve fp (Literal value) block stack = pushed_fine reserve stack value
stack_fine reserve fp (Global word) block stack = pushed_fine reserve stack (pos word)
stack_fine reserve fp (Local word) block stack = then_fine Any Any (address (pos (length block + fp + word))) (pushed reserve stack) (address_fine (pos (length block + fp + word))) (λ a k. pushed_fine reserve stack a)
stack_fine reserve fp (Field offset) block stack = of_one_fine (made_of_one (Field offset)) stack (one_fine (Field offset))
stack_fine reserve fp (Index count element_words) block stack = of_two_fine (made_of_two (Index count element_words)) stack (two_fine (Index count element_words))
stack_fine reserve fp Get block stack = loaded_fine block stack
stack_fine reserve fp Put block stack = tt
stack_fine reserve fp Add block stack = of_two_fine (made_of_two Add) stack (two_fine Add)
stack_fine reserve fp Subtract block stack = of_two_fine (made_of_two Subtract) stack (two_fine Subtract)
stack_fine reserve fp Multiply block stack = of_two_fine (made_of_two Multiply) stack (two_fine Multiply)
stack_fine reserve fp Divide block stack = of_two_fine (made_of_two Divide) stack (two_fine Divide)
stack_fine reserve fp Modulo block stack = of_two_fine (made_of_two Modulo) stack (two_fine Modulo)
stack_fine reserve fp Negate block stack = of_one_fine (made_of_one Negate) stack (one_fine Negate)
stack_fine reserve fp Not block stack = of_one_fine (made_of_one Not) stack (one_fine Not)
stack_fine reserve fp Equal block stack = of_two_fine (made_of_two Equal) stack (two_fine Equal)
stack_fine reserve fp NotEqual block stack = of_two_fine (made_of_two NotEqual) stack (two_fine NotEqual)
stack_fine reserve fp Less block stack = of_two_fine (made_of_two Less) stack (two_fine Less)
stack_fine reserve fp LessOrEqual block stack = of_two_fine (made_of_two LessOrEqual) stack (two_fine LessOrEqual)
stack_fine reserve fp Greater block stack = of_two_fine (made_of_two Greater) stack (two_fine Greater)
stack_fine reserve fp GreaterOrEqual block stack = of_two_fine (made_of_two GreaterOrEqual) stack (two_fine GreaterOrEqual)
stack_fine reserve fp (Jump target) block stack = tt
stack_fine reserve fp (JumpIfFalse target) block stack = tt
stack_fine reserve fp (AndJump target) block stack = tt
stack_fine reserve fp (OrJump target) block stack = tt
stack_fine reserve fp (Call entry parameters) block stack = tt
stack_fine reserve fp (Frame words) block stack = cleared_fine reserve words stack
stack_fine reserve fp Return block stack = tt
stack_fine reserve fp Turn block stack = tt

-- the block as it is
beside_fine : (block : List ℤ) (m : Made (List ℤ)) → IsFine Any m → IsFine (IsLong block) (m >>= (λ after. Gives (block, after)))
beside_fine block m h = then_fine Any (IsLong block) m (λ after. Gives (block, after)) h (λ after k. refl)

effect_fine : (reserve fp : ℕ) (i : Instr) (block stack : List ℤ) → IsFine (IsLong block) (effect reserve fp i block stack)
effect_fine reserve fp (Literal value) block stack = beside_fine block (stack_effect reserve fp (Literal value) block stack) (stack_fine reserve fp (Literal value) block stack)
effect_fine reserve fp (Global word) block stack = beside_fine block (stack_effect reserve fp (Global word) block stack) (stack_fine reserve fp (Global word) block stack)
effect_fine reserve fp (Local word) block stack = beside_fine block (stack_effect reserve fp (Local word) block stack) (stack_fine reserve fp (Local word) block stack)
effect_fine reserve fp (Field offset) block stack = beside_fine block (stack_effect reserve fp (Field offset) block stack) (stack_fine reserve fp (Field offset) block stack)
effect_fine reserve fp (Index count element_words) block stack = beside_fine block (stack_effect reserve fp (Index count element_words) block stack) (stack_fine reserve fp (Index count element_words) block stack)
effect_fine reserve fp Get block stack = beside_fine block (stack_effect reserve fp Get block stack) (stack_fine reserve fp Get block stack)
effect_fine reserve fp Put block stack = stored_fine block stack
effect_fine reserve fp Add block stack = beside_fine block (stack_effect reserve fp Add block stack) (stack_fine reserve fp Add block stack)
effect_fine reserve fp Subtract block stack = beside_fine block (stack_effect reserve fp Subtract block stack) (stack_fine reserve fp Subtract block stack)
effect_fine reserve fp Multiply block stack = beside_fine block (stack_effect reserve fp Multiply block stack) (stack_fine reserve fp Multiply block stack)
effect_fine reserve fp Divide block stack = beside_fine block (stack_effect reserve fp Divide block stack) (stack_fine reserve fp Divide block stack)
effect_fine reserve fp Modulo block stack = beside_fine block (stack_effect reserve fp Modulo block stack) (stack_fine reserve fp Modulo block stack)
effect_fine reserve fp Negate block stack = beside_fine block (stack_effect reserve fp Negate block stack) (stack_fine reserve fp Negate block stack)
effect_fine reserve fp Not block stack = beside_fine block (stack_effect reserve fp Not block stack) (stack_fine reserve fp Not block stack)
effect_fine reserve fp Equal block stack = beside_fine block (stack_effect reserve fp Equal block stack) (stack_fine reserve fp Equal block stack)
effect_fine reserve fp NotEqual block stack = beside_fine block (stack_effect reserve fp NotEqual block stack) (stack_fine reserve fp NotEqual block stack)
effect_fine reserve fp Less block stack = beside_fine block (stack_effect reserve fp Less block stack) (stack_fine reserve fp Less block stack)
effect_fine reserve fp LessOrEqual block stack = beside_fine block (stack_effect reserve fp LessOrEqual block stack) (stack_fine reserve fp LessOrEqual block stack)
effect_fine reserve fp Greater block stack = beside_fine block (stack_effect reserve fp Greater block stack) (stack_fine reserve fp Greater block stack)
effect_fine reserve fp GreaterOrEqual block stack = beside_fine block (stack_effect reserve fp GreaterOrEqual block stack) (stack_fine reserve fp GreaterOrEqual block stack)
effect_fine reserve fp (Jump target) block stack = beside_fine block (stack_effect reserve fp (Jump target) block stack) (stack_fine reserve fp (Jump target) block stack)
effect_fine reserve fp (JumpIfFalse target) block stack = beside_fine block (stack_effect reserve fp (JumpIfFalse target) block stack) (stack_fine reserve fp (JumpIfFalse target) block stack)
effect_fine reserve fp (AndJump target) block stack = beside_fine block (stack_effect reserve fp (AndJump target) block stack) (stack_fine reserve fp (AndJump target) block stack)
effect_fine reserve fp (OrJump target) block stack = beside_fine block (stack_effect reserve fp (OrJump target) block stack) (stack_fine reserve fp (OrJump target) block stack)
effect_fine reserve fp (Call entry parameters) block stack = beside_fine block (stack_effect reserve fp (Call entry parameters) block stack) (stack_fine reserve fp (Call entry parameters) block stack)
effect_fine reserve fp (Frame words) block stack = beside_fine block (stack_effect reserve fp (Frame words) block stack) (stack_fine reserve fp (Frame words) block stack)
effect_fine reserve fp Return block stack = beside_fine block (stack_effect reserve fp Return block stack) (stack_fine reserve fp Return block stack)
effect_fine reserve fp Turn block stack = beside_fine block (stack_effect reserve fp Turn block stack) (stack_fine reserve fp Turn block stack)

-- ---- the machine

abbrev IsKept : List ℤ → Outcome → Type 0
IsKept block (Unfinished c) = length c.block ≡ length block
IsKept block (Returned left stack) = length left ≡ length block
IsKept block (Trapped k) = IsTrap k
IsKept block Stuck = Unit {0}

made_kept : {A : Type 0} (block : List ℤ) (P : A → Type 0) (m : Made A) (go : A → Outcome) → IsFine P m → ((a : A) → P a → IsKept block (go a)) → IsKept block (made_then m go)
made_kept block P (Gives a) go h g = g a h
made_kept block P (Traps k) go h g = h
made_kept block P Sticks go h g = tt

if_kept : (block : List ℤ) (b : Bool) (x y : Outcome) → IsKept block x → IsKept block y → IsKept block (if b then x else y)
if_kept block true x y h g = h
if_kept block false x y h g = g

turn_kept : (block : List ℤ) (turns : ℕ) (go : ℕ → Outcome) → ((left : ℕ) → IsKept block (go left)) → IsKept block (taking_turn turns go)
turn_kept block zero go h = (omega arith, omega arith)
turn_kept block (suc left) go h = h left

back_kept : (c : Configuration) (saved : List Saved) (stack : List ℤ) → IsKept c.block (back_to saved stack c)
back_kept c [] stack = refl
back_kept c (s ∷ saved) stack = refl

computed_kept : (reserve : ℕ) (i : Instr) (c : Configuration) → IsKept c.block (computed reserve i c)
computed_kept reserve i c = made_kept c.block (IsLong c.block) (effect reserve c.body.fp i c.block c.body.stack) (goes_on c) (effect_fine reserve c.body.fp i c.block c.body.stack) (λ made h. h)

act_kept : (reserve : ℕ) (i : Instr) (c : Configuration) → IsKept c.block (act reserve i c)
act_kept reserve (Literal value) c = computed_kept reserve (Literal value) c
act_kept reserve (Global word) c = computed_kept reserve (Global word) c
act_kept reserve (Local word) c = computed_kept reserve (Local word) c
act_kept reserve (Field offset) c = computed_kept reserve (Field offset) c
act_kept reserve (Index count element_words) c = computed_kept reserve (Index count element_words) c
act_kept reserve Get c = computed_kept reserve Get c
act_kept reserve Put c = computed_kept reserve Put c
act_kept reserve Add c = computed_kept reserve Add c
act_kept reserve Subtract c = computed_kept reserve Subtract c
act_kept reserve Multiply c = computed_kept reserve Multiply c
act_kept reserve Divide c = computed_kept reserve Divide c
act_kept reserve Modulo c = computed_kept reserve Modulo c
act_kept reserve Negate c = computed_kept reserve Negate c
act_kept reserve Not c = computed_kept reserve Not c
act_kept reserve Equal c = computed_kept reserve Equal c
act_kept reserve NotEqual c = computed_kept reserve NotEqual c
act_kept reserve Less c = computed_kept reserve Less c
act_kept reserve LessOrEqual c = computed_kept reserve LessOrEqual c
act_kept reserve Greater c = computed_kept reserve Greater c
act_kept reserve GreaterOrEqual c = computed_kept reserve GreaterOrEqual c
act_kept reserve (Jump target) c = refl
act_kept reserve (JumpIfFalse target) c = made_kept c.block Any (popped c.body.stack) _ (popped_fine c.body.stack) (λ x h. if_kept c.block (int_eq x.0 (pos 0)) _ _ refl refl)
act_kept reserve (AndJump target) c = made_kept c.block Any (popped c.body.stack) _ (popped_fine c.body.stack) (λ x h. if_kept c.block (int_eq x.0 (pos 0)) _ _ refl refl)
act_kept reserve (OrJump target) c = made_kept c.block Any (popped c.body.stack) _ (popped_fine c.body.stack) (λ x h. if_kept c.block (int_eq x.0 (pos 1)) _ _ refl refl)
act_kept reserve (Call entry parameters) c = if_kept c.block (nat_le 63 (length c.body.saved)) (Trapped 4) _ (omega arith, omega arith) (turn_kept c.block c.body.turns _ (λ left. if_kept c.block (nat_le parameters (length c.body.stack)) _ Stuck refl tt))
act_kept reserve (Frame words) c = computed_kept reserve (Frame words) c
act_kept reserve Return c = if_kept c.block (nat_lt (length c.body.stack) c.body.fp) Stuck _ tt (back_kept c c.body.saved _)
act_kept reserve Turn c = turn_kept c.block c.body.turns _ (λ left. refl)

at_kept : (reserve : ℕ) (o : Option Instr) (c : Configuration) → IsKept c.block (act_at reserve o c)
at_kept reserve None c = tt
at_kept reserve (Some i) c = act_kept reserve i c

shown_keeps : (run : Run) (block : List ℤ) (o : Outcome) → IsKept block o →
    (length (shown run block o).block ≡ length block) × ((shown run block o).run.reserve ≡ run.reserve) × ((k : ℕ) → (shown run block o).turn ≡ Answer.Trapped k → IsTrap k)
shown_keeps run block (Unfinished c) h = (h, refl, λ k e. absurd (cc))
shown_keeps run block (Returned left stack) h = (h, refl, λ k e. absurd (cc))
shown_keeps run block (Trapped j) h = (refl, refl, λ k e. let same : j ≡ k = cc in (omega (arith, h.0, same), omega (arith, h.1, same)))
shown_keeps run block Stuck h = (refl, refl, λ k e. absurd (cc))

step_kept : (code : List Instr) (run : Run) (block : List ℤ) → IsKept block (if run.is_over then Stuck else turn code run.reserve (at run block))
step_kept code run block = if_kept block run.is_over Stuck (turn code run.reserve (at run block)) tt (at_kept run.reserve (slice_get code run.body.pc) (at run block))

pub steps_keep_sizes : StepsKeepSizes
steps_keep_sizes code run block =
    let kept = shown_keeps run block (if run.is_over then Stuck else turn code run.reserve (at run block)) (step_kept code run block) in
    record { long = kept.0; reserve = kept.1; traps = kept.2 }
