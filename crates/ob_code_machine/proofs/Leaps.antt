-- Two instructions that are made as one move.
use Rattle.std.proofs.Common.{◌≡◌, ℕ, suc, ◌+◌, ◌-◌, ◌<◌, ◌≤◌, ltb, leb, Bool, true, false, cond, List, [], ◌∷◌, ◌++◌, length, take, get_or, pos, ℤ, Some, None, refl, ap, sym, ◌∙◌, subst, arith}
use Rattle.std.specs.Prelude.{MatchBool, slice_get, if◌then◌else◌}
use Rattle.std.specs.Ordering.{int_eq}
use Rattle.std.proofs.lemmas.Grind.{common_steps}
use Rattle.std.proofs.lemmas.Bool.Decides.{nat_tests}
use Rattle.std.proofs.lemmas.List.{get_or_append_left, length-append}
use Rattle.std.proofs.lemmas.Option.{gets}
use Rattle.std.proofs.Math.Seq.{get_or-append_seam}
use Rattle.ob_code_words.specs.declared.instr.Instr.{Instr}
use Rattle.ob_code_words.specs.declared.instr.Instr.TheVariants.{Literal, Global, Local, Field, Index, Get, Put, Add, Subtract, Multiply, Divide, Modulo, Negate, Not, Equal, NotEqual, Less, LessOrEqual, Greater, GreaterOrEqual, Jump, JumpIfFalse, AndJump, OrJump, Call, Frame, Return, Turn}
use Rattle.ob_code_words.specs.Words.{Made, Gives, Traps, Sticks, ◌>>=◌, made_of_one, made_of_two}
use Rattle.ob_code_words.specs.Effect.{effect, popped, pushed, put_at, of_two, loaded, stored, word_at}
use Rattle.ob_code_machine.specs.Machine.{Configuration, Unfinished, Stuck, act_at, turn, taking_turn, made_then, goes_on, goes_to, act, carried, computed}
use Rattle.ob_code_machine.specs.Body.{Run, Step, after, at, run_view, shown, step_of, steps}
use Rattle.ob_code_machine.specs.Leaps.{AreMade, Assigns, Goes, IsComputed, IsLeap, IsMadeWith, IsOperator, Lead, MakesBoth, Puts}
use Rattle.ob_code_words.specs.StackWords.{StackWords, with_words}
use Rattle.ob_code_machine.specs.declared.saved.Saved.{Saved}
use Rattle.ob_code_machine.specs.declared.turn.BodyTurn.{BodyTurn}
use Rattle.ob_code_machine.specs.declared.turn.BodyTurn.TheVariants as Answer
use Rattle.ob_code_words.proofs.Tops.{TwoFound, popped_found, of_one_made, of_two_made, stored_found}
use Rattle.ob_code_machine.proofs.Goes.{behind_some, leaps_more, leaps_one}

-- behind two instructions, with this stack
abbrev pub behind : Configuration → List ℤ → Configuration
behind c stack = record { block = c.block; body = record c.body { pc = c.body.pc + 2; stack = stack } }

-- a word that was just put on top
seam : (s : List ℤ) (a : ℤ) → slice_get (s ++ a ∷ []) (length s) ≡ Some a
seam [] a = refl
seam (x ∷ s) a = seam s a

high : (s : List ℤ) (a : ℤ) → length (s ++ a ∷ []) - 1 ≡ length s
high s a = omega (arith, length-append s (a ∷ []))

top_pushed : (s : List ℤ) (a : ℤ) → Some a ≡ slice_get (s ++ a ∷ []) (length (s ++ a ∷ []) - 1)
top_pushed s a = sym (seam s a) ∙ ap (slice_get (s ++ a ∷ [])) (sym (high s a))

below_pushed : (s : List ℤ) (a : ℤ) → take (length (s ++ a ∷ []) - 1) (s ++ a ∷ []) ≡ s
below_pushed s a = grind (arith, common_steps)

popped_pushed : (s : List ℤ) (a : ℤ) → popped (s ++ a ∷ []) ≡ Gives (a, s)
popped_pushed s a = popped_found (s ++ a ∷ []) a (top_pushed s a) ∙ ap (λ l. Gives (a, l)) (below_pushed s a)

loaded_pushed : (block s : List ℤ) (a w : ℤ) → Gives w ≡ word_at block s a → loaded block (s ++ a ∷ []) ≡ Gives (s ++ w ∷ [])
loaded_pushed block s a w h =
    ap (λ p. p >>= (λ (x : ℤ × List ℤ). word_at block x.1 x.0 >>= (λ w. Gives (x.1 ++ w ∷ [])))) (popped_pushed s a)
    ∙ ap (λ m. m >>= (λ w. Gives (s ++ w ∷ []))) (sym h)

two_on : (n : ℕ) → n + 1 + 1 ≡ n + 2
two_on n = omega arith

-- an instruction that put an address on top, and GET
got : (reserve : ℕ) (c : Configuration) (left : List ℤ) (a w : ℤ) → Gives w ≡ word_at c.block left a → carried (goes_on c (c.block, left ++ a ∷ [])) (act reserve Get) ≡ Unfinished (behind c (left ++ w ∷ []))
got reserve c left a w h =
    ap (λ m. made_then (m >>= (λ after. Gives (c.block, after))) (goes_on (record { block = c.block; body = record c.body { pc = c.body.pc + 1; stack = left ++ a ∷ [] } })))
    (loaded_pushed c.block left a w h)
    ∙ ap (λ p. Unfinished (record { block = c.block; body = record c.body { pc = p; stack = left ++ w ∷ [] } })) (two_on c.body.pc)

-- IDX and GET
pub element_got : (reserve : ℕ) (c : Configuration) (count element_words : ℕ) (x y a w : ℤ) → TwoFound c.body.stack (x, y) → Gives a ≡ made_of_two (Index count element_words) x y
    → Gives w ≡ word_at c.block (take (length c.body.stack - 2) c.body.stack) a
    → carried (computed reserve (Index count element_words) c) (act reserve Get) ≡ Unfinished (behind c (take (length c.body.stack - 2) c.body.stack ++ w ∷ []))
element_got reserve c count element_words x y a w found made word =
    ap (λ m. carried (made_then (m >>= (λ after. Gives (c.block, after))) (goes_on c)) (act reserve Get)) (of_two_made (made_of_two (Index count element_words)) c.body.stack x y (Gives a) found made)
    ∙ got reserve c (take (length c.body.stack - 2) c.body.stack) a w word

-- FLD and GET
pub field_got : (reserve : ℕ) (c : Configuration) (offset : ℕ) (x a w : ℤ) → Some x ≡ slice_get c.body.stack (length c.body.stack - 1) → Gives a ≡ made_of_one (Field offset) x
    → Gives w ≡ word_at c.block (take (length c.body.stack - 1) c.body.stack) a
    → carried (computed reserve (Field offset) c) (act reserve Get) ≡ Unfinished (behind c (take (length c.body.stack - 1) c.body.stack ++ w ∷ []))
field_got reserve c offset x a w found made word =
    ap (λ m. carried (made_then (m >>= (λ after. Gives (c.block, after))) (goes_on c)) (act reserve Get)) (of_one_made (made_of_one (Field offset)) c.body.stack x (Gives a) found made)
    ∙ got reserve c (take (length c.body.stack - 1) c.body.stack) a w word

-- ---- operators

-- an instruction that makes a word of two is no jump, and takes them from the stack
of_two_computed : (reserve : ℕ) (i : Instr) (c : Configuration) (x y z : ℤ) → Gives z ≡ made_of_two i x y → act reserve i c ≡ made_then (of_two (made_of_two i) c.body.stack >>= (λ after. Gives (c.block, after))) (goes_on c)
of_two_computed reserve (Literal value) c x y z h = absurd cc
of_two_computed reserve (Global word) c x y z h = absurd cc
of_two_computed reserve (Local word) c x y z h = absurd cc
of_two_computed reserve (Field offset) c x y z h = absurd cc
of_two_computed reserve (Index count element_words) c x y z h = refl
of_two_computed reserve Get c x y z h = absurd cc
of_two_computed reserve Put c x y z h = absurd cc
of_two_computed reserve Add c x y z h = refl
of_two_computed reserve Subtract c x y z h = refl
of_two_computed reserve Multiply c x y z h = refl
of_two_computed reserve Divide c x y z h = refl
of_two_computed reserve Modulo c x y z h = refl
of_two_computed reserve Negate c x y z h = absurd cc
of_two_computed reserve Not c x y z h = absurd cc
of_two_computed reserve Equal c x y z h = refl
of_two_computed reserve NotEqual c x y z h = refl
of_two_computed reserve Less c x y z h = refl
of_two_computed reserve LessOrEqual c x y z h = refl
of_two_computed reserve Greater c x y z h = refl
of_two_computed reserve GreaterOrEqual c x y z h = refl
of_two_computed reserve (Jump target) c x y z h = absurd cc
of_two_computed reserve (JumpIfFalse target) c x y z h = absurd cc
of_two_computed reserve (AndJump target) c x y z h = absurd cc
of_two_computed reserve (OrJump target) c x y z h = absurd cc
of_two_computed reserve (Call entry parameters) c x y z h = absurd cc
of_two_computed reserve (Frame words) c x y z h = absurd cc
of_two_computed reserve Return c x y z h = absurd cc
of_two_computed reserve Turn c x y z h = absurd cc

-- it goes on with what it makes
of_two_goes_on : (reserve : ℕ) (i : Instr) (c : Configuration) (x y z : ℤ) → TwoFound c.body.stack (x, y) → Gives z ≡ made_of_two i x y
    → act reserve i c ≡ goes_on c (c.block, take (length c.body.stack - 2) c.body.stack ++ z ∷ [])
of_two_goes_on reserve i c x y z found made =
    of_two_computed reserve i c x y z made
    ∙ ap (λ m. made_then (m >>= (λ after. Gives (c.block, after))) (goes_on c)) (of_two_made (made_of_two i) c.body.stack x y (Gives z) found made)

two_pushed : (s : List ℤ) (x v : ℤ) → Some x ≡ slice_get s (length s - 1) → TwoFound (s ++ v ∷ []) (x, v)
two_pushed s x v h =
    let on = s ++ v ∷ [] in
    let long : length on ≡ length s + 1 = length-append s (v ∷ []) in
    let within : 0 < length s = grind (arith, gets) in
    let enough : leb 2 (length on) ≡ true = grind (arith, nat_tests) in
    let word : get_or s (length s - 1) (pos 0) ≡ x = grind (arith, gets) in
    let under : length on - 2 ≡ length s - 1 = omega arith in
    let low : get_or on (length on - 2) (pos 0) ≡ x = ap (λ i. get_or on i (pos 0)) under ∙ get_or_append_left s (v ∷ []) (pos 0) (length s - 1) (omega arith) ∙ word in
    let top : get_or on (length on - 1) (pos 0) ≡ v = ap (λ i. get_or on i (pos 0)) (high s v) ∙ get_or-append_seam s v [] (pos 0) in
    sym (ap (λ b. cond b (Some (get_or on (length on - 2) (pos 0), get_or on (length on - 1) (pos 0))) None) enough ∙ ap (λ x. Some (x, get_or on (length on - 1) (pos 0))) low ∙ ap (λ y. Some (x, y)) top)

below_two : (s : List ℤ) (x v : ℤ) → Some x ≡ slice_get s (length s - 1) → take (length (s ++ v ∷ []) - 2) (s ++ v ∷ []) ≡ take (length s - 1) s
below_two s x v h = grind (arith, common_steps)

has_room : (reserve : ℕ) (s : List ℤ) (v : ℤ) → length s < reserve → pushed reserve s v ≡ Gives (s ++ v ∷ [])
has_room reserve s v h = let t : ltb (length s) reserve ≡ true = grind (arith, nat_tests) in ap (λ b. cond b (Gives (s ++ v ∷ [])) Sticks) t

-- LIT and an operator
pub operand_taken : (reserve : ℕ) (c : Configuration) (second : Instr) (x v z : ℤ) → length c.body.stack < reserve → Some x ≡ slice_get c.body.stack (length c.body.stack - 1) → Gives z ≡ made_of_two second x v
    → carried (computed reserve (Literal v) c) (act reserve second) ≡ Unfinished (behind c (take (length c.body.stack - 1) c.body.stack ++ z ∷ []))
operand_taken reserve c second x v z room found made =
    let s = c.body.stack in
    let pushed_on : Configuration = record { block = c.block; body = record c.body { pc = c.body.pc + 1; stack = s ++ v ∷ [] } } in
    ap (λ m. carried (made_then (m >>= (λ after. Gives (c.block, after))) (goes_on c)) (act reserve second)) (has_room reserve s v room)
    ∙ of_two_goes_on reserve second pushed_on x v z (two_pushed s x v found) made
    ∙ ap (λ l. Unfinished (record { block = c.block; body = record c.body { pc = c.body.pc + 1 + 1; stack = l ++ z ∷ [] } })) (below_two s x v found)
    ∙ ap (λ p. Unfinished (record { block = c.block; body = record c.body { pc = p; stack = take (length s - 1) s ++ z ∷ [] } })) (two_on c.body.pc)

-- JF behind a word, by whether it is 0
jumped : (c : Configuration) (target : ℕ) (left : List ℤ) (b : Bool)
    → (if b then goes_to c target left else goes_to c (c.body.pc + 1 + 1) left) ≡ Unfinished (record { block = c.block; body = record c.body { pc = if b then target else c.body.pc + 2; stack = left } })
jumped c target left true = refl
jumped c target left false = ap (λ p. goes_to c p left) (two_on c.body.pc)

-- a comparison and JF
pub tested : (reserve : ℕ) (c : Configuration) (first : Instr) (target : ℕ) (x y z : ℤ) → TwoFound c.body.stack (x, y) → Gives z ≡ made_of_two first x y
    → carried (act reserve first c) (act reserve (JumpIfFalse target)) ≡ Unfinished (record { block = c.block; body = record c.body { pc = if int_eq z (pos 0) then target else c.body.pc + 2; stack = take (length c.body.stack - 2) c.body.stack } })
tested reserve c first target x y z found made =
    let left = take (length c.body.stack - 2) c.body.stack in
    let on : Configuration = record { block = c.block; body = record c.body { pc = c.body.pc + 1; stack = left ++ z ∷ [] } } in
    ap (λ o. carried o (act reserve (JumpIfFalse target))) (of_two_goes_on reserve first c x y z found made)
    ∙ ap (λ p. made_then p (λ (x : ℤ × List ℤ). if int_eq x.0 (pos 0) then goes_to on target x.1 else goes_to on (on.body.pc + 1) x.1)) (popped_pushed left z)
    ∙ jumped c target left (int_eq z (pos 0))

-- ---- the body behind both

-- its parts, where the stack is another one
pub lead_of : (old : Run) (pc fp : ℕ) (st st' : StackWords) (saved : List Saved) (turns : ℕ) (is_over : Bool) (first second : Instr) (block : List ℤ) (next : ℕ) (stack : List ℤ)
    → run_view pc fp st saved turns is_over ≡ old → st' ≡ with_words st stack
    → carried (act st.reserve first (at (run_view pc fp st saved turns is_over) block)) (act st.reserve second) ≡ Unfinished (record { block = block; body = record { pc = next; stack = stack; fp = fp; saved = saved; turns = turns } })
    → Lead first second old (run_view next fp st' saved turns is_over) block
lead_of old pc fp st st' saved turns is_over first second block next stack is_run is_stack both =
    subst (λ (r : Run). Lead first second r (run_view next fp st' saved turns is_over) block) is_run
    (subst (λ (it : StackWords). Lead first second (run_view pc fp st saved turns is_over) (run_view next fp it saved turns is_over) block) (sym is_stack) (both, refl))

-- the second of two steps
second_step : (code : List Instr) (run new : Run) (from block : List ℤ) (second : Instr) → run.is_over ≡ false → slice_get code run.body.pc ≡ Some second
    → act run.reserve second (at run from) ≡ Unfinished (at new block) → steps code 1 run from ≡ record { turn = Answer.On; run = record run { body = new.body }; block = block }
second_step code run new from block second works there made =
    let s : step_of code run from ≡ shown run from (Unfinished (at new block)) =
    ap (λ b. shown run from (if b then Stuck else turn code run.reserve (at run from))) works
    ∙ ap (λ i. shown run from (act_at run.reserve i (at run from))) there
    ∙ ap (shown run from) made in
    ap (λ (s : Step). after s.turn s (steps code 0 s.run s.block)) s

-- both, behind what the first one made
two_made : (code : List Instr) (old new : Run) (block : List ℤ) (second : Instr) (m : Made (List ℤ × List ℤ)) → old.is_over ≡ false → slice_get code (old.body.pc + 1) ≡ Some second
    → carried (made_then m (goes_on (at old block))) (act old.reserve second) ≡ Unfinished (at new block) → new ≡ record old { body = new.body }
    → after (shown old block (made_then m (goes_on (at old block)))).turn (shown old block (made_then m (goes_on (at old block))))
    (steps code 1 (shown old block (made_then m (goes_on (at old block)))).run (shown old block (made_then m (goes_on (at old block)))).block)
    ≡ record { turn = Answer.On; run = new; block = block }
two_made code old new block second (Gives left) works there both same =
    second_step code (record old { body = record old.body { pc = old.body.pc + 1; stack = left.1 } }) new left.0 block second works there both
    ∙ ap (λ (r : Run). record { turn = Answer.On; run = r; block = block }) (sym same)
two_made code old new block second (Traps k) works there both same = absurd cc
two_made code old new block second Sticks works there both same = absurd cc

both_made : (code : List Instr) (old new : Run) (block : List ℤ) (first second : Instr) → IsComputed first → old.is_over ≡ false
    → slice_get code old.body.pc ≡ Some first → slice_get code (old.body.pc + 1) ≡ Some second → Lead first second old new block → AreMade code old new block
both_made code old new block first second computes works here there lead =
    let c = at old block in
    let s : step_of code old block ≡ shown old block (computed old.reserve first c) =
    ap (λ b. shown old block (if b then Stuck else turn code old.reserve c)) works
    ∙ ap (λ i. shown old block (act_at old.reserve i c)) here
    ∙ ap (shown old block) (computes old.reserve c) in
    let both : carried (computed old.reserve first c) (act old.reserve second) ≡ Unfinished (at new block) = ap (λ o. carried o (act old.reserve second)) (sym (computes old.reserve c)) ∙ lead.0 in
    ap (λ (s : Step). after s.turn s (steps code 1 s.run s.block)) s
    ∙ two_made code old new block second (effect old.reserve old.body.fp first block old.body.stack) works there both lead.1

-- where both instructions were made, two steps were
pub made_if : (r : Bool) (code : List Instr) (old new : Run) (block : List ℤ) (first second : Instr) → IsComputed first → old.is_over ≡ false
    → slice_get code old.body.pc ≡ Some first → slice_get code (old.body.pc + 1) ≡ Some second → MakesBoth r first second old new block → MatchBool r (AreMade code old new block) (new ≡ old)
made_if true code old new block first second computes works here there h = both_made code old new block first second computes works here there h
made_if false code old new block first second computes works here there h = h

-- ---- a turn, and what is put

-- TURN takes one of the turns
pub turn_taken : (code : List Instr) (old : Run) (pc fp : ℕ) (st : StackWords) (saved : List Saved) (turns : ℕ) (is_over : Bool) (block : List ℤ)
    → run_view pc fp st saved turns is_over ≡ old → old.is_over ≡ false → slice_get code old.body.pc ≡ Some Turn → turns ≡ suc (turns - 1)
    → Goes code 1 old block (run_view (pc + 1) fp st saved (turns - 1) is_over) block
turn_taken code old pc fp st saved turns is_over block is_run works here some =
    let new = run_view (pc + 1) fp st saved (turns - 1) is_over in
    subst (λ (r : Run). Goes code 1 r block new block) is_run
    (second_step code (run_view pc fp st saved turns is_over) new block block Turn (ap (λ (r : Run). r.is_over) is_run ∙ works) (ap (λ (r : Run). slice_get code r.body.pc) is_run ∙ here)
    (ap (λ n. taking_turn n (λ left. Unfinished (record { block = block; body = record { pc = pc + 1; stack = st.words; fp = fp; saved = saved; turns = left } }))) some))

-- where a word was found on top there is one
pub some_top : (s : List ℤ) (x : ℤ) → Some x ≡ slice_get s (length s - 1) → 0 < length s
some_top s x h = grind (arith, gets)

-- the word on top of some of the lowest, and those below it
top_of_lowest : (s : List ℤ) (n : ℕ) → 1 ≤ n → n ≤ length s → Some (get_or s (n - 1) (pos 0)) ≡ slice_get (take n s) (length (take n s) - 1)
top_of_lowest s n some le = grind (arith, gets, common_steps)

below_top_of_lowest : (s : List ℤ) (n : ℕ) → 1 ≤ n → n ≤ length s → take (length (take n s) - 1) (take n s) ≡ take (n - 1) s
below_top_of_lowest s n some le = grind (arith, common_steps)

-- PUT, where a word was just put on top
put_next : (code : List Instr) (mid new : Run) (block block' l : List ℤ) (a z : ℤ) → mid.is_over ≡ false → slice_get code mid.body.pc ≡ Some Put
    → mid.body.stack ≡ l ++ z ∷ [] → Some a ≡ slice_get l (length l - 1) → put_at block (take (length l - 1) l) a z ≡ Gives (block', new.body.stack)
    → new ≡ record mid { body = record mid.body { pc = mid.body.pc + 1; stack = new.body.stack } } → Goes code 1 mid block new block'
put_next code mid new block block' l a z works there stack top put is =
    let c = at mid block in
    let made : act mid.reserve Put c ≡ Unfinished (at new block') =
    ap (λ s. made_then (stored block s) (goes_on c)) stack
    ∙ ap (λ m. made_then m (goes_on c)) (stored_found block (l ++ z ∷ []) a z (two_pushed l a z top) ∙ ap (λ s. put_at block s a z) (below_two l a z top) ∙ put)
    ∙ ap (λ (r : Run). Unfinished (at r block')) (sym is) in
    second_step code mid new block block' Put works there made
    ∙ ap (λ (r : Run). record { turn = Answer.On; run = record mid { body = r.body }; block = block' }) is
    ∙ ap (λ (r : Run). record { turn = Answer.On; run = r; block = block' }) (sym is)

-- a word that stands on top of some of the lowest is put at the address that they end with
puts_next : (code : List Instr) (old mid new : Run) (block block' : List ℤ) (height behind n : ℕ) (word : ℤ) → mid.is_over ≡ false → slice_get code mid.body.pc ≡ Some Put
    → mid.body.stack ≡ take n old.body.stack ++ word ∷ [] → n ≡ height + 1 → mid ≡ record old { body = record old.body { pc = mid.body.pc; stack = mid.body.stack } } → mid.body.pc + 1 ≡ old.body.pc + behind
    → Puts height behind word old block new block' → Goes code 1 mid block new block'
puts_next code old mid new block block' height behind n word works there stack is_n is_mid next p =
    let s = old.body.stack in
    let within = p.within in
    let low : n - 1 ≡ height = omega (arith, is_n) in
    let top = top_of_lowest s n (omega (arith, is_n)) (omega (arith, is_n, within)) in
    let rest = below_top_of_lowest s n (omega (arith, is_n)) (omega (arith, is_n, within)) in
    put_next code mid new block block' (take n s) (get_or s (n - 1) (pos 0)) word works there stack top
    (ap (λ l. put_at block l (get_or s (n - 1) (pos 0)) word) (rest ∙ ap (λ k. take k s) low) ∙ ap (λ k. put_at block (take height s) (get_or s k (pos 0)) word) low ∙ p.put)
    (p.body
    ∙ ap (λ k. record old { body = record old.body { pc = k; stack = new.body.stack } }) (sym next)
    ∙ ap (λ (r : Run). record r { body = record r.body { pc = mid.body.pc + 1; stack = new.body.stack } }) (sym is_mid))

-- an operator and PUT
pub assigned : (code : List Instr) (operator : Instr) (old new : Run) (block block' : List ℤ) → IsOperator operator → old.is_over ≡ false → slice_get code old.body.pc ≡ Some operator
    → slice_get code (old.body.pc + 1) ≡ Some Put → Assigns operator old block new block' → Goes code 2 old block new block'
assigned code operator old new block block' is_operator works here there a =
    let s = old.body.stack in
    let c = at old block in
    let mid : Run = record old { body = record old.body { pc = old.body.pc + 1; stack = take (length s - 2) s ++ a.word ∷ [] } } in
    let made : act old.reserve operator c ≡ Unfinished (at mid block) =
    is_operator old.reserve c
    ∙ ap (λ m. made_then (m >>= (λ after. Gives (block, after))) (goes_on c)) (of_two_made (made_of_two operator) s a.left a.right (Gives a.word) a.on_top a.made) in
    let high = a.high in
    let n : length s - 2 ≡ length s - 3 + 1 = omega (arith, high) in
    behind_some code 1 1 2 old block mid block (second_step code old mid block block operator works here made) refl
    ∙ puts_next code old mid new block block' (length s - 3) 2 (length s - 2) a.word works there refl n refl (two_on old.body.pc) a.puts

module _ (code : List Instr) (old : Run) (block : List ℤ) (value word : ℤ) (works : old.is_over ≡ false) (here : slice_get code old.body.pc ≡ Some (Literal value)) (m : IsMadeWith code old value word) where
  -- what the word is on top of
  abbrev made_on : Run
  made_on = record old { body = record old.body { pc = old.body.pc + 2; stack = take (length old.body.stack - 1) old.body.stack ++ word ∷ [] } }

  -- LIT and an operator
  pub literal_taken : Goes code 2 old block made_on block
  literal_taken = both_made code old made_on block (Literal value) m.second (λ reserve c. refl) works here m.there (operand_taken old.reserve (at old block) m.second m.under value word m.room m.top m.made, refl)

  -- and PUT
  pub literal_put : (new : Run) (block' : List ℤ) → slice_get code (old.body.pc + 2) ≡ Some Put → 2 ≤ length old.body.stack → Puts (length old.body.stack - 2) 3 word old block new block' → Goes code 3 old block new block'
  literal_put new block' there high p =
      let n : length old.body.stack - 1 ≡ length old.body.stack - 2 + 1 = omega (arith, high) in
      let next : old.body.pc + 2 + 1 ≡ old.body.pc + 3 = omega arith in
      behind_some code 2 1 3 old block made_on block literal_taken refl
      ∙ puts_next code old made_on new block block' (length old.body.stack - 2) 3 (length old.body.stack - 1) word works there refl n refl next p

-- where both instructions were made, that is a leap
pub leap_if : (r : Bool) (code : List Instr) (old new : Run) (block : List ℤ) (first second : Instr) → IsComputed first → old.is_over ≡ false
    → slice_get code old.body.pc ≡ Some first → slice_get code (old.body.pc + 1) ≡ Some second → MakesBoth r first second old new block → MatchBool r (IsLeap code Answer.On 2 old block new block) (new ≡ old)
leap_if true code old new block first second computes works here there h =
    leaps_more code 2 old block new block (omega arith) (omega arith) (both_made code old new block first second computes works here there h)
leap_if false code old new block first second computes works here there h = h

-- one by itself
pub by_itself : (code : List Instr) (old new : Run) (block : List ℤ) (t : BodyTurn) (i : Instr) → old.is_over ≡ false → slice_get code old.body.pc ≡ Some i
    → record { turn = t; run = new; block = block } ≡ shown old block (act old.reserve i (at old block)) → IsLeap code t 1 old block new block
by_itself code old new block t i works here is =
    let s : step_of code old block ≡ shown old block (act old.reserve i (at old block)) =
    ap (λ b. shown old block (if b then Stuck else turn code old.reserve (at old block))) works
    ∙ ap (λ i. shown old block (act_at old.reserve i (at old block))) here in
    leaps_one code t old block new block (is ∙ sym s)
