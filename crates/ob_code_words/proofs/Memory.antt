-- The words that have an address are one list.
use Rattle.std.proofs.Common.{◌≡◌, ℕ, ◌+◌, ◌-◌, ◌^◌, ◌<◌, ◌≤◌, ltb, true, false, cond, ℤ, pos, List, ◌++◌, length, get_or, refl, sym, ap, ◌∙◌, ⊎_elim, arith}
use Rattle.std.specs.Prelude.{slice_set}
use Rattle.std.proofs.lemmas.Bool.{cases_lt}
use Rattle.std.proofs.lemmas.Bool.Decides.{nat_tests}
use Rattle.std.proofs.lemmas.List.{get_or_append_left, get_or-append_right, set-append_left, set-append_right, length-set}
use Rattle.ob_code_words.specs.Words.{Made, Gives, Sticks}
use Rattle.ob_code_words.specs.Effect.{word_at}
use Rattle.ob_code_words.specs.Laws.{WritesOne, MemoryIsOneList}
use Rattle.ob_code_words.specs.Running.{IsLocalWord}

below : (m n : ℕ) → m < n → ltb m n ≡ true
below m n h = grind (arith, nat_tests)

not_below : (m n : ℕ) → n ≤ m → ltb m n ≡ false
not_below m n h = grind (arith, nat_tests)

-- what is found in the block, and what in the stack
in_block : {A : Type 0} (block stack : List ℤ) (a : ℕ) (x y : Made A) → a < length block → cond (ltb a (length block)) x (cond (ltb (a - length block) (length stack)) y Sticks) ≡ x
in_block block stack a x y h = ap (λ b. cond b x (cond (ltb (a - length block) (length stack)) y Sticks)) (below a (length block) h)

in_stack : {A : Type 0} (block stack : List ℤ) (a : ℕ) (x y : Made A) → length block ≤ a → a < length block + length stack → cond (ltb a (length block)) x (cond (ltb (a - length block) (length stack)) y Sticks) ≡ y
in_stack block stack a x y h k =
    ap (λ b. cond b x (cond (ltb (a - length block) (length stack)) y Sticks)) (not_below a (length block) h)
    ∙ ap (λ b. cond b y Sticks) (below (a - length block) (length stack) (omega arith))

nowhere : {A : Type 0} (block stack : List ℤ) (a : ℕ) (x y : Made A) → length block + length stack ≤ a → cond (ltb a (length block)) x (cond (ltb (a - length block) (length stack)) y Sticks) ≡ Sticks
nowhere block stack a x y h =
    ap (λ b. cond b x (cond (ltb (a - length block) (length stack)) y Sticks)) (not_below a (length block) (omega arith))
    ∙ ap (λ b. cond b y Sticks) (not_below (a - length block) (length stack) (omega arith))

-- a word of the frame
pub local_is : (block stack : List ℤ) (fp word : ℕ) → fp + word < length stack → length block < 2 ^ 62 → length stack < 2 ^ 32 → IsLocalWord block stack fp word (get_or stack (fp + word) (pos 0))
local_is block stack fp word within few small =
    let place = length block + fp + word in
    let behind : place - length block ≡ fp + word = omega arith in (
      ap (λ b. cond b (Gives (pos place)) Sticks) (below place (2 ^ 63) (omega arith)),
      in_stack block stack place (Gives (get_or block place (pos 0))) (Gives (get_or stack (place - length block) (pos 0))) (omega arith) (omega arith)
          ∙ ap (λ i. Gives (get_or stack i (pos 0))) behind,
    )

module _ (block stack : List ℤ) (a : ℕ) where
  reads_one : a < length block + length stack → word_at block stack (pos a) ≡ Gives (get_or (block ++ stack) a (pos 0))
  reads_one h =
      ⊎_elim
      (λ l. in_block block stack a (Gives (get_or block a (pos 0))) (Gives (get_or stack (a - length block) (pos 0))) l
      ∙ ap Gives (sym (get_or_append_left block stack (pos 0) a l)))
      (λ g. in_stack block stack a (Gives (get_or block a (pos 0))) (Gives (get_or stack (a - length block) (pos 0))) g h
      ∙ ap Gives (sym (get_or-append_right block stack (length block) a (pos 0) refl g)))
      (cases_lt a (length block))

  writes_block : (w : ℤ) → a < length block → WritesOne block stack a w
  writes_block w l = record {
    new_block = slice_set block a w;
    new_stack = stack;
    put = in_block block stack a (Gives (slice_set block a w, stack)) (Gives (block, slice_set stack (a - length block) w)) l;
    whole = sym (set-append_left block stack a w l);
    divided = length-set block a w;
  }

  writes_stack : (w : ℤ) → length block ≤ a → a < length block + length stack → WritesOne block stack a w
  writes_stack w g h = record {
    new_block = block;
    new_stack = slice_set stack (a - length block) w;
    put = in_stack block stack a (Gives (slice_set block a w, stack)) (Gives (block, slice_set stack (a - length block) w)) g h;
    whole = sym (set-append_right block stack (length block) a w refl g);
    divided = refl;
  }

pub one_list : MemoryIsOneList
one_list block stack a = record {
  reads = reads_one block stack a;
  writes = λ w h. ⊎_elim (λ l. writes_block block stack a w l) (λ g. writes_stack block stack a w g h) (cases_lt a (length block));
  reads_nothing = λ h. nowhere block stack a (Gives (get_or block a (pos 0))) (Gives (get_or stack (a - length block) (pos 0))) h;
  writes_nothing = λ w h. nowhere block stack a (Gives (slice_set block a w, stack)) (Gives (block, slice_set stack (a - length block) w)) h;
}
