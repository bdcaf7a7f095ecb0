-- Words of blocks and announcements before and behind a write, and the places of toggles.
use Rattle.std.proofs.Common.{◌≡◌, ℕ, zero, suc, ◌+◌, ◌*◌, ◌%◌, ◌<◌, ◌≤◌, List, [], ◌∷◌, length, set, get_or, refl, sym, ap, subst, arith, inl, inr}
use Rattle.std.specs.Prelude.{ℤ, pos}
use Rattle.std.proofs.Math.Nat.{mul-le-mul_right}
use Rattle.std.proofs.lemmas.Bool.{cases_lt, cases_eq}
use Rattle.std.proofs.lemmas.Bool.Decides.{nat_tests}
use Rattle.std.proofs.lemmas.List.{take_all}
use Rattle.ll_cell.specs.Cell.{word_at, refilled}
use Rattle.wf_table.specs.declared.process.Sizes.{Sizes}
use Rattle.wf_table.specs.StepTable.{toggle_place, block_words, part, inverted}
use Rattle.wf_table.specs.Toggles.{IsBit}

-- words that are all the same
pub same_words : (xs ys : List ℤ) → length xs ≡ length ys → ((k : ℕ) → k < length xs → word_at xs k ≡ word_at ys k) → xs ≡ ys
same_words [] [] e h = refl
same_words [] (y ∷ ys) e h = absurd (omega (arith, e))
same_words (x ∷ xs) [] e h = absurd (omega (arith, e))
same_words (x ∷ xs) (y ∷ ys) e h = let first = h 0 (omega arith) in let rest = same_words xs ys (omega (arith, e)) (λ k lt. h (suc k) (omega (arith, lt))) in cc

-- what holds of a word that is written where k is i, and of the old word, holds of the word behind
pub set_or : {X : Type 0} (P : X → Type 0) (xs : List X) (i k : ℕ) (v d : X) → (k ≡ i → P v) → P (get_or xs k d) → P (get_or (set xs i v) k d)
set_or P [] i k v d new old = old
set_or P (x ∷ xs) zero zero v d new old = new refl
set_or P (x ∷ xs) zero (suc k) v d new old = old
set_or P (x ∷ xs) (suc i) zero v d new old = old
set_or P (x ∷ xs) (suc i) (suc k) v d new old = set_or P xs i k v d (λ e. new (ap suc e)) old

pub written : (P : ℤ → Type 0) (rows : List (List ℤ)) (o b i k : ℕ) (w : ℤ) → (b ≡ o → k ≡ i → P w) → P (word_at (get_or rows b []) k) → P (word_at (get_or (set rows o (set (get_or rows o []) i w)) b []) k)
written P rows o b i k w new old =
    set_or (λ (row : List ℤ). P (word_at row k)) rows o b (set (get_or rows o []) i w) []
    (λ e. set_or P (get_or rows o []) i k w (pos 0) (new e) (subst (λ (a : ℕ). P (word_at (get_or rows a []) k)) e old))
    old

-- words behind those that are written anew
pub refilled_behind : (block ws : List ℤ) (k : ℕ) → length ws ≤ k → word_at (refilled block ws) k ≡ word_at block k
refilled_behind [] ws k le = refl
refilled_behind (x ∷ xs) [] k le = ap (λ (ys : List ℤ). word_at ys k) (take_all (length (x ∷ xs)) (x ∷ xs) (omega arith))
refilled_behind (x ∷ xs) (w ∷ ws) zero le = absurd (omega (arith, le))
refilled_behind (x ∷ xs) (w ∷ ws) (suc k) le = refilled_behind xs ws k (omega (arith, le))

pub rewritten : (P : ℤ → Type 0) (rows : List (List ℤ)) (o b k : ℕ) (ws : List ℤ) → (b ≡ o → length ws ≤ k) → P (word_at (get_or rows b []) k) → P (word_at (get_or (set rows o (refilled (get_or rows o []) ws)) b []) k)
rewritten P rows o b k ws behind old =
    set_or (λ (row : List ℤ). P (word_at row k)) rows o b (refilled (get_or rows o []) ws) []
    (λ e. subst P (sym (refilled_behind (get_or rows o []) ws k (behind e))) (subst (λ (a : ℕ). P (word_at (get_or rows a []) k)) e old))
    old

-- row j, from its place on, has the toggle's place of a row at its end alone
pub at_toggle : (v w j k i : ℕ) → i < w + 2 → v + j * (w + 2) + i ≡ v + k * (w + 2) + (w + 1) → i ≡ w + 1
at_toggle v w j k i lt e =
    elim (cases_lt j k) [
      | inl less ↦ absurd (omega (arith, e, lt, mul-le-mul_right {m = j + 1} {n = k} (w + 2) (omega (arith, less))))
      | inr more ↦ elim (cases_lt k j) [
        | inl less ↦ absurd (omega (arith, e, lt, mul-le-mul_right {m = k + 1} {n = j} (w + 2) (omega (arith, less))))
        | inr same ↦ (let is : j ≡ k = omega (arith, more, same) in omega (arith, e, ap (λ (x : ℕ). x * (w + 2)) is))
      ]
    ]

pub toggle_within : (z : Sizes) (k : ℕ) → k < z.processes → toggle_place z k < block_words z
toggle_within z k lt = omega (arith, mul-le-mul_right {m = k + 1} {n = z.processes} (z.replies + 2) (omega (arith, lt)))

pub part_within : (z : Sizes) (k : ℕ) → k < z.processes → part z k + (z.replies + 2) ≤ block_words z
part_within z k lt = omega (arith, mul-le-mul_right {m = k + 1} {n = z.processes} (z.replies + 2) (omega (arith, lt)))

pub bit_inverted : (t : ℤ) → IsBit (inverted t)
bit_inverted t = grind (arith, nat_tests)

-- one flip more turns the parity
pub next_parity : (k : ℕ) → inverted (pos (k % 2)) ≡ pos ((k + 1) % 2)
next_parity k =
    elim (cases_eq (k % 2) 0) [
      | inl even ↦ (let odd : (k + 1) % 2 ≡ 1 = omega (arith, even) in rw (even, odd))
      | inr not_even ↦ (let odd : k % 2 ≡ 1 = omega (arith, not_even) in let even : (k + 1) % 2 ≡ 0 = omega (arith, odd) in rw (odd, even))
    ]
