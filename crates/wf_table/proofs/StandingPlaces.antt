-- Places of parts, and the words in them behind a change of the cell.
use Rattle.std.proofs.Common.{◌≡◌, ◌≢◌, ℕ, ◌+◌, ◌*◌, ◌<◌, ◌≤◌, true, false, List, [], length, set, refl, ap, ◌∙◌, arith, cond, inl, inr}
use Rattle.std.specs.Prelude.{ℤ, pos}
use Rattle.std.proofs.Math.Nat.{mul-le-mul_right}
use Rattle.std.proofs.lemmas.Bool.{cases_lt}
use Rattle.std.proofs.lemmas.List.{get_or-set_same, get_or-set_other}
use Rattle.ll_cell.specs.Cell.{Cell, own_of, is_linked, exchanged, refilled, word_at}
use Rattle.wf_table.specs.declared.process.Sizes.{Sizes}
use Rattle.wf_table.specs.StepTable.{Change, Nothing, Own, Refill, Announce, Links, Exchanges, cell_after, own_block, part, block_words}
use Rattle.wf_table.proofs.Words.{refilled_behind, part_within}
use Rattle.wf_table.proofs.HelpAndOrderSteps.{exchanges, word_stays, unlinked_stays}
use Rattle.wf_table.specs.Stands.{word_in, InPart}

-- a place in two parts
one_part : (v w j k i : ℕ) → v + j * (w + 2) ≤ i → i < v + j * (w + 2) + (w + 2) → v + k * (w + 2) ≤ i → i < v + k * (w + 2) + (w + 2) → j ≡ k
one_part v w j k i le lt le' lt' =
    elim (cases_lt j k) [
      | inl less ↦ absurd (omega (arith, lt, le', mul-le-mul_right {m = j + 1} {n = k} (w + 2) (omega (arith, less))))
      | inr more ↦ elim (cases_lt k j) [
        | inl less ↦ absurd (omega (arith, lt', le, mul-le-mul_right {m = k + 1} {n = j} (w + 2) (omega (arith, less))))
        | inr same ↦ omega (arith, more, same)
      ]
    ]

pub same_part : (z : Sizes) (j k i : ℕ) → InPart z j i → InPart z k i → j ≡ k
same_part z j k i a b = one_part z.variables z.replies j k i a.0 a.1 b.0 b.1

pub place_in : (z : Sizes) (k x : ℕ) → x < z.replies + 2 → InPart z k (part z k + x)
place_in z k x lt = (omega arith, omega (arith, lt))

pub place_within : (z : Sizes) (k i : ℕ) → k < z.processes → InPart z k i → i < block_words z
place_within z k i lt h = omega (arith, h.1, part_within z k lt)

-- a word of another block
pub other_word : (c : Cell) (p : ℕ) (change : Change) (b i : ℕ) → b ≢ own_of c p → word_in (cell_after c p change) b i ≡ word_in c b i
other_word c p Nothing b i d = refl
other_word c p (Own j w) b i d = ap (λ (ws : List ℤ). word_at ws i) (get_or-set_other c.blocks (own_of c p) b _ [] d)
other_word c p (Refill ws) b i d = ap (λ (ws : List ℤ). word_at ws i) (get_or-set_other c.blocks (own_of c p) b _ [] d)
other_word c p (Announce j w) b i d = refl
other_word c p Links b i d = refl
other_word c p Exchanges b i d = elim (is_linked c p) as (λ l. word_in (cond l (exchanged c p) c) b i ≡ word_in c b i) [ true ↦ refl | false ↦ refl ]

-- a word of the own block in another place than the written one
pub own_word : (c : Cell) (p j i : ℕ) (w : ℤ) → i ≢ j → word_in (cell_after c p (Own j w)) (own_of c p) i ≡ word_in c (own_of c p) i
own_word c p j i w d = word_stays c.blocks (own_of c p) (own_of c p) j i w (λ _. d)

pub written_word : (c : Cell) (p i : ℕ) (w : ℤ) → own_of c p < length c.blocks → i < length (own_block c p) → word_in (cell_after c p (Own i w)) (own_of c p) i ≡ w
written_word c p i w within lt =
    ap (λ (ws : List ℤ). word_at ws i) (get_or-set_same c.blocks (own_of c p) (set (own_block c p) i w) [] within)
    ∙ get_or-set_same (own_block c p) i w (pos 0) lt

-- a word of the own block behind the variables that are written anew
pub word_behind : (c : Cell) (p i : ℕ) (ws : List ℤ) → own_of c p < length c.blocks → length ws ≤ i → word_in (cell_after c p (Refill ws)) (own_of c p) i ≡ word_in c (own_of c p) i
word_behind c p i ws within le =
    ap (λ (block : List ℤ). word_at block i) (get_or-set_same c.blocks (own_of c p) (refilled (own_block c p) ws) [] within)
    ∙ refilled_behind (own_block c p) ws i le

-- the number of a process's own block, where nothing is exchanged
pub same_number : (c : Cell) (p k : ℕ) (change : Change) → exchanges change (is_linked c p) ≡ false → own_of (cell_after c p change) k ≡ own_of c k
same_number c p k Nothing none = refl
same_number c p k (Own i w) none = refl
same_number c p k (Refill ws) none = refl
same_number c p k (Announce i w) none = refl
same_number c p k Links none = refl
same_number c p k Exchanges none = ap (λ (d : Cell). own_of d k) (unlinked_stays c p none)
