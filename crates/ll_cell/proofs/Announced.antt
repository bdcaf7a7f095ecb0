-- Announcements that lie one behind the other.
use Rattle.std.proofs.Common.{◌≡◌, ℕ, ◌+◌, ◌*◌, ◌<◌, List, [], length, set, get_or, replicate, refl, sym, ap, ap₂, ◌∙◌, ◌^◌, arith}
use Rattle.std.specs.Prelude.{ℤ, pos, nat_le, Bool, true, false, cond}
use Rattle.std.specs.List.{range_with_len}
use Rattle.std.proofs.lemmas.List.FromFn.{length-range_with_len}
use Rattle.std.proofs.lemmas.Nat.{row_fits, same_from_place}
use Rattle.std.proofs.lemmas.List.{get_or-set_same, get_or-set_other, get_or-replicate}
use Rattle.ll_cell.specs.Cell.{word_at, own_of, fresh}
use Rattle.ll_cell.specs.Rows.{Rows, row_of, listed, given_back}
use Rattle.ll_cell.specs.declared.form.Form.{Form}
use Rattle.ll_cell.specs.Memory.{Memory, IsMemory, announced, given_back_own}
use Rattle.ll_cell.proofs.Listed.{length_listed, listed_at, listed_same, listed_set, listed_replicate}

module _ (n a : ℕ) (row : List ℤ) (p i : ℕ) (lt : p < n) where
  pub announcement : get_or (announced n a row) p [] ≡ listed a (λ k. word_at row (p * a + k))
  announcement = listed_at n (λ q. listed a (λ k. word_at row (q * a + k))) p [] lt

  pub announced_words : length (get_or (announced n a row) p []) ≡ a
  announced_words = ap length announcement ∙ length_listed a (λ k. word_at row (p * a + k))

  pub announced_at : i < a → word_at (get_or (announced n a row) p []) i ≡ word_at row (p * a + i)
  announced_at within = ap (λ ws. word_at ws i) announcement ∙ listed_at a (λ k. word_at row (p * a + k)) i (pos 0) within

  module _ (within : i < a) (long : length row ≡ n * a) where
    pub place_in : p * a + i < length row
    place_in = omega (arith, long, within, row_fits p a n a lt (omega arith))

    pub announced_set : (w : ℤ) → announced n a (set row (p * a + i) w) ≡ set (announced n a row) p (set (get_or (announced n a row) p []) i w)
    announced_set w =
        listed_set [] n p (λ q. listed a (λ k. word_at (set row (p * a + i) w) (q * a + k))) _ (announced n a row) (length_listed n (λ q. listed a (λ k. word_at row (q * a + k)))) lt
        (listed_set (pos 0) a i (λ k. word_at (set row (p * a + i) w) (p * a + k)) w (get_or (announced n a row) p []) announced_words within
        (get_or-set_same row (p * a + i) w (pos 0) place_in)
        (λ k lk other.
        get_or-set_other row (p * a + i) (p * a + k) w (pos 0) (λ e. other (omega (arith, e)))
        ∙ sym (ap (λ ws. word_at ws k) announcement ∙ listed_at a (λ j. word_at row (p * a + j)) k (pos 0) lk)))
        (λ q lq other.
        listed_same (pos 0) a (λ k. word_at (set row (p * a + i) w) (q * a + k)) (λ k. word_at row (q * a + k))
        (λ k lk. get_or-set_other row (p * a + i) (q * a + k) w (pos 0) (λ e. other (same_from_place q k p i a lk within e).0))
        ∙ sym (listed_at n (λ r. listed a (λ k. word_at row (r * a + k))) q [] lq))

-- announcements of 0s
pub announced_zero : (n a : ℕ) (row : List ℤ) → row ≡ replicate (n * a) (pos 0) → announced n a row ≡ replicate n (replicate a (pos 0))
announced_zero n a row is =
    listed_replicate n (λ p. listed a (λ i. word_at row (p * a + i))) (replicate a (pos 0))
    (λ p lp. listed_replicate a (λ i. word_at row (p * a + i)) (pos 0)
    (λ i li. ap (λ ws. word_at ws (p * a + i)) is ∙ get_or-replicate (n * a) (p * a + i) (pos 0) (pos 0) (omega (arith, li, row_fits p a n a lp (omega arith)))))

by : {X Y : Type 0} (g : X → Y) (b : Bool) (x y : X) → g (cond b x y) ≡ cond b (g x) (g y)
by g true x y = refl
by g false x y = refl

-- blocks that come back are those of the cell
pub own_comes_back : (m : Memory) (p : ℕ) (ws : List ℤ)
    → ◌≡◌ {A = Memory} (record m { cell = record m.cell { blocks = (given_back (record { form = m.form; rows = m.cell.blocks }) (own_of m.cell p) ws).rows } }) (given_back_own m p ws)
own_comes_back m p ws = by (λ (t : Rows). record m { cell = record m.cell { blocks = t.rows } }) (nat_le (length ws) m.form.head) _ _

module _ (root : ℕ) (own : List ℕ) (blocks announcements : Rows) (words : ℕ) (h : IsMemory root own blocks announcements words) (p i : ℕ) (process : p < length (announced (length own) words (row_of announcements 0))) (word : i < length (get_or (announced (length own) words (row_of announcements 0)) p [])) where
  pub process_in : p < length own
  process_in = omega (arith, process, length_listed (length own) (λ q. listed words (λ k. word_at (row_of announcements 0) (q * words + k))))

  pub word_in : i < words
  word_in = omega (arith, word, announced_words (length own) words (row_of announcements 0) p i process_in)

  pub within : p * words + i < length (row_of announcements 0)
  within = place_in (length own) words (row_of announcements 0) p i process_in word_in h.long

  pub below : p * words + i < 2 ^ 64
  below = omega (arith, within, h.long, h.fits)

  -- in an announcement that is a part
  module _ (none : announcements.form.head ≡ 0) (part : announcements.form.part ≡ words) where
    pub word_in_part : i < announcements.form.part
    word_in_part = omega (arith, part, word_in)

    pub place_is : announcements.form.head + p * announcements.form.part + i ≡ p * words + i
    place_is = ap₂ (λ (a b : ℕ). a + p * b + i) none part ∙ omega arith

    pub within_part : announcements.form.head + p * announcements.form.part + i < length (row_of announcements 0)
    within_part = omega (arith, place_is, within)

  pub announce_set : (w : ℤ) → announced (length own) words (row_of (record announcements { rows = set announcements.rows 0 (set (row_of announcements 0) (p * words + i) w) }) 0) ≡ set (announced (length own) words (row_of announcements 0)) p (set (get_or (announced (length own) words (row_of announcements 0)) p []) i w)
  announce_set w =
      ap (announced (length own) words) (get_or-set_same announcements.rows 0 (set (row_of announcements 0) (p * words + i) w) [] (omega (arith, h.one)))
      ∙ announced_set (length own) words (row_of announcements 0) p i process_in word_in h.long w

module _ (n words a : ℕ) (own : List ℕ) (linked : List Bool) (blocks announcements : Rows) (form : Form) where
  abbrev made : List ℕ → List Bool → List (List ℤ) → List (List ℤ) → Form → Memory
  made o l bs ann f = record { cell = record { root = 0; own = o; linked = l; blocks = bs; announcements = ann }; form = f }

  pub fresh_made : own ≡ range_with_len 1 n → linked ≡ replicate n false → blocks.rows ≡ replicate (n + 1) (replicate words (pos 0)) → row_of announcements 0 ≡ replicate (n * a) (pos 0) → blocks.form ≡ form
      → made own linked blocks.rows (announced (length own) a (row_of announcements 0)) blocks.form ≡ record { cell = fresh n words a; form = form }
  fresh_made eo el eb er ef =
      let zeros : announced (length own) a (row_of announcements 0) ≡ replicate n (replicate a (pos 0)) = ap (λ k. announced k a (row_of announcements 0)) (ap length eo ∙ length-range_with_len 1 n) ∙ announced_zero n a (row_of announcements 0) er in
      ap (λ o. made o linked blocks.rows (announced (length own) a (row_of announcements 0)) blocks.form) eo
      ∙ ap (λ l. made (range_with_len 1 n) l blocks.rows (announced (length own) a (row_of announcements 0)) blocks.form) el
      ∙ ap (λ bs. made (range_with_len 1 n) (replicate n false) bs (announced (length own) a (row_of announcements 0)) blocks.form) eb
      ∙ ap (λ x. made (range_with_len 1 n) (replicate n false) (replicate (n + 1) (replicate words (pos 0))) x blocks.form) zeros
      ∙ ap (λ f. made (range_with_len 1 n) (replicate n false) (replicate (n + 1) (replicate words (pos 0))) (replicate n (replicate a (pos 0))) f) ef
