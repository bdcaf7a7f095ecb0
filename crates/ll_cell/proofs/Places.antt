-- Where the words of a block are kept: each at a place of its own.
use Rattle.std.proofs.Common.{◌≡◌, ◌≢◌, ◌⊎◌, ℕ, suc, ◌+◌, ◌-◌, ◌*◌, ◌/◌, ◌%◌, ◌<◌, ◌≤◌, Bool, true, false, cond, refl, sym, ap, ap₂, ◌∙◌, arith, inl, inr, le_refl}
use Rattle.std.specs.Prelude.{ℤ, nat_eq, nat_lt, if◌then◌else◌}
use Rattle.std.proofs.lemmas.Bool.Decides.{nat_tests}
use Rattle.std.proofs.Math.Nat.{mul-suc, add-mul, mul-le-mul_right}
use Rattle.std.proofs.lemmas.Bool.{cases_lt}
use Rattle.std.proofs.lemmas.Nat.{div-add-mod', mod_below, mul-add-lt, same_from_place, div_below, div-mul-add, mod-mul-add, row_fits_turned}
use Rattle.ll_cell.specs.declared.form.Form.{Form}
use Rattle.ll_cell.specs.declared.form.Place.{Place}
use Rattle.ll_cell.specs.declared.form.Place.TheVariants.{Word, Bit}
use Rattle.ll_cell.specs.Form.{row_words, kept_words, place_of, IsBit, IsPlace, MayStand, MayStandAt}

-- word i stands before the parts
pub record InHead (f : Form) (i k : ℕ) : Type 0 where
  pub before : i < f.head
  pub same : k ≡ i

-- it stands in part q behind r words, and is not the last one
pub record InPart (f : Form) (i k : ℕ) : Type 0 where
  pub q : ℕ
  pub r : ℕ
  pub part_in : q < f.parts
  pub within : r < f.part - 1
  pub stands : i ≡ f.head + (q * f.part + r)
  pub kept : k ≡ f.head + (q * (f.part - 1) + r)

-- it is the last word of part q
pub record IsLast (f : Form) (i q : ℕ) : Type 0 where
  pub part_in : q < f.parts
  pub stands : i ≡ f.head + (q * f.part + (f.part - 1))

abbrev pub Stands : Form → ℕ → Place → Type 0
Stands f i (Word k) = InHead f i k ⊎ InPart f i k
Stands f i (Bit q) = IsLast f i q

by : (P : Place → Type 0) (b : Bool) (x y : Place) → (b ≡ true → P x) → (b ≡ false → P y) → P (cond b x y)
by P true x y then_x else_y = then_x refl
by P false x y then_x else_y = else_y refl

-- one word less in each part
less : (q p : ℕ) → 0 < p → q * p ≡ q * (p - 1) + q
less q p some = let e : p ≡ suc (p - 1) = omega arith in ap (λ k. q * k) e ∙ mul-suc q (p - 1)

module _ (f : Form) (part : 0 < f.part) where
  in_part : (i : ℕ) → i < row_words f → f.head ≤ i → (i - f.head) / f.part < f.parts
  in_part i lt le = div_below (i - f.head) f.part f.parts part (omega (arith, lt, le))

  split : (i : ℕ) → f.head ≤ i → i ≡ f.head + ((i - f.head) / f.part * f.part + (i - f.head) % f.part)
  split i le = omega (arith, le, div-add-mod' (i - f.head) f.part)

  behind : (i : ℕ) → i < row_words f → f.head ≤ i → Stands f i (if nat_eq ((i - f.head) % f.part + 1) f.part then Bit ((i - f.head) / f.part) else Word (i - (i - f.head) / f.part))
  behind i lt le =
      let q : ℕ = (i - f.head) / f.part in
      let r : ℕ = (i - f.head) % f.part in
      let is : i ≡ f.head + (q * f.part + r) = split i le in
      let below : r < f.part = mod_below (i - f.head) f.part part in
      let fewer : q * f.part ≡ q * (f.part - 1) + q = less q f.part part in
      by (Stands f i) (nat_eq (r + 1) f.part) (Bit q) (Word (i - q))
      (λ e. let last : r + 1 ≡ f.part = grind (arith, nat_tests) in record { part_in = in_part i lt le; stands = omega (arith, is, last) })
      (λ e.
      let other : r + 1 ≢ f.part = grind (arith, nat_tests) in
      let within : r < f.part - 1 = omega (arith, other, below) in
      inr (record { q = q; r = r; part_in = in_part i lt le; within = within; stands = is; kept = omega (arith, is, fewer) }))

  pub stands_at : (i : ℕ) → i < row_words f → Stands f i (place_of f i)
  stands_at i lt =
      by (Stands f i) (nat_lt i f.head) (Word i) _
      (λ e. inl (record { before = grind (arith, nat_tests); same = refl }))
      (λ e. behind i lt (grind (arith, nat_tests)))

module _ (f : Form) where
  -- the words that are no bits have places below their number
  pub word_below : (i k : ℕ) → Stands f i (Word k) → k < kept_words f
  word_below i k (inl h) = omega (arith, h.before, h.same)
  word_below i k (inr h) = omega (arith, h.kept, mul-add-lt h.q (f.part - 1) h.r f.parts h.part_in h.within)

  -- two of them have two places
  pub word_apart : (i j k : ℕ) → Stands f i (Word k) → Stands f j (Word k) → i ≡ j
  word_apart i j k (inl g) (inl h) = omega (arith, g.same, h.same)
  word_apart i j k (inl g) (inr h) = omega (arith, g.same, g.before, h.kept)
  word_apart i j k (inr g) (inl h) = omega (arith, h.same, h.before, g.kept)
  word_apart i j k (inr g) (inr h) =
      let both = same_from_place g.q g.r h.q h.r (f.part - 1) g.within h.within (omega (arith, g.kept, h.kept)) in
      g.stands ∙ ap₂ (λ (q r : ℕ). f.head + (q * f.part + r)) both.0 both.1 ∙ sym h.stands

  pub bit_apart : (i j q : ℕ) → Stands f i (Bit q) → Stands f j (Bit q) → i ≡ j
  bit_apart i j q g h = g.stands ∙ sym h.stands

  -- a word in the head is no bit, and one behind it is kept behind it
  pub kept_behind : (i k n : ℕ) → n ≤ f.head → n ≤ i → Stands f i (Word k) → n ≤ k
  kept_behind i k n le from (inl h) = omega (arith, h.same, from)
  kept_behind i k n le from (inr h) = omega (arith, h.kept, le)

pub head_place : (f : Form) (i : ℕ) → i < f.head → place_of f i ≡ Word i
head_place f i lt = let t : nat_lt i f.head ≡ true = grind (arith, nat_tests) in ap (λ b. cond b (Word i) (if nat_eq ((i - f.head) % f.part + 1) f.part then Bit ((i - f.head) / f.part) else Word (i - (i - f.head) / f.part))) t

-- word i of part q
module _ (f : Form) (q i : ℕ) (within : i < f.part) where
  sorted : place_of f (f.head + q * f.part + i) ≡ (if nat_eq (i + 1) f.part then Bit q else Word (f.head + q * f.part + i - q))
  sorted =
      let n : ℕ = f.head + q * f.part + i in
      let outside : nat_lt n f.head ≡ false = grind (arith, nat_tests) in
      let rest : n - f.head ≡ q * f.part + i = omega arith in
      ap (λ b. cond b (Word n) (if nat_eq ((n - f.head) % f.part + 1) f.part then Bit ((n - f.head) / f.part) else Word (n - (n - f.head) / f.part))) outside
      ∙ ap (λ m. if nat_eq (m % f.part + 1) f.part then Bit (m / f.part) else Word (n - m / f.part)) rest
      ∙ ap₂ (λ d r. if nat_eq (r + 1) f.part then Bit d else Word (n - d)) (div-mul-add q f.part i within) (mod-mul-add q f.part i within)

  pub last_place : i + 1 ≡ f.part → place_of f (f.head + q * f.part + i) ≡ Bit q
  last_place last =
      let t : nat_eq (i + 1) f.part ≡ true = grind (arith, nat_tests) in
      sorted ∙ ap (λ b. cond b (Bit q) (Word (f.head + q * f.part + i - q))) t

  pub part_place : i + 1 ≢ f.part → place_of f (f.head + q * f.part + i) ≡ Word (f.head + q * (f.part - 1) + i)
  part_place other =
      let t : nat_eq (i + 1) f.part ≡ false = grind (arith, nat_tests) in
      let fewer : q * f.part ≡ q * (f.part - 1) + q = less q f.part (omega arith) in
      sorted ∙ ap (λ b. cond b (Bit q) (Word (f.head + q * f.part + i - q))) t ∙ ap Word (omega arith)

-- a word of a block stands in one of its parts
pub part_below : (f : Form) (q i : ℕ) → f.head + q * f.part + i < row_words f → q < f.parts
part_below f q i lt = elim (cases_lt q f.parts) [
  | inl below ↦ below
  | inr le ↦ absurd (omega (arith, lt, mul-le-mul_right f.part le))
]

-- no word is kept behind the end
pub part_fits : (f : Form) (q i : ℕ) → i < f.part → q < f.parts → f.head + q * (f.part - 1) + i ≤ kept_words f
part_fits f q i within lt = omega (arith, within, row_fits_turned q (f.part - 1) (f.part - 1) f.parts lt (le_refl (f.part - 1)))

placed : (f : Form) (i : ℕ) (p : Place) → Stands f i p → IsPlace f p
placed f i (Word k) s = word_below f i k s
placed f i (Bit q) s = s.part_in

-- each word has a place
pub is_place : (f : Form) → 0 < f.part → (i : ℕ) → i < row_words f → IsPlace f (place_of f i)
is_place f part i lt = placed f i (place_of f i) (stands_at f part i lt)

module _ (f : Form) (part : 0 < f.part) (w : ℤ) where
  stands_there : (i : ℕ) (p : Place) → Stands f i p → MayStand f i w → MayStandAt p w
  stands_there i (Word k) s may = tt
  stands_there i (Bit q) s may = may q s.part_in (omega (arith, s.stands, part, add-mul q 1 f.part))

  -- what may stand at a word may stand at its place
  pub may_stand_at : (i : ℕ) → i < row_words f → MayStand f i w → MayStandAt (place_of f i) w
  may_stand_at i lt may = stands_there i (place_of f i) (stands_at f part i lt) may

  -- only the last word of a part is asked to be a bit
  pub may_stand_in : (q i : ℕ) → i < f.part → (i + 1 ≡ f.part → IsBit w) → MayStand f (f.head + q * f.part + i) w
  may_stand_in q i within bit = λ r lt e.
      let more = add-mul r 1 f.part in
      let both = same_from_place q i r (f.part - 1) f.part within (omega (arith, part)) (omega (arith, e, more, part)) in
      bit (omega (arith, both.1, part))
