-- Where the words of a block are kept.
use Rattle.std.specs.Prelude.{◌≡◌, ◌⊎◌, ℕ, ◌+◌, ◌-◌, ◌*◌, ◌/◌, ◌%◌, ◌<◌, ℤ, pos, nat_eq, nat_lt, if◌then◌else◌}
use Rattle.ll_cell.specs.declared.form.Form.{Form}
use Rattle.ll_cell.specs.declared.form.Place.{Place}
use Rattle.ll_cell.specs.declared.form.Place.TheVariants.{Word, Bit}

-- a block that has no parts, and so no bits
abbrev pub whole : ℕ → Form
whole words = record { head = words; parts = 0; part = 1 }

-- the words of a block
abbrev pub row_words : Form → ℕ
row_words f = f.head + f.parts * f.part

-- those of them that are no bits
abbrev pub kept_words : Form → ℕ
kept_words f = (f.part - 1) * f.parts + f.head

-- a word is a bit where it is the last one of its part; else it stands behind the words before it that are no bits
abbrev pub place_of : Form → ℕ → Place
place_of f i =
    if nat_lt i f.head
    then Word i
    else (if nat_eq ((i - f.head) % f.part + 1) f.part then Bit ((i - f.head) / f.part) else Word (i - (i - f.head) / f.part))

-- a place of a block
abbrev pub IsPlace : Form → Place → Type 0
IsPlace f (Word k) = k < kept_words f
IsPlace f (Bit q) = q < f.parts

abbrev pub IsBit : ℤ → Type 0
IsBit w = (w ≡ pos 0) ⊎ (w ≡ pos 1)

-- w may stand at word i of a block: the last word of a part is 0 or 1
abbrev pub MayStand : Form → ℕ → ℤ → Type 0
MayStand f i w = (q : ℕ) → q < f.parts → i + 1 ≡ f.head + (q + 1) * f.part → IsBit w

-- w may stand at a place of a block
abbrev pub MayStandAt : Place → ℤ → Type 0
MayStandAt (Word k) w = Unit {0}
MayStandAt (Bit q) w = IsBit w
