-- What the beginning of a text tells of the whole text.
use Rattle.std.proofs.Common.{◌≡◌, ℕ, ◌<◌, ◌≤◌, List, length, take, subst, ◌∙◌, arith, inl, inr}
use Rattle.std.proofs.lemmas.Bool.{cases_lt}
use Rattle.std.proofs.lemmas.List.{length-take, take_all}

-- the bytes that are read of a module's text
abbrev pub beginning : List ℕ → List ℕ
beginning = take 65537

is_whole : (part whole : List ℕ) → part ≡ beginning whole → length part ≤ 65536 → part ≡ whole
is_whole part whole is short =
    let taken : length (beginning whole) ≤ 65536 = rw is at short in
    is ∙ take_all 65537 whole (omega (arith, taken, length-take 65537 whole))

is_longer : (part whole : List ℕ) → part ≡ beginning whole → 65536 < length part → 65536 < length whole
is_longer part whole is long =
    let taken : 65536 < length (beginning whole) = rw is at long in
    omega (arith, taken, length-take 65537 whole)

-- what holds of a beginning that isn't too long holds of the whole text
pub of_whole : (P : List ℕ → Type 0) (part whole : List ℕ) → part ≡ beginning whole → (65536 < length part → ⊥) → P part → P whole
of_whole P part whole is no_longer h = elim (cases_lt 65536 (length part)) [
  | inl long ↦ absurd (no_longer long)
  | inr short ↦ subst P (is_whole part whole is short) h
]

-- and what holds of each text that is too long, where it is
pub of_whole_or_long : (P : List ℕ → Type 0) (part whole : List ℕ) → part ≡ beginning whole → (65536 < length part → 65536 < length whole → P whole) → P part → P whole
of_whole_or_long P part whole is longer h = elim (cases_lt 65536 (length part)) [
  | inl long ↦ longer long (is_longer part whole is long)
  | inr short ↦ subst P (is_whole part whole is short) h
]
