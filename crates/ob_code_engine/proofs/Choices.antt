-- Where a derived comparison of an enum decides equality: where that of each variant's fields does.
use Rattle.std.proofs.Common.{◌≡◌, sym, ap, ◌∙◌, Bool, false, List, [], ◌∷◌}
use Rattle.std.specs.Bool.{Decides}
use mathlib.Core.Logic.{◌⊎◌, inl, inr}
use denote.Struct.Field.{Field}
use denote.Struct.Values.{Values}
use denote.Enum.Compared.{Each, by}
use denote.Enum.Declared.{Choice, Record, values_one}

-- each variant's test decides whether the fields are the same
abbrev pub AreDecided : (Fss : List (List Field)) → Each Bool Fss → Type 0
AreDecided [] each = Unit {0}
AreDecided (Fs ∷ Fss) each = ((xs ys : Values Fs) → Decides (each.0 xs ys) (xs ≡ ys)) × AreDecided Fss each.1

abbrev IsLeft : {A B : Type 0} → A ⊎ B → Type 0
IsLeft (inl x) = Unit {0}
IsLeft (inr y) = ⊥

abbrev left_of : {A B : Type 0} → A → A ⊎ B → A
left_of a (inl x) = x
left_of a (inr y) = a

abbrev right_of : {A B : Type 0} → B → A ⊎ B → B
right_of b (inl x) = b
right_of b (inr y) = y

pub choices_decided : (Fss : List (List Field)) (each : Each Bool Fss) → AreDecided Fss each → (c d : Choice Fss) → Decides (by false false Fss each c d) (c ≡ d)
choices_decided [] each h c d = absurd c
choices_decided (Fs ∷ Fss) each h (inl x) (inl y) = (λ t. ap inl ((h.0 x y).0 t), λ e. (h.0 x y).1 (ap (left_of x) e))
choices_decided (Fs ∷ Fss) each h (inl x) (inr y) = (λ t. absurd (cc), λ e. absurd (cc))
choices_decided (Fs ∷ Fss) each h (inr x) (inl y) = (λ t. absurd (cc), λ e. absurd (cc))
choices_decided (Fs ∷ Fss) each h (inr x) (inr y) = let further = choices_decided Fss each.1 h.1 x y in (λ t. ap inr (further.0 t), λ e. further.1 (ap (right_of x) e))

pub enum_decided : (N : Record) (each : Each Bool N.parts) (test : N.D → N.D → Bool) → ((a b : N.D) → test a b ≡ by false false N.parts each (N.as_values a) (N.as_values b)) → AreDecided N.parts each → (a b : N.D) → Decides (test a b) (a ≡ b)
enum_decided N each test is h a b =
    let one = choices_decided N.parts each h (N.as_values a) (N.as_values b) in
    (λ t. values_one N a b (one.0 (sym (is a b) ∙ t)), λ e. is a b ∙ one.1 (ap N.as_values e))
