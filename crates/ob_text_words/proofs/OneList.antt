-- Words say one list of values at most.
use Rattle.std.proofs.Common.{◌≡◌, ◌∙◌, ℕ, ℤ, pos, neg_ℤ, List, ◌∷◌, refl, sym, ap, Bool, true, false}
use Rattle.std.proofs.lemmas.Bool.{false≢true}
use Rattle.ob_interface.specs.declared.scalar.Scalar.{Scalar}
use Rattle.ob_interface.specs.declared.scalar.Scalar.TheVariants as Scalars
use Rattle.ob_interface.specs.declared.scalar.ScalarType.{ScalarType}
use Rattle.ob_text_words.specs.Values as Values
use Rattle.ob_text_words.specs.Values.{AreValues, IsValue}
use Rattle.ob_text_words.specs.ScalarTexts.{truth_text}
use Rattle.ob_text_words.specs.Words as Words
use Rattle.ob_text_words.specs.Words.{IsDigits, IsInteger, Word}

one_number : {most : ℕ} {word : Word} {m n : ℕ} → IsDigits most word m → IsDigits most word n → m ≡ n
one_number h k = sym h.spells ∙ k.spells

-- `-` is no digit
no_minus : {most n : ℕ} {word : Word} → IsDigits most (45 ∷ word) n → ⊥
no_minus h = false≢true h.digits

one_integer : {word : Word} {y z : ℤ} → IsInteger word y → IsInteger word z → y ≡ z
one_integer (Words.positive h small) (Words.positive k small') = ap pos (one_number h k)
one_integer (Words.positive h small) (Words.negative k small') = absurd (no_minus h)
one_integer (Words.negative h small) (Words.positive k small') = absurd (no_minus k)
one_integer (Words.negative h small) (Words.negative k small') = ap (λ n. neg_ℤ (pos n)) (one_number h k)

one_truth : (a b : Bool) → truth_text a ≡ truth_text b → a ≡ b
one_truth true true e = refl
one_truth true false e = absurd (cc)
one_truth false true e = absurd (cc)
one_truth false false e = refl

one_value : {t : ScalarType} {word : Word} {a b : Scalar} → IsValue t word a → IsValue t word b → a ≡ b
one_value (Values.integer h) (Values.integer k) = ap (λ z. Scalars.Int z) (one_integer h k)
one_value (Values.boolean {b = b} h) (Values.boolean {b = b'} k) = ap (λ x. Scalars.Bool x) (one_truth b b' (sym h ∙ k))

pub one_list : (types : List ScalarType) (ws : List Word) (xs ys : List Scalar) → AreValues types ws xs → AreValues types ws ys → xs ≡ ys
one_list types ws xs ys Values.none Values.none = refl
one_list types ws xs ys (Values.more {types = ts} {ws = vs} {ss = ss} h hs) (Values.more {ss = ss'} k ks) =
    let first = one_value h k in
    let rest = one_list ts vs ss ss' hs ks in
    cc
