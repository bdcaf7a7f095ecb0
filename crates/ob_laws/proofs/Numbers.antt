-- Numbers in decimal digits: the words that they are.
use Rattle.std.proofs.Common.{◌≡◌, ℕ, ◌<◌, ◌≤◌, ◌^◌, suc, true, false, ℤ, pos, negsuc, List, [], ◌∷◌, ◌++◌, decimal, refl, sym, subst, arith, append_assoc}
use Rattle.std.specs.Fmt.{signed_decimal}
use Rattle.std.specs.Str.Parse.{AllDigits}
use Rattle.std.proofs.lemmas.Bool.Decides.{nat_tests}
use Rattle.std.proofs.lemmas.Fmt.{decimal_nonempty, decimal_is_IsNumeral}
use Rattle.std.proofs.lemmas.Str.Parse.{digit_from_value}
use Rattle.ob_code_scheme.specs.Correct.{IsInRange}
use Rattle.ob_code_scheme.specs.Types as Types
use Rattle.ob_interface.specs.declared.scalar.Scalar.{Scalar}
use Rattle.ob_interface.specs.declared.scalar.Scalar.TheVariants as Scalars
use Rattle.ob_laws.specs.Writable.{IsNamed}
use Rattle.ob_laws.proofs.Words.{IsClean, IsWord, byte_word, clean_more, clean_none, word_more, words_joined}
use Rattle.ob_text_record.specs.RecordText.{id_text}
use Rattle.ob_text_reading.specs.RecordLines as Lines
use Rattle.ob_text_reading.specs.RecordLines.{IsId}
use Rattle.ob_text_values_reading.proofs.Numerals as Numerals
use Rattle.ob_text_values_reading.proofs.Numerals.{above_least, below_most, numeral}
use Rattle.ob_text_words.specs.ScalarTexts.{scalar_text}
use Rattle.ob_text_words.specs.Words.{Word, IsInteger}
use Rattle.wf_history.specs.declared.event.CallId.{CallId}

pub integer_text : (z : ℤ) → Types.IsInteger z → IsInteger (signed_decimal z) z
integer_text z h = Numerals.integer_text z (record { low = h.low; high = h.high })

digits_clean : (ds : List ℕ) → AllDigits 10 ds → IsClean ds
digits_clean [] d = clean_none
digits_clean (c ∷ cs) d =
    let k = digit_from_value c d.0 in
    clean_more c cs (grind (arith, nat_tests)) (grind (arith, nat_tests)) (digits_clean cs d.1)

pub decimal_word : (n : ℕ) → n < 2 ^ 64 → IsWord (decimal n)
decimal_word n small = record { some = omega (arith, decimal_nonempty n small); clean = digits_clean (decimal n) (decimal_is_IsNumeral n small).0.1 }

pub scalar_word : (s : Scalar) → IsInRange s → IsWord (scalar_text s)
scalar_word (Scalars.Int (pos n)) h = let most = below_most n h.high in decimal_word n (omega (arith, most))
scalar_word (Scalars.Int (negsuc n)) h =
    let most = above_least n h.low in
    word_more 45 (decimal (suc n)) refl refl (decimal_word (suc n) (omega (arith, most)))
scalar_word (Scalars.Bool true) h = word_more 84 _ refl refl (word_more 82 _ refl refl (word_more 85 _ refl refl (byte_word 69 refl refl)))
scalar_word (Scalars.Bool false) h =
    word_more 70 _ refl refl (word_more 65 _ refl refl (word_more 76 _ refl refl (word_more 83 _ refl refl (byte_word 69 refl refl))))

split_id : (id : CallId) → id_text id ≡ decimal id.process ++ 46 ∷ decimal id.number
split_id id = append_assoc (decimal id.process) (46 ∷ []) (decimal id.number)

pub id_word : (processes : ℕ) (id : CallId) → processes ≤ 16 → IsNamed processes id → IsWord (id_text id)
id_word processes id few h =
    subst (λ (w : Word). IsWord w) (sym (split_id id))
    (words_joined (decimal id.process) (46 ∷ decimal id.number) (decimal_word id.process (omega (arith, few, h.below)))
    (word_more 46 (decimal id.number) refl refl (decimal_word id.number h.small)))

-- what is written of a name of a call names it
pub id_named : (processes : ℕ) (id : CallId) → processes ≤ 16 → IsNamed processes id → IsId processes (id_text id) id
id_named processes id few h =
    subst (λ (w : Word). IsId processes w id) (sym (split_id id))
    (Lines.id (numeral id.process (omega (arith, few, h.below))) h.below (numeral id.number h.small) h.small)
