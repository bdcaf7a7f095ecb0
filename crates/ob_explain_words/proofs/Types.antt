-- The type that tokens begin with, by its first token.
use Rattle.std.proofs.Common.{◌≡◌, ℕ, zero, suc, ◌-◌, ◌<◌, ◌≤◌, true, false, List, [], ◌∷◌, None, length, get_or, drop, refl, sym, ◌∙◌, ap, arith}
use Rattle.ob_scan.specs.declared.token.Token.{Token}
use Rattle.ob_explain_words.specs.Counts.{at_least_one, product_of}
use Rattle.ob_explain_tokens.specs.Kinds.{is_array, is_record}
use Rattle.ob_explain_words.specs.Lengths.{length_behind}
use Rattle.ob_explain_words.specs.Scopes.{Scope}
use Rattle.ob_explain_words.specs.Types.{list_words, simple_words, type_words}
use Rattle.ob_explain_words.specs.declared.type_lists.Reading.TheVariants.{Names}

pub no_type : (s : Scope) (deep : ℕ) (ts : List Token) → length ts < 1 → type_words s deep ts ≡ None
unfolding type_words
no_type s zero [] short = refl
no_type s (suc deep) [] short = refl
no_type s deep (t ∷ rest) short = absurd (omega arith)

pub no_deeper : (s : Scope) (deep : ℕ) (ts : List Token) (d : Token) → 1 ≤ length ts → deep ≡ 0 → type_words s deep ts ≡ simple_words s (get_or ts 0 d)
unfolding type_words
no_deeper s deep [] d some is = absurd (omega arith)
no_deeper s zero (t ∷ rest) d some is = refl
no_deeper s (suc deep) (t ∷ rest) d some is = absurd (omega arith)

pub name_there : (s : Scope) (deep : ℕ) (ts : List Token) (d : Token) → 1 ≤ length ts →
    is_array (get_or ts 0 d).kind ≡ false → is_record (get_or ts 0 d).kind ≡ false → type_words s deep ts ≡ simple_words s (get_or ts 0 d)
unfolding type_words
name_there s deep [] d some array other = absurd (omega arith)
name_there s zero (t ∷ rest) d some array other = refl
name_there s (suc deep) (t ∷ rest) d some array other = rw (array, other) refl

pub array_there : (s : Scope) (deep : ℕ) (ts rest : List Token) (d : Token) → 1 ≤ length ts → rest ≡ drop 1 ts → (deep ≡ 0 → ⊥) →
    is_array (get_or ts 0 d).kind ≡ true →
    type_words s deep ts ≡ product_of (length_behind s rest) (type_words s (deep - 1) (drop 2 rest))
unfolding type_words
array_there s deep [] rest d some behind inner is = absurd (omega arith)
array_there s zero (t ∷ ts) rest d some behind inner is = absurd (inner refl)
array_there s (suc deep) (t ∷ ts) rest d some behind inner is =
    let less : deep ≡ suc deep - 1 = omega arith in
    rw is refl ∙ ap (λ n. product_of (length_behind s ts) (type_words s n (drop 2 ts))) less
    ∙ ap (λ r. product_of (length_behind s r) (type_words s (suc deep - 1) (drop 2 r))) (sym behind)

pub record_there : (s : Scope) (deep : ℕ) (ts rest : List Token) (d : Token) → 1 ≤ length ts → rest ≡ drop 1 ts → (deep ≡ 0 → ⊥) →
    is_array (get_or ts 0 d).kind ≡ false → is_record (get_or ts 0 d).kind ≡ true →
    type_words s deep ts ≡ at_least_one (list_words (type_words s (deep - 1)) (length s.text) 0 (Names 0) rest)
unfolding type_words
record_there s deep [] rest d some behind inner other is = absurd (omega arith)
record_there s zero (t ∷ ts) rest d some behind inner other is = absurd (inner refl)
record_there s (suc deep) (t ∷ ts) rest d some behind inner other is =
    let less : deep ≡ suc deep - 1 = omega arith in
    rw (other, is) refl ∙ ap (λ n. at_least_one (list_words (type_words s n) (length s.text) 0 (Names 0) ts)) less
    ∙ ap (λ r. at_least_one (list_words (type_words s (suc deep - 1)) (length s.text) 0 (Names 0) r)) (sym behind)
