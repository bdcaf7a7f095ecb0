-- The words of values, as they are added.
use Rattle.std.proofs.Common.{◌≡◌, ◌∙◌, ap, refl, sym, ℕ, ◌+◌, ◌<◌, List, [], ◌∷◌, ◌++◌, length, get_or, take, Vec, Global, append_assoc, append-nil, suc}
use Rattle.std.proofs.lemmas.List.{take_more}
use Rattle.ob_object_search.specs.Words.{count_of, value_words, parts_words, words_of}
use Rattle.ob_store.proofs.Parts.{value_in-parts}
use Rattle.ob_store.specs.View.{value_in, values_in, variables_in}
use Rattle.ob_store.specs.declared.value.Value.{Value}
use Rattle.ob_store.specs.declared.value.Value.TheVariants as Variants

parts_push : (vs : List Value) (v : Value) → parts_words (values_in (vs ++ v ∷ [])) ≡ parts_words (values_in vs) ++ value_words (value_in v)
parts_push [] v = append-nil (value_words (value_in v))
parts_push (u ∷ us) v =
    ap (λ (l : List ℕ). value_words (value_in u) ++ l) (parts_push us v)
    ∙ sym (append_assoc (value_words (value_in u)) (parts_words (values_in us)) (value_words (value_in v)))

-- one value more
pub words_more : (words so_far added : List ℕ) (vs : List Value) (i : ℕ) (v : Value) → i < length vs → v ≡ get_or vs i v → added ≡ so_far ++ value_words (value_in v) →
    so_far ≡ words ++ parts_words (values_in (take i vs)) → added ≡ words ++ parts_words (values_in (take (i + 1) vs))
words_more words so_far added vs i v below here pushed is =
    pushed ∙ ap (λ (l : List ℕ). l ++ value_words (value_in v)) is
    ∙ append_assoc words (parts_words (values_in (take i vs))) (value_words (value_in v))
    ∙ ap (λ (l : List ℕ). words ++ l)
    (sym (parts_push (take i vs) v) ∙ ap (λ (us : List Value). parts_words (values_in us)) (sym (take_more vs i v below ∙ ap (λ (x : Value). take i vs ++ x ∷ []) (sym here))))

count_is : (vs : List Value) → count_of (values_in vs) ≡ length vs
count_is [] = refl
count_is (v ∷ vs) = ap suc (count_is vs)

-- a value that has parts
pub words_parts : (words first second all : List ℕ) (v : Value) (parts : Vec Value Global) (slice : List Value) (n : ℕ) → v ≡ Variants.Parts parts → slice ≡ parts.items → n ≡ length parts.items →
    first ≡ words ++ 3 ∷ [] → second ≡ first ++ n ∷ [] → all ≡ second ++ parts_words (values_in slice) → all ≡ words ++ value_words (value_in v)
words_parts words first second all v parts slice n is same count a b c =
    c ∙ ap (λ (l : List ℕ). l ++ parts_words (values_in slice)) (b ∙ ap (λ (l : List ℕ). l ++ n ∷ []) a)
    ∙ append_assoc (words ++ 3 ∷ []) (n ∷ []) (parts_words (values_in slice))
    ∙ append_assoc words (3 ∷ []) (n ∷ parts_words (values_in slice))
    ∙ ap (λ (l : List ℕ). words ++ l)
    (ap (λ (us : List Value). 3 ∷ n ∷ parts_words (values_in us)) same
    ∙ ap (λ (k : ℕ). 3 ∷ k ∷ parts_words (values_in parts.items)) (count ∙ sym (count_is parts.items))
    ∙ sym (ap value_words (ap value_in is ∙ value_in-parts parts)))

-- the words of variables are those of their values
pub words_all : (vs : List Value) → words_of (variables_in vs) ≡ parts_words (values_in vs)
words_all [] = refl
words_all (v ∷ vs) = ap (λ (l : List ℕ). value_words (value_in v) ++ l) (words_all vs)
