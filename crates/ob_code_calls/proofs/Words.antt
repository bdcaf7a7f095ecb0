-- States of scalars and their words, one variable after the other.
use Rattle.std.proofs.Common.{◌≡◌, ℕ, zero, suc, ◌+◌, ◌<◌, List, [], ◌∷◌, ◌++◌, map, length, take, drop, set, get_or, refl, ap, ◌∙◌, sym, subst, Option, Some, append_assoc, append-nil, arith}
use Rattle.std.specs.Prelude.{ℤ}
use Rattle.std.proofs.lemmas.List.{take_more, take_more_set, drop_more, drop_all, take_all}
use Rattle.ob_checked.specs.Types.{Entry, type_in}
use Rattle.ob_checked.specs.View.{variable_of}
use Rattle.ob_checked.specs.declared.program.Variable as Declared
use Rattle.ob_interface.specs.declared.scalar.Scalar.{Scalar}
use Rattle.ob_typing.specs.Program.{DataType, Variable}
use Rattle.ob_meaning.specs.ByPositionStore.{Activation, Holds}
use Rattle.ob_meaning.specs.ByPositionValue.{Value, Single}
use Rattle.ob_code_calls.specs.Scalars.{IsReadAs, held_of}
use Rattle.ob_code_scheme.specs.Layout.{word, encoded, decoded, value_in, IsEncoding, ◌>>=◌}
use Rattle.ob_code_scheme.specs.Types.{IsValueOf, IsStateOf}

map_push : {A B : Type 0} (f : A → B) (xs : List A) (x : A) → map f (xs ++ x ∷ []) ≡ map f xs ++ f x ∷ []
map_push f [] x = refl
map_push {A} {B} f (y ∷ xs) x = ap (λ (l : List B). f y ∷ l) (map_push f xs x)

-- what stands at a place does not depend on what would stand behind the end
pub get_any : {A : Type 0} (xs : List A) (i : ℕ) (d e : A) → i < length xs → get_or xs i d ≡ get_or xs i e
get_any [] i d e h = absurd (omega (arith, h))
get_any (x ∷ xs) zero d e h = refl
get_any (x ∷ xs) (suc i) d e h = get_any xs i d e (omega (arith, h))

take_next : {A : Type 0} (xs : List A) (i : ℕ) (x : A) → i < length xs → x ≡ get_or xs i x → take (i + 1) xs ≡ take i xs ++ x ∷ []
take_next {A} xs i x lt here = take_more xs i x lt ∙ ap (λ (y : A). take i xs ++ y ∷ []) (sym here)

drop_next : {A : Type 0} (xs : List A) (i : ℕ) (x : A) → i < length xs → x ≡ get_or xs i x → drop i xs ≡ x ∷ drop (i + 1) xs
drop_next {A} xs i x lt here = drop_more xs i x lt ∙ ap (λ (y : A). y ∷ drop (i + 1) xs) (sym here)

-- the words of such a state are those of its scalars
words_are : (scalars : List Scalar) → encoded (map held_of scalars) ≡ map word scalars
words_are [] = refl
words_are (s ∷ scalars) = ap (λ (ws : List ℤ). word s ∷ ws) (words_are scalars)

-- one more variable behind others
state_more : (variables : List Variable) (scalars : List Scalar) (v : Variable) (s : Scalar) → IsStateOf variables (map held_of scalars) → IsValueOf v.type (Single s) →
    IsStateOf (variables ++ v ∷ []) (map held_of (scalars ++ s ∷ []))
state_more [] [] v s h typed = (typed, tt)
state_more [] (x ∷ scalars) v s h typed = absurd h
state_more (u ∷ variables) [] v s h typed = absurd h
state_more (u ∷ variables) (x ∷ scalars) v s h typed = (h.0, state_more variables scalars v s h.1 typed)

-- what follows a value that was read, and a scalar as one
abbrev rest_of : List Variable → Option (Value × List ℤ) → Option Activation
rest_of variables o = o >>= (λ (read : Value × List ℤ). decoded variables read.1 >>= (λ (state : Activation). Some (Holds read.0 ∷ state)))

abbrev single_of : List ℤ → Option Scalar → Option (Value × List ℤ)
single_of words o = o >>= (λ (s : Scalar). let pair : Value × List ℤ = (Single s, words) in Some pair)

-- one more that is read before others
read_more : (v : Variable) (variables : List Variable) (w : ℤ) (words : List ℤ) (s : Scalar) (rest : Activation) → IsReadAs v.type w s →
    decoded variables words ≡ Some rest → decoded (v ∷ variables) (w ∷ words) ≡ Some (held_of s ∷ rest)
read_more v variables w words s rest is h =
    ap (λ (t : DataType). rest_of variables (value_in t (w ∷ words))) is.simple
    ∙ ap (λ (o : Option Scalar). rest_of variables (single_of words o)) is.read
    ∙ ap (λ (o : Option Activation). o >>= (λ (state : Activation). Some (held_of s ∷ state))) h

-- the variables of a program and their values, one more of each
module _ (variables : List Declared.Variable) (i : ℕ) (v : Declared.Variable) (below : i < length variables) (here : v ≡ get_or variables i v) where
  module _ (scalars : List Scalar) (s : Scalar) (within : i < length scalars) (there : s ≡ get_or scalars i s) where
    pub typed_more : ((types : List Entry) → IsStateOf (map (variable_of types) (take i variables)) (map held_of (take i scalars))) →
        ((types : List Entry) → IsValueOf (type_in types v.data_type) (Single s)) →
        (types : List Entry) → IsStateOf (map (variable_of types) (take (i + 1) variables)) (map held_of (take (i + 1) scalars))
    typed_more so_far typed types =
        subst (λ (vs : List Declared.Variable). IsStateOf (map (variable_of types) vs) (map held_of (take (i + 1) scalars))) (sym (take_next variables i v below here))
        (subst (λ (ss : List Scalar). IsStateOf (map (variable_of types) (take i variables ++ v ∷ [])) (map held_of ss)) (sym (take_next scalars i s within there))
        (subst (λ (vs : List Variable). IsStateOf vs (map held_of (take i scalars ++ s ∷ []))) (sym (map_push (variable_of types) (take i variables) v))
        (state_more (map (variable_of types) (take i variables)) (take i scalars) (variable_of types v) s (so_far types) (typed types))))

  module _ (words : List ℤ) (w : ℤ) (inside : i < length words) (at : w ≡ get_or words i w) (s : Scalar) (ss : List Scalar) where
    pub read_next : ((types : List Entry) → IsReadAs (type_in types v.data_type) w s) →
        ((types : List Entry) (rest : Activation) → decoded (map (variable_of types) (drop i variables)) (drop i words) ≡ Some rest → decoded (map (variable_of types) variables) words ≡ Some (map held_of ss ++ rest)) →
        (types : List Entry) (rest : Activation) → decoded (map (variable_of types) (drop (i + 1) variables)) (drop (i + 1) words) ≡ Some rest →
        decoded (map (variable_of types) variables) words ≡ Some (map held_of (ss ++ s ∷ []) ++ rest)
    read_next read so_far types rest later =
        so_far types (held_of s ∷ rest)
        (ap (λ (vs : List Declared.Variable). decoded (map (variable_of types) vs) (drop i words)) (drop_next variables i v below here)
        ∙ ap (λ (ws : List ℤ). decoded (variable_of types v ∷ map (variable_of types) (drop (i + 1) variables)) ws) (drop_next words i w inside at)
        ∙ read_more (variable_of types v) (map (variable_of types) (drop (i + 1) variables)) w (drop (i + 1) words) s rest (read types) later)
        ∙ ap (λ (a : Activation). Some a) (sym (ap (λ (l : Activation). l ++ rest) (map_push held_of ss s) ∙ append_assoc (map held_of ss) (held_of s ∷ []) rest))

-- one more word
pub laid_more : (words : List ℤ) (i : ℕ) (w : ℤ) (scalars : List Scalar) (s : Scalar) → i < length words → i < length scalars → s ≡ get_or scalars i s → w ≡ word s →
    take i words ≡ map word (take i scalars) → take (i + 1) (set words i w) ≡ map word (take (i + 1) scalars)
laid_more words i w scalars s inside within there is so_far =
    take_more_set words i w inside
    ∙ ap (λ (ws : List ℤ). ws ++ w ∷ []) so_far
    ∙ ap (λ (x : ℤ). map word (take i scalars) ++ x ∷ []) is
    ∙ sym (map_push word (take i scalars) s)
    ∙ ap (map word) (sym (take_next scalars i s within there))

-- all of them
pub laid_all : (variables : List Declared.Variable) (scalars : List Scalar) (words : List ℤ) (n : ℕ) → length variables ≡ n → length scalars ≡ n → length words ≡ n →
    ((types : List Entry) → IsStateOf (map (variable_of types) (take n variables)) (map held_of (take n scalars))) → take n words ≡ map word (take n scalars) →
    (types : List Entry) → IsEncoding (map (variable_of types) variables) (map held_of scalars) words
laid_all variables scalars words n a b c typed laid types =
    let vs = take_all n variables (omega (arith, a)) in
    let ss = take_all n scalars (omega (arith, b)) in
    let ws = take_all n words (omega (arith, c)) in
    record {
      typed =
          subst (λ (l : List Declared.Variable). IsStateOf (map (variable_of types) l) (map held_of scalars)) vs
          (subst (λ (l : List Scalar). IsStateOf (map (variable_of types) (take n variables)) (map held_of l)) ss (typed types));
      words_are = sym ws ∙ laid ∙ ap (map word) ss ∙ sym (words_are scalars);
    }

pub read_all : (variables : List Declared.Variable) (words : List ℤ) (n : ℕ) → length variables ≡ n → length words ≡ n → (ss : List Scalar) →
    ((types : List Entry) (rest : Activation) → decoded (map (variable_of types) (drop n variables)) (drop n words) ≡ Some rest → decoded (map (variable_of types) variables) words ≡ Some (map held_of ss ++ rest)) →
    (types : List Entry) → decoded (map (variable_of types) variables) words ≡ Some (map held_of ss)
read_all variables words n a b ss so_far types =
    so_far types [] (ap (λ (vs : List Declared.Variable). decoded (map (variable_of types) vs) (drop n words)) (drop_all n variables (omega (arith, a))) ∙ ap (λ (ws : List ℤ). decoded [] ws) (drop_all n words (omega (arith, b))))
    ∙ ap (λ (x : Activation). Some x) (append-nil (map held_of ss))
