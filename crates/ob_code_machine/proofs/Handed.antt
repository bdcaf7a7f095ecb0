-- What is handed over, argument by argument.
use Rattle.std.proofs.Common.{◌≡◌, ℕ, suc, ◌+◌, ◌<◌, ◌≤◌, pos, List, [], ◌∷◌, ◌++◌, length, get_or, take, refl, sym, ap, ◌∙◌, arith, length-append, append_assoc}
use Rattle.std.proofs.lemmas.List.{take_more, length-take-le}
use Rattle.ob_code_machine.specs.declared.argument.Argument.{Argument}
use Rattle.ob_code_machine.specs.declared.argument.Argument.TheVariants.{Value, Var}
use Rattle.ob_code_words.specs.StackWords.{StackWords, with_words}
use Rattle.ob_code_machine.specs.Body.{result_count, handed}

pub result_count-push : (xs : List Argument) (a : Argument) → result_count (xs ++ a ∷ []) ≡ result_count xs + result_count (a ∷ [])
result_count-push [] a = omega arith
result_count-push (Value w ∷ xs) a = result_count-push xs a
result_count-push (Var ∷ xs) a = omega (arith, result_count-push xs a)

pub handed-push : (v n : ℕ) (xs : List Argument) (a : Argument) → handed v n (xs ++ a ∷ []) ≡ handed v n xs ++ handed v (n + result_count xs) (a ∷ [])
handed-push v n [] a = let e : n ≡ n + 0 = omega arith in ap (λ k. handed v k (a ∷ [])) e
handed-push v n (Value w ∷ xs) a = ap (λ l. w ∷ l) (handed-push v n xs a)
handed-push v n (Var ∷ xs) a =
    let e : suc n + result_count xs ≡ n + suc (result_count xs) = omega arith in
    ap (λ l. pos (v + n) ∷ l) (handed-push v (suc n) xs a ∙ ap (λ k. handed v (suc n) xs ++ handed v k (a ∷ [])) e)

-- one argument more
pub result_count-more : (xs : List Argument) (i : ℕ) (d : Argument) → i < length xs → result_count (take (i + 1) xs) ≡ result_count (take i xs) + result_count (get_or xs i d ∷ [])
result_count-more xs i d h = ap result_count (take_more xs i d h) ∙ result_count-push (take i xs) (get_or xs i d)

pub handed-more : (v : ℕ) (xs : List Argument) (i : ℕ) (d : Argument) → i < length xs → handed v 0 (take (i + 1) xs) ≡ handed v 0 (take i xs) ++ handed v (result_count (take i xs)) (get_or xs i d ∷ [])
handed-more v xs i d h =
    let e : 0 + result_count (take i xs) ≡ result_count (take i xs) = omega arith in
    ap (handed v 0) (take_more xs i d h) ∙ handed-push v 0 (take i xs) (get_or xs i d) ∙ ap (λ k. handed v 0 (take i xs) ++ handed v k (get_or xs i d ∷ [])) e

pub length-handed : (v n : ℕ) (xs : List Argument) → length (handed v n xs) ≡ length xs
length-handed v n [] = refl
length-handed v n (Value w ∷ xs) = ap suc (length-handed v n xs)
length-handed v n (Var ∷ xs) = ap suc (length-handed v (suc n) xs)

-- there is room for one argument more
pub room_left : (s s0 : StackWords) (v i : ℕ) (xs : List Argument) → s ≡ with_words s0 (s0.words ++ handed v 0 (take i xs)) → i < length xs → length s0.words + length xs ≤ s0.reserve → length s.words < s.reserve
room_left s s0 v i xs e h room =
    let words = ap (λ (t : StackWords). length t.words) e in
    let reserve = ap (λ (t : StackWords). t.reserve) e in
    omega (arith, words, reserve, length-append s0.words (handed v 0 (take i xs)), length-handed v 0 (take i xs), length-take-le i xs (omega arith))

-- the count of results, one argument more
pub count_step : (count more : ℕ) (xs : List Argument) (i : ℕ) (d : Argument) → count ≡ result_count (take i xs) → more ≡ result_count (get_or xs i d ∷ []) → i < length xs → count + more ≡ result_count (take (i + 1) xs)
count_step count more xs i d e f h = omega (arith, e, f, result_count-more xs i d h)

-- the stack behind one argument more
pub stack_more : (s s' s0 : StackWords) (v i before : ℕ) (xs : List Argument) (d : Argument) → s ≡ with_words s0 (s0.words ++ handed v 0 (take i xs)) → before ≡ result_count (take i xs) → i < length xs → s' ≡ with_words s (s.words ++ handed v before (get_or xs i d ∷ [])) → s' ≡ with_words s0 (s0.words ++ handed v 0 (take (i + 1) xs))
stack_more s s' s0 v i before xs d e b h left =
    let a = get_or xs i d in
    left
    ∙ ap (λ (t : StackWords). with_words t (t.words ++ handed v before (a ∷ []))) e
    ∙ ap (with_words s0) (append_assoc s0.words (handed v 0 (take i xs)) (handed v before (a ∷ []))
    ∙ ap (λ l. s0.words ++ l) (ap (λ k. handed v 0 (take i xs) ++ handed v k (a ∷ [])) b
    ∙ sym (handed-more v xs i d h)))
