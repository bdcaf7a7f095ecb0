-- What is appended part by part.
use Rattle.std.proofs.Common.{◌≡◌, ℕ, List, ◌++◌, Result, Ok, Err, OnOk, is_ok, if◌then◌else◌, ap, ◌∙◌, append_assoc}

pub pushed_if : {T E : Type 0} (r : Result T E) (new done kept : List ℕ) → new ≡ (if is_ok r then done else kept) → OnOk r (new ≡ done)
pushed_if (Ok x) new done kept h = h
pushed_if (Err e) new done kept h = tt

pub pushed_three : (old a b c one two three : List ℕ) → one ≡ old ++ a → two ≡ one ++ b → three ≡ two ++ c → three ≡ old ++ (a ++ (b ++ c))
pushed_three old a b c one two three first second third =
    third ∙ ap (λ t. t ++ c) (second ∙ ap (λ t. t ++ b) first ∙ append_assoc old a b) ∙ append_assoc old (a ++ b) c
    ∙ ap (λ t. old ++ t) (append_assoc a b c)

-- one more part
on : (old done part before after : List ℕ) → before ≡ old ++ done → after ≡ before ++ part → after ≡ old ++ (done ++ part)
on old done part before after first second = second ∙ ap (λ t. t ++ part) first ∙ append_assoc old done part

pub pushed_four : (old a b c d one two three four : List ℕ) → one ≡ old ++ a → two ≡ one ++ b → three ≡ two ++ c → four ≡ three ++ d
    → four ≡ old ++ (((a ++ b) ++ c) ++ d)
pushed_four old a b c d one two three four first second third fourth =
    on old ((a ++ b) ++ c) d three four (on old (a ++ b) c two three (on old a b one two first second) third) fourth

pub begun_with : (a b c d noun none one two three : List ℕ) → none ≡ a → one ≡ none ++ b → two ≡ one ++ noun → noun ≡ c → three ≡ two ++ d
    → three ≡ ((a ++ b) ++ c) ++ d
begun_with a b c d noun none one two three begun first second named third =
    third ∙ ap (λ t. t ++ d) (second ∙ ap (λ t. one ++ t) named ∙ ap (λ t. t ++ c) (first ∙ ap (λ t. t ++ b) begun))
