-- Texts cut off from bytes one after the other, by their lengths.
use Rattle.std.proofs.Common.{◌≡◌, ◌∙◌, ℕ, ◌+◌, ◌<◌, ◌≤◌, ◌==◌, Bor, false, List, [], ◌∷◌, ◌++◌, ap, arith, get_or, length, map, refl, sym, take}
use Rattle.std.proofs.lemmas.List.Sums.{sum_by-drop_more, sum_by-take-drop}
use Rattle.std.proofs.lemmas.List.{append_assoc, append-nil, length-append, map-append, take-append-drop, take_all, take_more}
use Rattle.std.proofs.lemmas.List.Folds.{concat-append}
use Rattle.std.specs.List.{IsSplitAt, concat, sum_by}
use Rattle.ob_answer_files.specs.Texts.{AreTexts}

sum_more : (n : ℕ) (ns : List ℕ) → sum_by (λ m. m) (n ∷ ns) ≡ n + sum_by (λ m. m) ns
sum_more n ns = sum_by-drop_more (λ m. m) (n ∷ ns) 0 0 (omega arith)

-- all bytes of texts are as many as their lengths say
measure : (texts : List (List ℕ)) → length (concat texts) ≡ sum_by (λ n. n) (map length texts)
measure [] = refl
measure (text ∷ texts) =
    length-append text (concat texts) ∙ (ap (λ n. length text + n) (measure texts) ∙ sym (sum_more (length text) (map length texts)))

total : (bytes lengths : List ℕ) (texts : List (List ℕ)) → AreTexts bytes lengths texts → length bytes ≡ sum_by (λ n. n) lengths
total bytes lengths texts are = ap length (sym are.joined) ∙ (measure texts ∙ ap (sum_by (λ n. n)) are.lengths_are)

left : (bytes lengths : List ℕ) (done : List (List ℕ)) (rest : List ℕ) → concat done ++ rest ≡ bytes → map length done ≡ lengths
    → sum_by (λ n. n) lengths + length rest ≡ length bytes
left bytes lengths done rest joined are =
    ap (λ n. n + length rest) (ap (sum_by (λ n. n)) (sym are) ∙ sym (measure done)) ∙ (sym (length-append (concat done) rest) ∙ ap length joined)

-- where less is left than the next length says, there are no texts of these lengths
pub cut_short : (bytes lengths : List ℕ) (done : List (List ℕ)) (rest : List ℕ) (i : ℕ) → concat done ++ rest ≡ bytes → map length done ≡ take i lengths
    → i < length lengths → length rest < get_or lengths i 0 → (texts : List (List ℕ)) → AreTexts bytes lengths texts → ⊥
cut_short bytes lengths done rest i joined are more short texts of =
    let held = left bytes (take i lengths) done rest joined are in
    let whole = total bytes lengths texts of in
    let parts = sum_by-take-drop (λ n. n) lengths i in
    let next = sum_by-drop_more (λ n. n) lengths i 0 more in
    omega arith

not_empty : (rest : List ℕ) → (length rest == 0) ≡ false → length rest ≡ 0 → ⊥
not_empty [] is none = let bad = is in cc
not_empty (byte ∷ rest) is none = omega (arith, none)

-- nor where something is left behind the last one
pub left_over : (bytes lengths : List ℕ) (done : List (List ℕ)) (rest : List ℕ) (i : ℕ) → concat done ++ rest ≡ bytes → map length done ≡ take i lengths
    → length lengths ≤ i → (length rest == 0) ≡ false → (texts : List (List ℕ)) → AreTexts bytes lengths texts → ⊥
left_over bytes lengths done rest i joined are all more texts of =
    let held = left bytes lengths done rest joined (are ∙ take_all i lengths all) in
    let whole = total bytes lengths texts of in
    not_empty rest more (omega arith)

-- the next text is cut off
pub next_joined : (bytes : List ℕ) (done new : List (Bor (List ℕ))) (text : Bor (List ℕ)) (rest behind : List ℕ) (n : ℕ) → new ≡ done ++ text ∷ []
    → concat (map (λ (t : Bor (List ℕ)). t.now) done) ++ rest ≡ bytes → IsSplitAt rest n text.now behind
    → concat (map (λ (t : Bor (List ℕ)). t.now) new) ++ behind ≡ bytes
next_joined bytes done new text rest behind n new_is joined cut =
    let texts = map (λ (t : Bor (List ℕ)). t.now) done in
    let same : text.now ++ behind ≡ rest = ap (λ t. t ++ behind) cut.1 ∙ (ap (λ b. take n rest ++ b) cut.2 ∙ take-append-drop n rest) in
    ap (λ (l : List (Bor (List ℕ))). concat (map (λ (t : Bor (List ℕ)). t.now) l) ++ behind) new_is
    ∙ (ap (λ (l : List (List ℕ)). concat l ++ behind) (map-append (λ (t : Bor (List ℕ)). t.now) done (text ∷ []))
    ∙ (ap (λ (l : List ℕ). l ++ behind) (concat-append texts (text.now ∷ []))
    ∙ (append_assoc (concat texts) (text.now ++ []) behind
    ∙ (ap (λ (l : List ℕ). concat texts ++ (l ++ behind)) (append-nil text.now) ∙ (ap (λ (l : List ℕ). concat texts ++ l) same ∙ joined)))))

pub next_lengths : (lengths : List ℕ) (done new : List (Bor (List ℕ))) (text : Bor (List ℕ)) (i : ℕ) → new ≡ done ++ text ∷ []
    → map length (map (λ (t : Bor (List ℕ)). t.now) done) ≡ take i lengths → i < length lengths → length text.now ≡ get_or lengths i 0
    → map length (map (λ (t : Bor (List ℕ)). t.now) new) ≡ take (i + 1) lengths
next_lengths lengths done new text i new_is are more is =
    ap (λ (l : List (Bor (List ℕ))). map length (map (λ (t : Bor (List ℕ)). t.now) l)) new_is
    ∙ (ap (λ (l : List (List ℕ)). map length l) (map-append (λ (t : Bor (List ℕ)). t.now) done (text ∷ []))
    ∙ (map-append length (map (λ (t : Bor (List ℕ)). t.now) done) (text.now ∷ [])
    ∙ (ap (λ (l : List ℕ). l ++ length text.now ∷ []) are ∙ (ap (λ n. take i lengths ++ n ∷ []) is ∙ sym (take_more lengths i 0 more)))))
