-- What the machine reads and writes where block and stack are parts of one list of words, below the temporaries.
use Rattle.std.proofs.Common.{◌≡◌, ℕ, ◌-◌, ◌<◌, ◌≤◌, ℤ, pos, Bool, false, List, ◌++◌, length, take, drop, ltb, get_or, set, refl, sym, ap, ap₂, ◌∙◌, ⊎_elim, length-append, arith}
use Rattle.std.specs.Prelude.{if◌then◌else◌, nat_lt}
use Rattle.std.proofs.lemmas.Bool.{cases_lt, lt-ltb}
use Rattle.std.proofs.lemmas.Bool.Decides.{nat_tests}
use Rattle.std.proofs.lemmas.List.{get_or_append_left, get_or-append_right, set-append_left, set-append_right, take_at, drop_at}
use Rattle.std.proofs.lemmas.List as Lists
use Rattle.ob_code_words.specs.Words.{Made, Gives, Sticks}
use Rattle.ob_code_scheme.specs.Memory.{WordAt, PutAt}

above : (m n : ℕ) → n ≤ m → ltb m n ≡ false
above m n h = grind (arith, nat_tests)

-- two lists that are equal, cut at one length
pub cut_equal : (a b c d : List ℤ) → length a ≡ length c → a ++ b ≡ c ++ d → (a ≡ c) × (b ≡ d)
cut_equal a b c d n e = (
  sym (take_at a b (length a) refl) ∙ ap (take (length a)) e ∙ take_at c d (length a) (sym n),
  sym (drop_at a b (length a) refl) ∙ ap (drop (length a)) e ∙ drop_at c d (length a) (sym n),
)

pub word_at_holds : WordAt
word_at_holds block stack temps a below =
    ⊎_elim
    (λ here.
    ap (λ (b : Bool). if b then Gives (get_or block a (pos 0)) else rest) (lt-ltb a (length block) here)
    ∙ ap (λ (w : ℤ). Gives w) (sym (get_or_append_left block stack (pos 0) a here)))
    (λ behind.
    let n : a - length block < length stack = omega (arith, below, behind, length-append block stack) in
    let room : a - length block < length (stack ++ temps) = omega (arith, n, length-append stack temps) in
    ap (λ (b : Bool). if b then Gives (get_or block a (pos 0)) else rest) (above a (length block) behind)
    ∙ ap (λ (b : Bool). if b then Gives (get_or (stack ++ temps) (a - length block) (pos 0)) else Sticks) (lt-ltb (a - length block) (length (stack ++ temps)) room)
    ∙ ap (λ (w : ℤ). Gives w) (get_or_append_left stack temps (pos 0) (a - length block) n ∙ sym (get_or-append_right block stack (length block) a (pos 0) refl behind)))
    (cases_lt a (length block))
  where
    rest : Made ℤ
    rest = if nat_lt (a - length block) (length (stack ++ temps)) then Gives (get_or (stack ++ temps) (a - length block) (pos 0)) else Sticks

pub put_at_holds : PutAt
put_at_holds block stack temps after_block after_stack a w below same are =
    ⊎_elim
    (λ here.
    let cut = cut_equal after_block after_stack (set block a w) stack (same ∙ sym (Lists.length-set block a w)) (are ∙ set-append_left block stack a w here) in
    ap (λ (b : Bool). if b then Gives (set block a w, stack ++ temps) else rest) (lt-ltb a (length block) here)
    ∙ ap₂ (λ (b s : List ℤ). Gives (b, s ++ temps)) (sym cut.0) (sym cut.1))
    (λ behind.
    let i : ℕ = a - length block in
    let n : i < length stack = omega (arith, below, behind, length-append block stack) in
    let room : i < length (stack ++ temps) = omega (arith, n, length-append stack temps) in
    let cut = cut_equal after_block after_stack block (set stack i w) same (are ∙ set-append_right block stack (length block) a w refl behind) in
    ap (λ (b : Bool). if b then Gives (set block a w, stack ++ temps) else rest) (above a (length block) behind)
    ∙ ap (λ (b : Bool). if b then Gives (block, set (stack ++ temps) i w) else Sticks) (lt-ltb i (length (stack ++ temps)) room)
    ∙ ap (λ (s : List ℤ). Gives (block, s)) (set-append_left stack temps i w n)
    ∙ ap₂ (λ (b s : List ℤ). Gives (b, s ++ temps)) (sym cut.0) (sym cut.1))
    (cases_lt a (length block))
  where
    rest : Made (List ℤ × List ℤ)
    rest = if nat_lt (a - length block) (length (stack ++ temps)) then Gives (block, set (stack ++ temps) (a - length block) w) else Sticks
