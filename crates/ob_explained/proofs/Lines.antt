-- In which line a place is shown.
use Rattle.std.proofs.Common.{◌≡◌, ◌+◌, ◌<◌, ◌≤◌, ℕ, zero, suc, Bool, cond, true, false, List, [], ◌∷◌, length, take, slice_get, Some, refl, ap, ◌∙◌, arith}
use Rattle.std.specs.List.{fold, onto_first}
use Rattle.ob_text_words.specs.Words.{lines}
use Rattle.ob_explain_sentences.specs.declared.place.Place.{Place}
use Rattle.ob_explain_sentences.specs.Places.{behind_byte, is_line_feed}
use Rattle.ob_explained.specs.ScriptPlaces.{behind_feeds}
use Rattle.ob_explained.proofs.Feeds.{some_line}

-- the place behind one byte, which is a line feed or none
abbrev after : Bool → Place → Place
after t p = cond t (record { line = p.line + 1; column = 1 }) (record { line = p.line; column = p.column + 1 })

in_first : (t : Bool) (b at : ℕ) (bs : List ℕ) (parts : List (List ℕ)) (bytes : List ℕ) (p : Place) → 0 < length parts
    → ((x : List ℕ) (q : Place) → slice_get parts 0 ≡ Some x → at ≤ length x → (fold behind_byte q (take at bs)).line ≡ q.line + 0)
    → slice_get (cond t ([] ∷ parts) (onto_first b parts)) 0 ≡ Some bytes → suc at ≤ length bytes
    → (fold behind_byte (after t p) (take at bs)).line ≡ p.line + 0
in_first true b at bs parts bytes p some of_rest h within =
    let none : [] ≡ bytes = cc in
    let zero_long : 0 ≡ length bytes = ap length none in
    absurd (omega (arith, within, zero_long))
in_first false b at bs [] bytes p some of_rest h within = absurd (omega (arith, some))
in_first false b at bs (part ∷ parts) bytes p some of_rest h within =
    let same : b ∷ part ≡ bytes = cc in
    let long : suc (length part) ≡ length bytes = ap length same in
    of_rest part (after false p) refl (omega (arith, within, long))

in_later : (t : Bool) (n b at : ℕ) (bs : List ℕ) (parts : List (List ℕ)) (bytes : List ℕ) (p : Place) → 0 < length parts
    → ((k : ℕ) (x : List ℕ) (q : Place) → slice_get parts k ≡ Some x → behind_feeds k bs ≤ at → at ≤ behind_feeds k bs + length x
    → (fold behind_byte q (take at bs)).line ≡ q.line + k)
    → slice_get (cond t ([] ∷ parts) (onto_first b parts)) (suc n) ≡ Some bytes
    → suc (behind_feeds (cond t n (suc n)) bs) ≤ suc at → suc at ≤ suc (behind_feeds (cond t n (suc n)) bs) + length bytes
    → (fold behind_byte (after t p) (take at bs)).line ≡ p.line + suc n
in_later true n b at bs parts bytes p some of_rest h begins within =
    let shown = of_rest n bytes (after true p) h (omega (arith, begins)) (omega (arith, within)) in
    let counted : p.line + 1 + n ≡ p.line + suc n = omega arith in
    shown ∙ counted
in_later false n b at bs [] bytes p some of_rest h begins within = absurd (omega (arith, some))
in_later false n b at bs (part ∷ parts) bytes p some of_rest h begins within =
    of_rest (suc n) bytes (after false p) h (omega (arith, begins)) (omega (arith, within))

pub shown_in : (text : List ℕ) (n at : ℕ) (bytes : List ℕ) (p : Place) → slice_get (lines text) n ≡ Some bytes
    → behind_feeds n text ≤ at → at ≤ behind_feeds n text + length bytes → (fold behind_byte p (take at text)).line ≡ p.line + n
shown_in [] zero zero bytes p h begins within = omega arith
shown_in [] zero (suc at) bytes p h begins within = omega arith
shown_in [] (suc n) at bytes p h begins within = cc
shown_in (b ∷ bs) zero zero bytes p h begins within = omega arith
shown_in (b ∷ bs) zero (suc at) bytes p h begins within =
    in_first (is_line_feed b) b at bs (lines bs) bytes p (some_line bs)
    (λ x q e few. shown_in bs 0 at x q e (omega arith) (omega (arith, few))) h (omega (arith, within))
shown_in (b ∷ bs) (suc n) zero bytes p h begins within = absurd (omega (arith, begins))
shown_in (b ∷ bs) (suc n) (suc at) bytes p h begins within =
    in_later (is_line_feed b) n b at bs (lines bs) bytes p (some_line bs) (λ k x q e begin few. shown_in bs k at x q e begin few) h begins within
