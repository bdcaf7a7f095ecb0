-- Words one by one, as they are matched.
use Rattle.std.proofs.Common.{◌≡◌, ◌<◌, ◌≤◌, refl, subst, true, Bool, Bor, List, [], ◌∷◌, Option, IfSome, length, get_or, map, arith, ap, ap₂, sym, ◌∙◌}
use Rattle.std.proofs.lemmas.Slice.Eq.{bytes_eq-Decides}
use Rattle.std.specs.Str.{bytes_eq}
use Rattle.ob_command.specs.CommandLine.{Text, request}
use Rattle.ob_command.specs.Commands.{request_of}
use Rattle.ob_command.specs.declared.command.Command.{Command}

abbrev pub texts : List (Bor Text) → List Text
texts words = map (λ (word : Bor Text). word.now) words

-- a word is one that is written out
pub same_word : (word name : Text) (same : Bool) → same ≡ bytes_eq word name → same ≡ true → word ≡ name
same_word word name same is true_here = (bytes_eq-Decides word name).0 (sym is ∙ true_here)

-- what a command is asked for by
abbrev pub IsAskedBy : Option Command → List Text → Type 0
IsAskedBy made words = IfSome made (λ command. request_of command ≡ request words)

asked : (made : Option Command) (words others : List Text) → words ≡ others → IsAskedBy made words → IsAskedBy made others
asked made words others same is = subst (λ (w : List Text). IsAskedBy made w) same is

two : (words : List (Bor Text)) (a b : Bor Text) → 2 ≤ length words → length words < 3 → (get_or words 0 a).now ∷ (get_or words 1 b).now ∷ [] ≡ texts words
two [] a b some few = absurd (omega (arith, some))
two (x ∷ []) a b some few = absurd (omega (arith, some))
two (x ∷ y ∷ []) a b some few = refl
two (x ∷ y ∷ z ∷ rest) a b some few = absurd (omega (arith, few))

three : (words : List (Bor Text)) (a b d : Bor Text) → 3 ≤ length words → length words < 4
    → (get_or words 0 a).now ∷ (get_or words 1 b).now ∷ (get_or words 2 d).now ∷ [] ≡ texts words
three [] a b d some few = absurd (omega (arith, some))
three (x ∷ rest) a b d some few = ap (λ (w : List Text). x.now ∷ w) (two rest b d (omega (arith, some)) (omega (arith, few)))

four : (words : List (Bor Text)) (a b d e : Bor Text) → 4 ≤ length words → length words < 5
    → (get_or words 0 a).now ∷ (get_or words 1 b).now ∷ (get_or words 2 d).now ∷ (get_or words 3 e).now ∷ [] ≡ texts words
four [] a b d e some few = absurd (omega (arith, some))
four (x ∷ rest) a b d e some few = ap (λ (w : List Text). x.now ∷ w) (three rest b d e (omega (arith, some)) (omega (arith, few)))

five : (words : List (Bor Text)) (a b d e f : Bor Text) → 5 ≤ length words → length words < 6
    → (get_or words 0 a).now ∷ (get_or words 1 b).now ∷ (get_or words 2 d).now ∷ (get_or words 3 e).now ∷ (get_or words 4 f).now ∷ [] ≡ texts words
five [] a b d e f some few = absurd (omega (arith, some))
five (x ∷ rest) a b d e f some few = ap (λ (w : List Text). x.now ∷ w) (four rest b d e f (omega (arith, some)) (omega (arith, few)))

six : (words : List (Bor Text)) (a b d e f h : Bor Text) → 6 ≤ length words → length words < 7
    → (get_or words 0 a).now ∷ (get_or words 1 b).now ∷ (get_or words 2 d).now ∷ (get_or words 3 e).now ∷ (get_or words 4 f).now ∷ (get_or words 5 h).now ∷ [] ≡ texts words
six [] a b d e f h some few = absurd (omega (arith, some))
six (x ∷ rest) a b d e f h some few = ap (λ (w : List Text). x.now ∷ w) (five rest b d e f h (omega (arith, some)) (omega (arith, few)))

-- the name of a command, and names of files
pub by_one : (made : Option Command) (words : List (Bor Text)) (a b : Bor Text) (name : Text) → 2 ≤ length words → length words < 3
    → (get_or words 0 a).now ≡ name → IsAskedBy made (name ∷ (get_or words 1 b).now ∷ []) → IsAskedBy made (texts words)
by_one made words a b name some few named is =
    asked made _ _ (ap (λ (n : Text). n ∷ (get_or words 1 b).now ∷ []) (sym named) ∙ two words a b some few) is

pub by_two : (made : Option Command) (words : List (Bor Text)) (a b d : Bor Text) (name : Text) → 3 ≤ length words → length words < 4
    → (get_or words 0 a).now ≡ name → IsAskedBy made (name ∷ (get_or words 1 b).now ∷ (get_or words 2 d).now ∷ []) → IsAskedBy made (texts words)
by_two made words a b d name some few named is =
    asked made _ _ (ap (λ (n : Text). n ∷ (get_or words 1 b).now ∷ (get_or words 2 d).now ∷ []) (sym named) ∙ three words a b d some few) is

-- and an option with what stands behind it
pub by_two_counted : (made : Option Command) (words : List (Bor Text)) (a b d e f : Bor Text) (name option : Text) → 5 ≤ length words → length words < 6
    → (get_or words 0 a).now ≡ name → (get_or words 3 e).now ≡ option
    → IsAskedBy made (name ∷ (get_or words 1 b).now ∷ (get_or words 2 d).now ∷ option ∷ (get_or words 4 f).now ∷ []) → IsAskedBy made (texts words)
by_two_counted made words a b d e f name option some few named optional is =
    asked made _ _
    (ap₂ (λ (n o : Text). n ∷ (get_or words 1 b).now ∷ (get_or words 2 d).now ∷ o ∷ (get_or words 4 f).now ∷ []) (sym named) (sym optional)
    ∙ five words a b d e f some few) is

pub by_three_counted : (made : Option Command) (words : List (Bor Text)) (a b d e f h : Bor Text) (name option : Text) → 6 ≤ length words → length words < 7
    → (get_or words 0 a).now ≡ name → (get_or words 4 f).now ≡ option
    → IsAskedBy made (name ∷ (get_or words 1 b).now ∷ (get_or words 2 d).now ∷ (get_or words 3 e).now ∷ option ∷ (get_or words 5 h).now ∷ [])
    → IsAskedBy made (texts words)
by_three_counted made words a b d e f h name option some few named optional is =
    asked made _ _
    (ap₂ (λ (n o : Text). n ∷ (get_or words 1 b).now ∷ (get_or words 2 d).now ∷ (get_or words 3 e).now ∷ o ∷ (get_or words 5 h).now ∷ [])
    (sym named) (sym optional) ∙ six words a b d e f h some few) is
