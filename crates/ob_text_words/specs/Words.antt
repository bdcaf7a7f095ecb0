-- The words of a text, and the numbers and names that they are.
use Rattle.std.specs.Prelude.{◌≡◌, ℕ, ℤ, pos, neg_ℤ, ◌≤◌, ◌==◌, ◌||◌, not, Bool, false, IsTrue, List, ◌∷◌, ◌++◌, length, filter}
use Rattle.std.specs.List.{list_all, slice_split}
use Rattle.std.specs.Char.{is_ascii_digit}
use Rattle.ob_scan.specs.declared.token.Kind.{Kind}
use Rattle.ob_scan.specs.Spelling.{Spells, number_value}

-- what stands between line feeds
abbrev pub lines : List ℕ → List (List ℕ)
lines = slice_split (λ b. b == 10)

-- space, tab, carriage return
abbrev pub is_blank : ℕ → Bool
is_blank b = (b == 32) || (b == 9) || (b == 13)

abbrev pub Word : Type 0
Word = List ℕ

-- what stands between blanks, where that is something
abbrev pub words : List ℕ → List Word
words line = filter (λ w. not (length w == 0)) (slice_split is_blank line)

-- a word is parted behind the digits that it begins with: there are no other digits before a byte that is none
abbrev pub PartsBehindDigits : (word front back : List ℕ) → Type 0
PartsBehindDigits word front back =
    (first : List ℕ) (mark : ℕ) (behind : List ℕ)
    → word ≡ first ++ mark ∷ behind
    → IsTrue (list_all is_ascii_digit first)
    → is_ascii_digit mark ≡ false
    → (front ≡ first) × (back ≡ mark ∷ behind)

-- one to so many digits, with the number that they spell
pub record IsDigits (most : ℕ) (word : Word) (n : ℕ) : Type 0 where
  pub digits : IsTrue (list_all is_ascii_digit word)
  pub some : 1 ≤ length word
  pub few : length word ≤ most
  pub spells : number_value word ≡ n

-- digits, as many as there may be, with the number that they spell
pub record IsNumeral (word : Word) (n : ℕ) : Type 0 where
  pub digits : IsTrue (list_all is_ascii_digit word)
  pub some : 1 ≤ length word
  pub spells : number_value word ≡ n

-- a process: one to nine digits
abbrev pub IsProcess : Word → ℕ → Type 0
IsProcess word p = IsDigits 9 word p

-- an INTEGER: an optional `-`, one to ten digits, in range
pub data IsInteger : Word → ℤ → Type 0 where
  positive : {word : Word} {n : ℕ} → IsDigits 10 word n → n ≤ 2147483647 → IsInteger word (pos n)
  negative : {word : Word} {n : ℕ} → IsDigits 10 word n → n ≤ 2147483648 → IsInteger (45 ∷ word) (neg_ℤ (pos n))

-- a name is an ident that is no keyword; its length isn't looked at
abbrev pub IsName : Word → Type 0
IsName word = Spells word Kind.Ident
