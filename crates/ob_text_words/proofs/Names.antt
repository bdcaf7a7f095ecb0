-- Words that are names.
use Rattle.std.proofs.Common.{◌≡◌, ◌≢◌, ℕ, Option, Bool, not, is_some, IfSome, IfNone, List, ◌∷◌, Some, None, refl, sym, ◌∙◌, ap, true, false, IsTrue}
use Rattle.std.specs.List.{list_all}
use Rattle.std.specs.Char.{is_ascii_alphabetic, is_ascii_alphanumeric}
use Rattle.ob_scan.specs.declared.token.Kind.{Kind}
use Rattle.ob_scan.specs.declared.token.Kind.TheVariants.{Ident}
use Rattle.ob_scan.specs.Spelling.{Spells, fixed, name, number, fixed_spelling}

pub record IsNameOf (word : List ℕ) : Type 0 where
  pub first : ℕ
  pub rest : List ℕ
  pub parts : word ≡ first ∷ rest
  pub letter : is_ascii_alphabetic first ≡ true
  pub others : list_all is_ascii_alphanumeric rest ≡ true
  pub no_keyword : (keyword : Kind) → fixed_spelling keyword ≢ Some word

no_fixed_ident : (word : List ℕ) → fixed_spelling Ident ≡ Some word → ⊥
no_fixed_ident word e = cc

-- what spells a name
pub Spells-parts : (word : List ℕ) (kind : Kind) → kind ≡ Ident → Spells word kind → IsNameOf word
Spells-parts word kind e (fixed h) = absurd (no_fixed_ident word (ap fixed_spelling (sym e) ∙ h))
Spells-parts word kind e (name {first = first} {rest = rest} a b c) =
    record { first = first; rest = rest; parts = refl; letter = a; others = b; no_keyword = c }
Spells-parts word kind e (number h) = absurd (cc)

-- the parts of a name make it one
pub Spells-from_parts : (word rest : List ℕ) (first : ℕ) →
    word ≡ first ∷ rest → is_ascii_alphabetic first ≡ true → list_all is_ascii_alphanumeric rest ≡ true →
    ((keyword : Kind) → fixed_spelling keyword ≢ Some word) → Spells word Ident
Spells-from_parts word rest first e a b c = rw e (name a b (rw e at c))

-- the parts of a name that begins with this
pub name_rest : (word rest : List ℕ) (first : ℕ) → word ≡ first ∷ rest → Spells word Ident →
    (is_ascii_alphabetic first ≡ true) × (list_all is_ascii_alphanumeric rest ≡ true) × ((keyword : Kind) → fixed_spelling keyword ≢ Some word)
name_rest word rest first e h =
    let p = Spells-parts word Ident refl h in
    let heads : first ≡ p.first = cc in
    let tails : rest ≡ p.rest = cc in
    (ap is_ascii_alphabetic heads ∙ p.letter, ap (list_all is_ascii_alphanumeric) tails ∙ p.others, p.no_keyword)

-- a word of a letter, then letters and digits, is a name where no keyword was found
pub found_name : (word rest : List ℕ) (first : ℕ) (keyword : Option Kind) (no : Bool) →
    word ≡ first ∷ rest → is_ascii_alphabetic first ≡ true → list_all is_ascii_alphanumeric rest ≡ true →
    IfSome keyword (λ k. fixed_spelling k ≡ Some word) → IfNone keyword ((k : Kind) → fixed_spelling k ≢ Some word) →
    is_some keyword ≡ not no → (IsTrue no → Spells word Ident) × (Spells word Ident → IsTrue no)
found_name word rest first None true e a b is none t = (λ _. Spells-from_parts word rest first e a b none, λ _. refl)
found_name word rest first None false e a b is none t = absurd (cc)
found_name word rest first (Some k) true e a b is none t = absurd (cc)
found_name word rest first (Some k) false e a b is none t =
    (λ f. absurd (cc), λ h. absurd ((name_rest word rest first e h).2 k is))

-- a word with another byte is no name
pub found_no_name : (word rest : List ℕ) (first : ℕ) (r : Bool) → word ≡ first ∷ rest → r ≡ false →
    (is_ascii_alphabetic first ≡ true → list_all is_ascii_alphanumeric rest ≡ true → r ≡ true) →
    (IsTrue r → Spells word Ident) × (Spells word Ident → IsTrue r)
found_no_name word rest first r e f h =
    (λ t. absurd (cc), λ n. let p = name_rest word rest first e n in h p.0 p.1)
