-- Symbols: one byte, or one byte and `=`.
use Rattle.std.proofs.Common.{◌≡◌, ◌≢◌, ⊎_elim, ℕ, true, false, ◌||◌, nat_eq, List, [], ◌∷◌, ◌++◌, Some, refl, sym, ◌∙◌, ap, subst}
use Rattle.std.specs.List.{list_all, list_any}
use Rattle.std.specs.Char.{is_ascii_alphabetic, is_ascii_digit}
use Rattle.std.proofs.lemmas.Bool.{and_parts, or_cases, false≢true, eqb-true}
use Rattle.ob_scan.specs.declared.token.Kind.{Kind}
use Rattle.ob_scan.specs.declared.token.Kind.TheVariants.{Colon, Less, Greater, Equal, NotEqual, Plus, Minus, Times, And, Not, Dot, Comma, Semicolon, LeftParen, RightParen, LeftBracket, RightBracket}
use Rattle.ob_scan.specs.Spelling.{fixed_spelling, Spells, fixed, name, number, IsLongest}
use Rattle.ob_scan.specs.Tokens.{IsBlank}
use Rattle.ob_scan.specs.ScanFaults.{IsStray, stray}
use Rattle.ob_scan.proofs.Spellings.{symbols, ends_symbol, spells_shape, symbol_goes_on}

-- a spelling that begins with no letter and no digit is a symbol
spells_fixed : {first : ℕ} {rest : List ℕ} {kind : Kind} → is_ascii_alphabetic first ≡ false → is_ascii_digit first ≡ false →
    Spells (first ∷ rest) kind → fixed_spelling kind ≡ Some (first ∷ rest)
spells_fixed l d (fixed e) = e
spells_fixed l d (name m r k) = absurd (false≢true (sym l ∙ m))
spells_fixed {first = first} {rest = rest} l d (number e) =
    absurd (false≢true (sym d ∙ (and_parts (is_ascii_digit first) (list_all is_ascii_digit rest) e).0))

-- its second byte is `=`, and it has no third
pub record IsSecond (first second : ℕ) (more : List ℕ) (kind : Kind) : Type 0 where
  pub last : more ≡ []
  pub equals : second ≡ 61
  pub spells : fixed_spelling kind ≡ Some (first ∷ second ∷ more)

ends_second : (first second : ℕ) (more : List ℕ) → ends_symbol first (second ∷ more) ≡ true → (more ≡ []) × (second ≡ 61)
ends_second first second [] h =
    (refl, eqb-true second 61 (and_parts (nat_eq second 61) (nat_eq first 58 || (nat_eq first 60 || nat_eq first 62)) h).0)
ends_second first second (m ∷ more) h = absurd (false≢true h)

second_is : (first second : ℕ) (more : List ℕ) (kind : Kind) → is_ascii_alphabetic first ≡ false → is_ascii_digit first ≡ false →
    Spells (first ∷ second ∷ more) kind → IsSecond first second more kind
second_is first second more kind l d s =
    let e = ends_second first second more (symbol_goes_on first (second ∷ more) l d (spells_shape s)).1 in
    record { last = e.0; equals = e.1; spells = spells_fixed l d s }

-- a symbol of one byte is the longest where no `=` goes on with it
pub alone_longest : (first : ℕ) (behind : List ℕ) → is_ascii_alphabetic first ≡ false → is_ascii_digit first ≡ false →
    ((others : List ℕ) (kind : Kind) → behind ≡ 61 ∷ others → fixed_spelling kind ≢ Some (first ∷ 61 ∷ [])) →
    IsLongest (first ∷ []) behind
alone_longest first behind l d n [] others kind e s = refl
alone_longest first behind l d n (m ∷ more) others kind e s =
    let i = second_is first m more kind l d s in
    let make : ℕ → List ℕ → List ℕ = λ x y. x ∷ (y ++ others) in
    let b : behind ≡ 61 ∷ others = sym e ∙ ap (λ x. make x more) i.equals ∙ ap (λ y. make 61 y) i.last in
    let f : fixed_spelling kind ≡ Some (first ∷ 61 ∷ []) =
    i.spells ∙ ap (λ x. Some (first ∷ x ∷ more)) i.equals ∙ ap (λ y. Some (first ∷ 61 ∷ y)) i.last in
    absurd (n others kind b f)

-- with `=` it is the longest anywhere
pub with_equals_longest : (first : ℕ) (behind : List ℕ) → is_ascii_alphabetic first ≡ false → is_ascii_digit first ≡ false →
    IsLongest (first ∷ 61 ∷ []) behind
with_equals_longest first behind l d more others kind e s = (second_is first 61 more kind l d s).last

-- each first byte of a symbol is itself a symbol
abbrev short_kinds : List Kind
short_kinds = Colon ∷ Less ∷ Greater ∷ Equal ∷ NotEqual ∷ Plus ∷ Minus ∷ Times ∷ And ∷ Not ∷ Dot ∷ Comma ∷ Semicolon ∷ LeftParen ∷ RightParen ∷ LeftBracket ∷ RightBracket ∷ []

abbrev AreSpelled : List Kind → List ℕ → Type 0
AreSpelled [] [] = Unit {0}
AreSpelled (kind ∷ kinds) (byte ∷ bytes) = (fixed_spelling kind ≡ Some (byte ∷ [])) × AreSpelled kinds bytes
AreSpelled _ _ = ⊥

found : (kinds : List Kind) (bytes : List ℕ) (first : ℕ) → AreSpelled kinds bytes → list_any (nat_eq first) bytes ≡ true →
    (kind : Kind) × (fixed_spelling kind ≡ Some (first ∷ []))
found kinds [] first a h = absurd (false≢true h)
found [] (byte ∷ bytes) first a h = absurd a
found (kind ∷ kinds) (byte ∷ bytes) first a h =
    ⊎_elim
    (λ (e : nat_eq first byte ≡ true). (kind, a.0 ∙ ap (λ x. Some (x ∷ [])) (sym (eqb-true first byte e))))
    (λ (m : list_any (nat_eq first) bytes ≡ true). found kinds bytes first a.1 m)
    (or_cases (nat_eq first byte) (list_any (nat_eq first) bytes) h)

symbols_spelled : AreSpelled short_kinds symbols
symbols_spelled = (refl, (refl, (refl, (refl, (refl, (refl, (refl, (refl, (refl, (refl, (refl, (refl, (refl, (refl, (refl, (refl, (refl, tt)))))))))))))))))

-- a byte that is no blank, letter, digit or symbol begins no token
no_spelling : (first : ℕ) (rest bytes behind : List ℕ) (kind : Kind) → is_ascii_alphabetic first ≡ false → is_ascii_digit first ≡ false →
    ((k : Kind) → fixed_spelling k ≢ Some (first ∷ [])) → first ∷ rest ≡ bytes ++ behind → Spells bytes kind → ⊥
no_spelling first rest [] behind kind l d n e s = false≢true (spells_shape s)
no_spelling first rest (x ∷ bytes) behind kind l d n e s =
    let same : x ≡ first = cc in
    let P : ℕ → Type 0 = λ y. Spells (y ∷ bytes) kind in
    let f = found short_kinds symbols first symbols_spelled
    (symbol_goes_on first bytes l d (spells_shape (subst P same s))).0 in
    n f.0 f.1

pub stray_here : (first : ℕ) (rest : List ℕ) → (IsBlank first → ⊥) → is_ascii_alphabetic first ≡ false → is_ascii_digit first ≡ false →
    ((k : Kind) → fixed_spelling k ≢ Some (first ∷ [])) → IsStray (first ∷ rest)
stray_here first rest b l d n = stray b (λ bytes behind kind e s. no_spelling first rest bytes behind kind l d n e s)
