-- Which bytes spell a token, by their first byte; and one spelling has one kind.
use Rattle.std.proofs.Common.{◌≡◌, ℕ, Bool, true, false, ◌&&◌, ◌||◌, not, cond, nat_eq, IsTrue, List, [], ◌∷◌, ◌++◌, Option, Some, None, codes, refl, sym, ◌∙◌, ap, subst, arith}
use Rattle.std.specs.List.{list_all, list_any, find}
use Rattle.std.specs.Option.{unwrap_or}
use Rattle.std.specs.Str.{bytes_eq}
use Rattle.std.specs.Char.{is_ascii_alphabetic, is_ascii_alphanumeric, is_ascii_digit}
use Rattle.std.proofs.lemmas.List.{append-nil}
use Rattle.std.proofs.lemmas.Bool.{and_parts, cond-true, cond-false, false≢true}
use Rattle.std.proofs.lemmas.Bool.Decides.{nat_tests}
use Rattle.ob_scan.specs.declared.token.Kind.{Kind}
use Rattle.ob_scan.specs.declared.token.Kind.TheVariants.{Ident, Number, Module, Begin, End, Const, «Type», Var, Procedure, Array, Of, Record, If, Then, Elsif, Else, While, Do, Repeat, Until, Div, Mod, Or, Assign, Colon, LessOrEqual, Less, GreaterOrEqual, Greater, Equal, NotEqual, Plus, Minus, Times, And, Not, Dot, Comma, Semicolon, LeftParen, RightParen, LeftBracket, RightBracket}
use Rattle.ob_scan.specs.Spelling.{fixed_spelling, Spells, fixed, name, number, IsLongest}
use Rattle.ob_scan.specs.Tokens.{IsBlank, space, tab, carriage_return, line_feed}

-- the first bytes of symbols
abbrev pub symbols : List ℕ
symbols = codes ":<>=#+-*&~.,;()[]"

-- these bytes make a symbol with this first one
abbrev pub ends_symbol : ℕ → List ℕ → Bool
ends_symbol first [] = true
ends_symbol first (byte ∷ []) = nat_eq byte 61 && (nat_eq first 58 || (nat_eq first 60 || nat_eq first 62))
ends_symbol first (byte ∷ more ∷ rest) = false

-- a letter with letters and digits, digits, or a symbol
abbrev pub is_spelling : List ℕ → Bool
is_spelling [] = false
is_spelling (first ∷ rest) =
    cond (is_ascii_alphabetic first) (list_all is_ascii_alphanumeric rest)
    (cond (is_ascii_digit first) (list_all is_ascii_digit rest) (list_any (nat_eq first) symbols && ends_symbol first rest))

digit_no_letter : (byte : ℕ) → is_ascii_digit byte ≡ true → is_ascii_alphabetic byte ≡ false
digit_no_letter byte h = grind (arith, nat_tests)

abbrev passes : (List ℕ → Bool) → Option (List ℕ) → Bool
passes test None = true
passes test (Some bytes) = test bytes

fixed_is_spelling : (kind : Kind) → IsTrue (passes is_spelling (fixed_spelling kind))
fixed_is_spelling Ident = refl
fixed_is_spelling _ = refl

-- what spells a token has this shape
pub spells_shape : {bytes : List ℕ} {kind : Kind} → Spells bytes kind → is_spelling bytes ≡ true
spells_shape (fixed {kind = kind} e) = subst (λ o. IsTrue (passes is_spelling o)) e (fixed_is_spelling kind)
spells_shape (name {first = first} {rest = rest} l r k) =
    cond-true (is_ascii_alphabetic first) (list_all is_ascii_alphanumeric rest) _ l ∙ r
spells_shape (number {first = first} {rest = rest} d) =
    let parts = and_parts (is_ascii_digit first) (list_all is_ascii_digit rest) d in
    cond-false (is_ascii_alphabetic first) (list_all is_ascii_alphanumeric rest) _ (digit_no_letter first parts.0)
    ∙ cond-true (is_ascii_digit first) (list_all is_ascii_digit rest) _ parts.0
    ∙ parts.1

-- after a letter, letters and digits
pub letter_goes_on : (first : ℕ) (rest : List ℕ) → is_ascii_alphabetic first ≡ true → is_spelling (first ∷ rest) ≡ true →
    list_all is_ascii_alphanumeric rest ≡ true
letter_goes_on first rest l h = sym (cond-true (is_ascii_alphabetic first) (list_all is_ascii_alphanumeric rest) _ l) ∙ h

-- after a digit, digits
pub digit_goes_on : (first : ℕ) (rest : List ℕ) → is_ascii_digit first ≡ true → is_spelling (first ∷ rest) ≡ true →
    list_all is_ascii_digit rest ≡ true
digit_goes_on first rest d h =
    sym (cond-true (is_ascii_digit first) (list_all is_ascii_digit rest) _ d)
    ∙ sym (cond-false (is_ascii_alphabetic first) (list_all is_ascii_alphanumeric rest) _ (digit_no_letter first d))
    ∙ h

-- after any other byte, what ends a symbol
pub symbol_goes_on : (first : ℕ) (rest : List ℕ) → is_ascii_alphabetic first ≡ false → is_ascii_digit first ≡ false →
    is_spelling (first ∷ rest) ≡ true →
    (list_any (nat_eq first) symbols ≡ true) × (ends_symbol first rest ≡ true)
symbol_goes_on first rest l d h =
    and_parts (list_any (nat_eq first) symbols) (ends_symbol first rest)
    (sym (cond-false (is_ascii_digit first) (list_all is_ascii_digit rest) _ d)
    ∙ sym (cond-false (is_ascii_alphabetic first) (list_all is_ascii_alphanumeric rest) _ l)
    ∙ h)

-- no spelling begins with a blank
pub blank_spells_none : {byte : ℕ} (rest : List ℕ) → IsBlank byte → is_spelling (byte ∷ rest) ≡ true → ⊥
blank_spells_none rest space h = false≢true h
blank_spells_none rest tab h = false≢true h
blank_spells_none rest carriage_return h = false≢true h
blank_spells_none rest line_feed h = false≢true h

pub blank_space : (byte : ℕ) → byte ≡ 32 → IsBlank byte
blank_space byte e = subst IsBlank (sym e) space

pub blank_tab : (byte : ℕ) → byte ≡ 9 → IsBlank byte
blank_tab byte e = subst IsBlank (sym e) tab

pub blank_return : (byte : ℕ) → byte ≡ 13 → IsBlank byte
blank_return byte e = subst IsBlank (sym e) carriage_return

pub blank_feed : (byte : ℕ) → byte ≡ 10 → IsBlank byte
blank_feed byte e = subst IsBlank (sym e) line_feed

pub ruleset blanks = (blank_space, blank_tab, blank_return, blank_feed)

-- kinds with one spelling
abbrev fixed_kinds : List Kind
fixed_kinds = Module ∷ Begin ∷ End ∷ Const ∷ «Type» ∷ Var ∷ Procedure ∷ Array ∷ Of ∷ Record ∷ If ∷ Then ∷ Elsif ∷ Else ∷ While ∷ Do ∷ Repeat ∷ Until ∷ Div ∷ Mod ∷ Or ∷ Assign ∷ Colon ∷ LessOrEqual ∷ Less ∷ GreaterOrEqual ∷ Greater ∷ Equal ∷ NotEqual ∷ Plus ∷ Minus ∷ Times ∷ And ∷ Not ∷ Dot ∷ Comma ∷ Semicolon ∷ LeftParen ∷ RightParen ∷ LeftBracket ∷ RightBracket ∷ []

abbrev is_spelled : List ℕ → Option (List ℕ) → Bool
is_spelled bytes None = false
is_spelled bytes (Some spelling) = bytes_eq spelling bytes

abbrev kind_of : List ℕ → Kind
kind_of bytes = unwrap_or (find (λ kind. is_spelled bytes (fixed_spelling kind)) fixed_kinds) Ident

abbrev IsKindOf : Kind → Option (List ℕ) → Type 0
IsKindOf kind None = Unit {0}
IsKindOf kind (Some bytes) = kind_of bytes ≡ kind

kind_of_fixed : (kind : Kind) → IsKindOf kind (fixed_spelling kind)
kind_of_fixed Ident = tt
kind_of_fixed Number = tt
kind_of_fixed _ = refl

abbrev begins_no_number : List ℕ → Bool
begins_no_number [] = true
begins_no_number (first ∷ rest) = not (is_ascii_digit first)

fixed_no_number : (kind : Kind) → IsTrue (passes begins_no_number (fixed_spelling kind))
fixed_no_number Ident = refl
fixed_no_number _ = refl

number_not_fixed : (kind : Kind) (first : ℕ) (rest : List ℕ) → fixed_spelling kind ≡ Some (first ∷ rest) →
    list_all is_ascii_digit (first ∷ rest) ≡ true → ⊥
number_not_fixed kind first rest e d =
    let d1 = (and_parts (is_ascii_digit first) (list_all is_ascii_digit rest) d).0 in
    let h : not (is_ascii_digit first) ≡ true = subst (λ o. IsTrue (passes begins_no_number o)) e (fixed_no_number kind) in
    false≢true (sym (ap not d1) ∙ h)

name_not_number : (first : ℕ) (rest : List ℕ) → is_ascii_alphabetic first ≡ true →
    list_all is_ascii_digit (first ∷ rest) ≡ true → ⊥
name_not_number first rest l d =
    let d1 = (and_parts (is_ascii_digit first) (list_all is_ascii_digit rest) d).0 in
    false≢true (sym (digit_no_letter first d1) ∙ l)

-- a spelling has one kind
pub one_kind : {bytes : List ℕ} {kind other : Kind} → Spells bytes kind → Spells bytes other → kind ≡ other
one_kind (fixed {kind = kind} e) (fixed {kind = other} f) =
    sym (subst (IsKindOf kind) e (kind_of_fixed kind)) ∙ subst (IsKindOf other) f (kind_of_fixed other)
one_kind (fixed {kind = kind} e) (name l r k) = absurd (k kind e)
one_kind (fixed {kind = kind} e) (number {first = first} {rest = rest} d) = absurd (number_not_fixed kind first rest e d)
one_kind (name l r k) (fixed {kind = kind} e) = absurd (k kind e)
one_kind (name l r k) (name m s n) = refl
one_kind (name {first = first} {rest = rest} l r k) (number d) = absurd (name_not_number first rest l d)
one_kind (number {first = first} {rest = rest} d) (fixed {kind = kind} e) = absurd (number_not_fixed kind first rest e d)
one_kind (number {first = first} {rest = rest} d) (name l r k) = absurd (name_not_number first rest l d)
one_kind (number d) (number e) = refl

-- of two fronts of a text, one goes on with the other
data Fronts (a b r s : List ℕ) : Type 0 where
  longer : (more : List ℕ) → b ≡ a ++ more → r ≡ more ++ s → Fronts a b r s
  shorter : (more : List ℕ) → a ≡ b ++ more → s ≡ more ++ r → Fronts a b r s

fronts_more : (x : ℕ) (a b r s : List ℕ) → Fronts a b r s → Fronts (x ∷ a) (x ∷ b) r s
fronts_more x a b r s (longer more e f) = longer more (ap (λ l. x ∷ l) e) f
fronts_more x a b r s (shorter more e f) = shorter more (ap (λ l. x ∷ l) e) f

fronts : (a b r s : List ℕ) → a ++ r ≡ b ++ s → Fronts a b r s
fronts [] b r s e = longer b refl e
fronts (x ∷ a) [] r s e = shorter (x ∷ a) refl (sym e)
fronts (x ∷ a) (y ∷ b) r s e =
    let h : x ≡ y = cc in
    let t : a ++ r ≡ b ++ s = cc in
    let P : ℕ → Type 0 = λ z. Fronts (x ∷ a) (z ∷ b) r s in
    subst P h (fronts_more x a b r s (fronts a b r s t))

-- at one place stands one longest spelling
pub record SameToken (a b r s : List ℕ) (kind other : Kind) : Type 0 where
  pub bytes : a ≡ b
  pub behind : r ≡ s
  pub same_kind : kind ≡ other

goes_no_further : (a b r s more : List ℕ) (kind other : Kind) → b ≡ a ++ more → r ≡ more ++ s →
    Spells a kind → Spells b other → IsLongest a r → SameToken a b r s kind other
goes_no_further a b r s more kind other e f p q longest =
    let P : List ℕ → Type 0 = λ l. Spells l other in
    let none = longest more s other (sym f) (subst P e q) in
    let same : b ≡ a = e ∙ ap (λ l. a ++ l) none ∙ append-nil a in
    record { bytes = sym same; behind = f ∙ ap (λ l. l ++ s) none; same_kind = one_kind p (subst P same q) }

turned : {a b r s : List ℕ} {kind other : Kind} → SameToken b a s r other kind → SameToken a b r s kind other
turned h = record { bytes = sym h.bytes; behind = sym h.behind; same_kind = sym h.same_kind }

pub one_token : (a b r s : List ℕ) (kind other : Kind) → a ++ r ≡ b ++ s →
    Spells a kind → Spells b other → IsLongest a r → IsLongest b s → SameToken a b r s kind other
one_token a b r s kind other e p q l m =
    elim (fronts a b r s e) [
      | longer more f g ↦ goes_no_further a b r s more kind other f g p q l
      | shorter more f g ↦ turned (goes_no_further b a s r more other kind f g q p m)
    ]
