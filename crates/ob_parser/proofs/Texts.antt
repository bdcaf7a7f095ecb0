-- The bytes of tokens, and the values of the tree that they spell.
use Rattle.std.proofs.Common.{◌≡◌, ℕ, suc, zero, ◌+◌, ◌*◌, ◌-◌, ◌<◌, ◌≤◌, Bool, true, false, List, [], ◌∷◌, Option, Some, None, length, get_or, refl, sym, ◌∙◌, ap, subst, arith, option_map, slice_get, take, drop, fold, ◌&&◌}
use Rattle.std.specs.Option.{option_map_or}
use Rattle.std.specs.List.{All, list_all}
use Rattle.std.specs.Str.{IsAscii, IsUtf8}
use Rattle.std.specs.Char.{is_ascii_alphanumeric, is_ascii_digit, digit_value}
use Rattle.std.proofs.lemmas.Option.{slice_get-map, slice_get-get_or}
use Rattle.std.proofs.lemmas.Str.{IsUtf8-from_ascii}
use Rattle.std.proofs.lemmas.Str.Ascii.{IsAscii-nil, IsAscii-cons}
use Rattle.std.proofs.lemmas.List.{take_more, take-append-drop}
use Rattle.std.proofs.lemmas.List.Sums.{fold-append}
use Rattle.std.proofs.lemmas.Bool.Decides.{nat_tests}
use Rattle.ob_scan.specs.Spelling.{number_value}
use Rattle.ob_scan.specs.declared.token.Kind.{Kind}
use Rattle.ob_scan.specs.Lexemes.{lexeme, IsSpelled, spelled}
use Rattle.ob_scan.specs.Limits.{largest_number}
use Rattle.ob_scan.proofs.TokenFacts.{ident_bytes, number_bytes}

and_both : (a b : Bool) → (a && b) ≡ true → (a ≡ true) × (b ≡ true)
and_both true b h = (refl, h)
and_both false b h = absurd (cc)

-- names

ascii_byte : (b : ℕ) → is_ascii_alphanumeric b ≡ true → b < 128
ascii_byte b h = grind (arith, nat_tests)

pub ascii_bytes : (bytes : List ℕ) → list_all is_ascii_alphanumeric bytes ≡ true → IsAscii bytes
ascii_bytes [] h = IsAscii-nil
ascii_bytes (b ∷ bytes) h =
    IsAscii-cons b bytes (ascii_byte b ((and_both (is_ascii_alphanumeric b) (list_all is_ascii_alphanumeric bytes) h).0))
    (ascii_bytes bytes ((and_both (is_ascii_alphanumeric b) (list_all is_ascii_alphanumeric bytes) h).1))

pub utf8_bytes : (bytes : List ℕ) → list_all is_ascii_alphanumeric bytes ≡ true → IsUtf8 bytes
utf8_bytes bytes h = IsUtf8-from_ascii bytes (ascii_bytes bytes h)

-- numbers

digit_is : (d : ℕ) → is_ascii_digit d ≡ true → (48 ≤ d) × (d ≤ 57) × (digit_value d ≡ d - 48)
digit_is d h = (grind (arith, nat_tests), grind (arith, nat_tests), grind (arith, nat_tests))

pub digit_at : (ds : List ℕ) (i : ℕ) → list_all is_ascii_digit ds ≡ true → i < length ds →
    (48 ≤ get_or ds i 0) × (get_or ds i 0 ≤ 57) × (digit_value (get_or ds i 0) ≡ get_or ds i 0 - 48)
digit_at [] i h below = absurd (omega arith)
digit_at (d ∷ ds) zero h below = digit_is d ((and_both (is_ascii_digit d) (list_all is_ascii_digit ds) h).0)
digit_at (d ∷ ds) (suc i) h below = digit_at ds i ((and_both (is_ascii_digit d) (list_all is_ascii_digit ds) h).1) (omega arith)

abbrev more_value : ℕ → ℕ → ℕ
more_value value digit = value * 10 + digit_value digit

grows : (value : ℕ) (ds : List ℕ) → value ≤ fold more_value value ds
grows value [] = omega arith
grows value (d ∷ ds) = let h = grows (more_value value d) ds in omega arith

pub value_more : (ds : List ℕ) (i : ℕ) → i < length ds →
    number_value (take (i + 1) ds) ≡ number_value (take i ds) * 10 + digit_value (get_or ds i 0)
value_more ds i h = ap number_value (take_more ds i 0 h) ∙ fold-append more_value 0 (take i ds) (get_or ds i 0 ∷ [])

pub value_below : (ds : List ℕ) (i : ℕ) → number_value (take i ds) ≤ number_value ds
value_below ds i =
    let h = grows (number_value (take i ds)) (drop i ds) in
    let e : fold more_value (number_value (take i ds)) (drop i ds) ≡ number_value ds =
    sym (fold-append more_value 0 (take i ds) (drop i ds)) ∙ ap number_value (take-append-drop i ds) in
    omega arith

-- what is known of the bytes of a token

pub ident_spelled : {kind : Kind} {place : ℕ} {bytes : List ℕ} → IsSpelled (lexeme kind place bytes) → kind ≡ Kind.Ident →
    list_all is_ascii_alphanumeric bytes ≡ true
ident_spelled (spelled s name number) e = (ident_bytes s e).0

pub number_spelled : {kind : Kind} {place : ℕ} {bytes : List ℕ} → IsSpelled (lexeme kind place bytes) → kind ≡ Kind.Number →
    list_all is_ascii_digit bytes ≡ true
number_spelled (spelled s name number) e = (number_bytes s e).0

pub number_limited : {kind : Kind} {place : ℕ} {bytes : List ℕ} → IsSpelled (lexeme kind place bytes) → kind ≡ Kind.Number →
    number_value bytes ≤ largest_number
number_limited (spelled s name number) e = number e
