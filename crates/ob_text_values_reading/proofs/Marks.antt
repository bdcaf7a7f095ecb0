-- Texts up to their first mark, and the bytes of names.
use Rattle.std.proofs.Common.{◌≡◌, ◌∙◌, ℕ, ◌<◌, suc, Bool, true, false, not, IsTrue, List, [], ◌∷◌, ◌++◌, Some, None, length, take, drop, refl, sym, ap, subst, arith, slice_get}
use Rattle.std.specs.Char.{is_ascii_alphanumeric}
use Rattle.std.specs.List.{list_all, prefix_len}
use Rattle.std.specs.Str.{IsAscii, IsUtf8}
use Rattle.std.proofs.lemmas.Bool.{and_parts}
use Rattle.std.proofs.lemmas.Bool.Decides.{nat_tests}
use Rattle.std.proofs.lemmas.List.Folds.{length-prefix_len}
use Rattle.std.proofs.lemmas.Str.{IsUtf8-from_ascii}
use Rattle.std.proofs.lemmas.Str.Ascii.{IsAscii-nil, IsAscii-cons}
use Rattle.ob_scan.proofs.TokenFacts.{ident_bytes}
use Rattle.ob_text_words.specs.Words.{IsName}
use Rattle.ob_text_values_reading.proofs.OneValue.{one_parting}
use Rattle.ob_text_values_reading.specs.Taking.{Ends, HasNoMark, PartsAtMark, at_end, at_mark, is_mark}

abbrev before_mark : List ℕ → ℕ
before_mark = prefix_len (λ b. not (is_mark b))

record PartedAt (text : List ℕ) (n : ℕ) : Type 0 where
  front : HasNoMark (take n text)
  back : Ends (drop n text)

parted_here : (b : ℕ) (text : List ℕ) → is_mark b ≡ true → PartedAt (b ∷ text) (before_mark (b ∷ text))
parted_here b text e =
    let none : before_mark (b ∷ text) ≡ 0 = rw e refl in
    subst (λ (n : ℕ). PartedAt (b ∷ text) n) (sym none) (record { front = refl; back = at_mark e })

unmarked_more : (b : ℕ) (bytes : List ℕ) → is_mark b ≡ false → HasNoMark bytes → HasNoMark (b ∷ bytes)
unmarked_more b bytes e h = rw (e, h) refl

parted_behind : (b : ℕ) (text : List ℕ) → is_mark b ≡ false → PartedAt text (before_mark text) → PartedAt (b ∷ text) (before_mark (b ∷ text))
parted_behind b text e h =
    let one : before_mark (b ∷ text) ≡ suc (before_mark text) = rw e (omega arith) in
    subst (λ (n : ℕ). PartedAt (b ∷ text) n) (sym one) (record { front = unmarked_more b (take (before_mark text) text) e h.front; back = h.back })

parted : (text : List ℕ) → PartedAt text (before_mark text)
parted [] = record { front = refl; back = at_end }
parted (b ∷ text) = either (is_mark b) refl (parted text)
  where
    either : (m : Bool) → is_mark b ≡ m → PartedAt text (before_mark text) → PartedAt (b ∷ text) (before_mark (b ∷ text))
    either true e h = parted_here b text e
    either false e h = parted_behind b text e h

-- a text that is split behind the bytes before its first mark
pub split_ends : (text : List ℕ) (n : ℕ) (back : List ℕ) → n ≡ length (take (before_mark text) text) → back ≡ drop n text → Ends back
split_ends text n back counted b =
    let long : n ≡ before_mark text = counted ∙ length-prefix_len (λ b. not (is_mark b)) text in
    subst Ends (sym (b ∙ ap (λ k. drop k text) long)) (parted text).back

pub split_alone : (text : List ℕ) (n : ℕ) (front back : List ℕ) → n ≡ length (take (before_mark text) text) → front ≡ take n text → back ≡ drop n text → front ++ back ≡ text → PartsAtMark text front back
split_alone text n front back counted f b joined first rest parts unmarked ends =
    let long : n ≡ before_mark text = counted ∙ length-prefix_len (λ b. not (is_mark b)) text in
    let own : HasNoMark front = subst HasNoMark (sym (f ∙ ap (λ k. take k text) long)) (parted text).front in
    one_parting front first back rest (joined ∙ parts) own unmarked (split_ends text n back counted b) ends

no_front : (m : Bool) → Ends [] → IsTrue m → Ends []
no_front m h k = h

byte_ends : (c : ℕ) (rest : List ℕ) → Ends (c ∷ rest) → is_mark c ≡ true
byte_ends c rest (at_mark h) = h

-- whether a text ends here, by its first byte
pub ends_at : (text : List ℕ) (b : ℕ) (m : Bool) → slice_get text 0 ≡ Some b → m ≡ is_mark b → (IsTrue m → Ends text) × (Ends text → IsTrue m)
ends_at [] b m e is = absurd (cc)
ends_at (c ∷ rest) b m e is =
    let same : c ≡ b = cc in
    (λ h. at_mark (ap is_mark same ∙ sym is ∙ h), λ h. is ∙ sym (ap is_mark same) ∙ byte_ends c rest h)

pub ends_nowhere : (text : List ℕ) → slice_get text 0 ≡ None → Ends text
ends_nowhere [] e = at_end
ends_nowhere (c ∷ rest) e = absurd (cc)

ascii_byte : (b : ℕ) → is_ascii_alphanumeric b ≡ true → b < 128
ascii_byte b h = grind (arith, nat_tests)

ascii_bytes : (bytes : List ℕ) → list_all is_ascii_alphanumeric bytes ≡ true → IsAscii bytes
ascii_bytes [] h = IsAscii-nil
ascii_bytes (b ∷ bytes) h =
    let parts = and_parts (is_ascii_alphanumeric b) (list_all is_ascii_alphanumeric bytes) h in
    IsAscii-cons b bytes (ascii_byte b parts.0) (ascii_bytes bytes parts.1)

-- a name is text
pub name_utf8 : (name : List ℕ) → IsName name → IsUtf8 name
name_utf8 name h = IsUtf8-from_ascii name (ascii_bytes name (ident_bytes h refl).0)
