-- A number as clap checks its text, and as an unsigned type reads it.
use Rattle.std.proofs.Common.{◌≡◌, ◌∙◌, ◌==◌, ◌+◌, ◌^◌, ◌<◌, ℕ, refl, sym, ap, subst, [], ◌∷◌, true, false, Bool, if◌then◌else◌, Option, Some, None, is_some, Ok, Err, Result, arith, option_and_then, pos, unwrap_or}
use Rattle.std.specs.Str.Parse.{ParsesUnsigned, digits_value, starts_with_minus, without_leading_plus}
use Rattle.std.proofs.lemmas.Bool.{eqb-true}
use Rattle.std.proofs.lemmas.Int.{ints}
use Rattle.clap.specs.Lexer.{without_minus}
use Rattle.clap.specs.Matches.{ReadsOne, one_text}
use Rattle.clap.specs.Values.{IsUnsignedIn}
use Rattle.clap.specs.ValueTests.{accepts, is_unsigned_in}
use Rattle.clap.specs.Walk.{Text, one_of, rows_of}
use Rattle.clap.specs.declared.builder.value_parser.ValueParser.{ValueParser}
use Rattle.clap.specs.declared.builder.value_parser.ValueParser.TheVariants.{Signed, Unsigned}
use Rattle.clap.specs.declared.parser.matches.Found.{Found}
use Rattle.clap.proofs.CallerReads.{signed_reads}
use Rattle.clap.proofs.ValueTestLemmas.{Accepts-accepts, accepts-Accepts}
use Rattle.clap.proofs.WalkLemmas.{one_text-rows}
use Rattle.ob_command.specs.CommandLine.{budget_number, is_option, number, number_up_to, place_number, seed_number}

not_both : false ≡ true → ⊥
not_both e = cc

abbrev value_of : Text → ℕ
value_of text = digits_value 10 (without_leading_plus text)

-- of numbers of so many bits, of which this is the greatest
module _ (bits most : ℕ) (greatest : most + 1 ≡ 2 ^ bits) (small : most < 2 ^ 64) where
  -- the text writes such a number
  abbrev Writes : Text → Type 0
  Writes text = IsUnsignedIn 0 most text

  writes : (text : Text) → is_unsigned_in 0 most text ≡ true → Writes text
  writes text e = accepts-Accepts false (Unsigned 0 most) text e

  tested : (text : Text) → Writes text → is_unsigned_in 0 most text ≡ true
  tested text h = Accepts-accepts false (Unsigned 0 most) text h

  number_by : (text : Text) (t : Bool) → is_unsigned_in 0 most text ≡ t → number_up_to most text ≡ (if t then Some (value_of text) else None)
  number_by text t e = ap (λ (b : Bool). if b then Some (value_of text) else None) e

  -- ---- as the type reads it

  module _ {E : Type 0} where
    abbrev read : Result ℕ E → Option ℕ
    read (Ok v) = Some v
    read (Err e) = None

    parsed : (text : Text) (r : Result ℕ E) → ParsesUnsigned bits 10 text r → number_up_to most text ≡ read r
    parsed text (Ok v) h =
        let below = h.0.1 in
        number_by text true (tested text (h.0.0, omega (arith, below), omega arith, omega (arith, below))) ∙ ap (λ (k : ℕ). Some k) (sym h.1)
    parsed text (Err e) h = go (is_unsigned_in 0 most text) refl
      where
        go : (t : Bool) → is_unsigned_in 0 most text ≡ t → number_up_to most text ≡ None
        go false t = number_by text false t
        go true t =
            let w = writes text t in
            let in_range = w.3 in
            absurd (h (w.0, omega (arith, in_range)))

    module _ (G : Text → Result ℕ E → Type 0) (only : (u : Text) (x : Result ℕ E) → G u x → ParsesUnsigned bits 10 u x) where
      as_read : (text : Text) (r : Option ℕ) → ReadsOne G text r → r ≡ number_up_to most text
      as_read text (Some v) h = sym (parsed text (Ok v) (only text (Ok v) h))
      as_read text None h = sym (parsed text (Err h.0) (only text (Err h.0) h.1))

      read_of : (f : Found) (id : Text) (r : Option ℕ) → (one_text f id ≡ None → r ≡ None)
          → ((t : Text) → one_text f id ≡ Some t → ReadsOne G t r) → r ≡ option_and_then (number_up_to most) (one_of id (rows_of f))
      read_of f id r none value = go (one_text f id) refl ∙ ap (option_and_then (number_up_to most)) (one_text-rows f id)
        where
          go : (o : Option Text) → one_text f id ≡ o → r ≡ option_and_then (number_up_to most) (one_text f id)
          go None e = none e ∙ ap (option_and_then (number_up_to most)) (sym e)
          go (Some t) e = as_read t r (value t e) ∙ ap (option_and_then (number_up_to most)) (sym e)

  reads : (text : Text) → ReadsOne (λ u x. ParsesUnsigned {E = Unit {0}} bits 10 u x) text (number_up_to most text)
  reads text = go (is_unsigned_in 0 most text) refl
    where
      go : (t : Bool) → is_unsigned_in 0 most text ≡ t
          → ReadsOne (λ u x. ParsesUnsigned {E = Unit {0}} bits 10 u x) text (if t then Some (value_of text) else None)
      go true t =
          let w = writes text t in
          let in_range = w.3 in
          ((w.0, omega (arith, in_range)), refl)
      go false t = (
        tt,
        λ h.
            let below = h.1 in
            not_both (sym t ∙ tested text (h.0, omega (arith, below), omega arith, omega (arith, below))),
      )

-- ---- what clap lets through

module _ (bits most : ℕ) (greatest : most + 1 ≡ 2 ^ bits) (small : most < 2 ^ 63) where
  abbrev parser : ValueParser
  parser = Signed (pos 0) (pos most)

  accepted : (text : Text) → accepts false parser text ≡ true → is_some (number_up_to most (without_minus text)) ≡ true
  accepted text e =
      let got = signed_reads (Unit {0}) (λ u x. ParsesUnsigned {E = Unit {0}} bits 10 u x) bits 0 most text (number_up_to most (without_minus text))
      (reads bits most greatest (omega (arith, small)) (without_minus text)) (λ u x h. h) (omega arith) (accepts-Accepts false parser text e) in
      ap (λ (o : Option ℕ). is_some o) got.1

-- ---- a number in its plain form, without a `-`

pub record PlainNumber (most : ℕ) (text : Text) : Type 0 where
  pub no_option : is_option text ≡ false
  pub as_is : without_minus text ≡ text
  pub passes : accepts false (Signed (pos 0) (pos most)) text ≡ true

no_option_by : (text : Text) → starts_with_minus text ≡ false → is_option text ≡ false
no_option_by [] h = refl
no_option_by (b ∷ []) h = refl
no_option_by (b ∷ c ∷ rest) h = h

as_is_by : (text : Text) → starts_with_minus text ≡ false → without_minus text ≡ text
as_is_by [] h = refl
as_is_by (b ∷ rest) h = ap (λ (t : Bool). unwrap_or (if t then Some rest else None) (b ∷ rest)) h

module _ (bits most : ℕ) (greatest : most + 1 ≡ 2 ^ bits) (small : most < 2 ^ 64) where
  no_minus : (text : Text) → IsUnsignedIn 0 most text → starts_with_minus text ≡ false
  no_minus [] h = refl
  no_minus (b ∷ rest) h = go (b == 45) refl
    where
      go : (t : Bool) → (b == 45) ≡ t → (b == 45) ≡ false
      go false t = t
      go true t =
          let w : IsUnsignedIn 0 most (45 ∷ rest) = subst (λ (x : ℕ). IsUnsignedIn 0 most (x ∷ rest)) (eqb-true b 45 t) h in
          let first = w.0.1.0 in
          absurd (omega (arith, first))

module _ (bits most : ℕ) (greatest : most + 1 ≡ 2 ^ bits) (small : most < 2 ^ 63) where
  passes_by : (text : Text) → starts_with_minus text ≡ false → IsUnsignedIn 0 most text → accepts false (Signed (pos 0) (pos most)) text ≡ true
  passes_by text h w =
      let in_range = w.3 in
      Accepts-accepts false (Signed (pos 0) (pos most)) text
      (rw h (w.0, record { sfits = omega (arith, in_range) }, omega (arith, ints, in_range), omega (arith, ints, in_range)))

  plain_by : (text : Text) → IsUnsignedIn 0 most text → PlainNumber most text
  plain_by text w =
      let none = no_minus bits most greatest (omega (arith, small)) text w in
      record { no_option = no_option_by text none; as_is = as_is_by text none; passes = passes_by text none w }

  plain : (text : Text) (k : ℕ) → number_up_to most text ≡ Some k → PlainNumber most text
  plain text k is = go (is_unsigned_in 0 most text) refl
    where
      none_is : (j : ℕ) → None ≡ Some j → ⊥
      none_is j e = cc

      go : (t : Bool) → is_unsigned_in 0 most text ≡ t → PlainNumber most text
      go true t = plain_by text (writes bits most greatest (omega (arith, small)) text t)
      go false t = absurd (none_is k (sym (number_by bits most greatest (omega (arith, small)) text false t) ∙ is))

-- ---- of 16 bits, of 32 and of 64

module _ {E : Type 0} (G : Text → Result ℕ E → Type 0) where
  pub number_read : ((u : Text) (x : Result ℕ E) → G u x → ParsesUnsigned 16 10 u x) → (f : Found) (id : Text) (r : Option ℕ)
      → (one_text f id ≡ None → r ≡ None) → ((t : Text) → one_text f id ≡ Some t → ReadsOne G t r)
      → r ≡ option_and_then number (one_of id (rows_of f))
  number_read only = read_of 16 65535 refl (omega arith) G only

  pub budget_read : ((u : Text) (x : Result ℕ E) → G u x → ParsesUnsigned 32 10 u x) → (f : Found) (id : Text) (r : Option ℕ)
      → (one_text f id ≡ None → r ≡ None) → ((t : Text) → one_text f id ≡ Some t → ReadsOne G t r)
      → r ≡ option_and_then budget_number (one_of id (rows_of f))
  budget_read only = read_of 32 4294967295 refl (omega arith) G only

  pub seed_read : ((u : Text) (x : Result ℕ E) → G u x → ParsesUnsigned 64 10 u x) → (f : Found) (id : Text) (r : Option ℕ)
      → (one_text f id ≡ None → r ≡ None) → ((t : Text) → one_text f id ≡ Some t → ReadsOne G t r)
      → r ≡ option_and_then seed_number (one_of id (rows_of f))
  seed_read only = read_of 64 18446744073709551615 refl (omega arith) G only

pub number_accepted : (text : Text) → accepts false (Signed (pos 0) (pos 65535)) text ≡ true → is_some (number (without_minus text)) ≡ true
number_accepted = accepted 16 65535 refl (omega arith)

pub budget_accepted : (text : Text) → accepts false (Signed (pos 0) (pos 4294967295)) text ≡ true
    → is_some (budget_number (without_minus text)) ≡ true
budget_accepted = accepted 32 4294967295 refl (omega arith)

pub plain_number : (text : Text) (k : ℕ) → number text ≡ Some k → PlainNumber 65535 text
plain_number = plain 16 65535 refl (omega arith)

pub plain_budget : (text : Text) (k : ℕ) → budget_number text ≡ Some k → PlainNumber 4294967295 text
plain_budget = plain 32 4294967295 refl (omega arith)

-- the place that a text writes, as it is read
abbrev pub place_value : {E : Type 0} → Result ℕ E → Option ℕ
place_value (Ok v) = Some v
place_value (Err e) = None

pub place_read : {E : Type 0} (text : Text) (r : Result ℕ E) → ParsesUnsigned 32 10 text r → place_number text ≡ place_value r
place_read {E} text (Ok v) h = parsed 32 4294967295 refl (omega arith) {E = E} text (Ok v) h
place_read {E} text (Err e) h = parsed 32 4294967295 refl (omega arith) {E = E} text (Err e) h

-- a seed in its plain form, without a `-`
pub record PlainSeed (text : Text) : Type 0 where
  pub no_option : is_option text ≡ false
  pub as_is : without_minus text ≡ text
  pub passes : accepts false (Unsigned 0 18446744073709551615) text ≡ true

pub plain_seed : (text : Text) (k : ℕ) → seed_number text ≡ Some k → PlainSeed text
plain_seed text k is = go (is_unsigned_in 0 18446744073709551615 text) refl
  where
    none_is : (j : ℕ) → None ≡ Some j → ⊥
    none_is j e = cc

    go : (t : Bool) → is_unsigned_in 0 18446744073709551615 text ≡ t → PlainSeed text
    go true t =
        let none = no_minus 64 18446744073709551615 refl (omega arith) text (writes 64 18446744073709551615 refl (omega arith) text t) in
        record { no_option = no_option_by text none; as_is = as_is_by text none; passes = t }
    go false t = absurd (none_is k (sym (number_by 64 18446744073709551615 refl (omega arith) text false t) ∙ is))
