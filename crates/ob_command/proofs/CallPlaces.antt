-- The calls that a text names.
use Rattle.std.proofs.Common.{◌≡◌, ◌∙◌, ◌==◌, ◌<◌, ◌+◌, ℕ, refl, ap, subst, List, [], ◌∷◌, length, true, false, Bool, Option, Some, None, option_and_then, arith, MatchOption}
use Rattle.std.specs.Borrow.{Bor}
use Rattle.std.specs.List.{after_first, before_first, position_or_len}
use Rattle.std.proofs.lemmas.List.{drop_all}
use Rattle.std.proofs.lemmas.Str.Pattern.{IsSplitOnceResult, split_once_first}
use Rattle.ob_command.specs.CommandLine.{Text, are_turned, calls_between, calls_in, is_minus, is_option, is_turned, place_number}
use Rattle.ob_command.specs.declared.command.CallNumbers.{CallNumbers}

-- a text that names calls is no option
pub no_option_in : (text : Text) (calls : CallNumbers) → calls_in text ≡ Some calls → is_option text ≡ false
no_option_in [] calls is = refl
no_option_in (b ∷ []) calls is = refl
no_option_in (b ∷ e ∷ rest) calls is = go (b == 45) refl
  where
    go : (t : Bool) → (b == 45) ≡ t → (b == 45) ≡ false
    go false t = t
    go true t = let bad : None ≡ Some calls = rw t at is in cc

-- ---- as it is split

abbrev Parts : Type 0
Parts = Bor (List ℕ) × Bor (List ℕ)

-- the parts stand around the first `-`, and there are none where there is no such
abbrev AreParts : Text → Option Parts → Type 0
AreParts text r = MatchOption r (position_or_len is_minus text ≡ length text)
    (λ z. (position_or_len is_minus text < length text) × (z.0.now ≡ before_first is_minus text) × (z.1.now ≡ after_first is_minus text))

no_to : (from : Option ℕ) → option_and_then (λ f. option_and_then (calls_between f) None) from ≡ None
no_to None = refl
no_to (Some f) = refl

pub unsplit : (text : Text) (r : Option Parts) → IsSplitOnceResult 45 text r → r ≡ None → calls_in text ≡ None
unsplit text r splits is =
    let none : position_or_len is_minus text ≡ length text =
    subst (λ (x : Option Parts). AreParts text x) is (split_once_first 45 text r splits (omega arith)) in
    let nothing : after_first is_minus text ≡ [] = drop_all (position_or_len is_minus text + 1) text (omega (arith, none)) in
    ap (λ (t : Text). option_and_then (λ f. option_and_then (calls_between f) (place_number t)) (place_number (before_first is_minus text))) nothing
    ∙ no_to (place_number (before_first is_minus text))

pub split_as : (text : Text) (r : Option Parts) → IsSplitOnceResult 45 text r → (x : Parts) → r ≡ Some x → (from to : Option ℕ)
    → place_number x.0.now ≡ from → place_number x.1.now ≡ to → calls_in text ≡ option_and_then (λ f. option_and_then (calls_between f) to) from
split_as text r splits x is from to is_from is_to =
    let parts = subst (λ (y : Option Parts). AreParts text y) is (split_once_first 45 text r splits (omega arith)) in
    rw (← parts.1, ← parts.2, is_from, is_to) refl

-- ---- which of two places is behind the other

not_turned_to : (from : Option ℕ) → are_turned from None ≡ false
not_turned_to None = refl
not_turned_to (Some f) = refl

pub unsplit_unturned : (text : Text) (r : Option Parts) → IsSplitOnceResult 45 text r → r ≡ None → is_turned text ≡ false
unsplit_unturned text r splits is =
    let none : position_or_len is_minus text ≡ length text =
    subst (λ (x : Option Parts). AreParts text x) is (split_once_first 45 text r splits (omega arith)) in
    let nothing : after_first is_minus text ≡ [] = drop_all (position_or_len is_minus text + 1) text (omega (arith, none)) in
    ap (λ (t : Text). are_turned (place_number (before_first is_minus text)) (place_number t)) nothing
    ∙ not_turned_to (place_number (before_first is_minus text))

pub turned_as : (text : Text) (r : Option Parts) → IsSplitOnceResult 45 text r → (x : Parts) → r ≡ Some x
    → is_turned text ≡ are_turned (place_number x.0.now) (place_number x.1.now)
turned_as text r splits x is =
    let parts = subst (λ (y : Option Parts). AreParts text y) is (split_once_first 45 text r splits (omega arith)) in
    rw (← parts.1, ← parts.2) refl
