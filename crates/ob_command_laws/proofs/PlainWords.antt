-- A word that is no option.
use Rattle.std.proofs.Common.{◌≡◌, ◌∙◌, refl, sym, ap, [], ◌∷◌, codes, true, false, Bool, if◌then◌else◌, ◌==◌, Some, None, option_and_then}
use Rattle.std.specs.Str.{bytes_eq}
use Rattle.std.proofs.lemmas.Slice.Eq.{bytes_eq-Decides}
use Rattle.clap.specs.Lexer.{long_of, long_of_rest, short_of, short_of_rest, strip_byte}
use Rattle.clap.specs.Walk.{Text}
use Rattle.ob_command.specs.CommandLine.{Version, clap_request, is_option}
use Rattle.ob_command_line.specs.HelpWords.{asks_version}

-- it is no such option
not_this : (this word : Text) → is_option this ≡ true → is_option word ≡ false → bytes_eq word this ≡ false
not_this this word is_one h = go (bytes_eq word this) refl
  where
    go : (t : Bool) → bytes_eq word this ≡ t → bytes_eq word this ≡ false
    go false t = t
    go true t =
        let is : word ≡ this = (bytes_eq-Decides word this).0 t in
        let bad : true ≡ false = sym is_one ∙ (ap is_option (sym is) ∙ h) in
        cc

pub no_dashes : (word : Text) → is_option word ≡ false → bytes_eq word (codes "--") ≡ false
no_dashes word h = not_this (codes "--") word refl h

-- behind a name it asks for no version
pub no_version : (name word : Text) → is_option word ≡ false → asks_version (name ∷ word ∷ []) ≡ false
no_version name word h =
    let long = not_this (codes "--version") word refl h in
    let short = not_this (codes "-V") word refl h in
    rw (long, short) refl

pub by_clap : (name word : Text) → is_option word ≡ false → (if asks_version (name ∷ word ∷ []) then Version else clap_request (name ∷ word ∷ [])) ≡ clap_request (name ∷ word ∷ [])
by_clap name word h = ap (λ (t : Bool). if t then Version else clap_request (name ∷ word ∷ [])) (no_version name word h)

pub no_long : (word : Text) → is_option word ≡ false → long_of word ≡ None
no_long [] h = refl
no_long (b ∷ []) h = go (b == 45)
  where
    go : (t : Bool) → option_and_then long_of_rest (option_and_then (strip_byte 45) (if t then Some [] else None)) ≡ None
    go true = refl
    go false = refl
no_long (b ∷ c ∷ rest) h = rw h refl

pub no_short : (word : Text) → is_option word ≡ false → short_of word ≡ None
no_short [] h = refl
no_short (b ∷ []) h = go (b == 45)
  where
    go : (t : Bool) → option_and_then short_of_rest (if t then Some [] else None) ≡ None
    go true = refl
    go false = refl
no_short (b ∷ c ∷ rest) h = rw h refl
