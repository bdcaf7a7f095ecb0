-- The token that stands next in a list of tokens.
use Rattle.std.proofs.Common.{◌≡◌, ℕ, List, Option, Some, slice_get, option_map, refl, ap, sym, ◌∙◌, subst}
use Rattle.std.specs.List.{All}
use Rattle.std.proofs.lemmas.Option.{slice_get_within, slice_get-get_or, slice_get-map, same_Some}
use Rattle.ob_scan.specs.declared.token.Token.{Token}
use Rattle.ob_scan.specs.Tokens.{TokenizedText, spelling}
use Rattle.ob_scan.specs.Lexemes.{Lexeme, lexeme, lexemes}
use Rattle.ob_scan.specs.Sources.{Stands}
use Rattle.ob_scan.specs.Listed.{Listing, listed}

-- a fact on all elements, at one that stands there
pub all_there : {A : Type 0} (P : A → Type 0) (xs : List A) (p : ℕ) (x : A) → slice_get xs p ≡ Some x → All P xs → P x
all_there P xs p x e h =
    let below = slice_get_within xs p x e in
    subst P (same_Some _ _ (sym (slice_get-get_or xs p x below) ∙ e)) (h p x below)

pub lexeme_there : (text : List ℕ) (tokens : List Token) (p : ℕ) (t : Option Token) → t ≡ slice_get tokens p →
    option_map (λ t. lexeme t.kind t.start (spelling text t)) t ≡ slice_get (lexemes text tokens) p
lexeme_there text tokens p t e =
    let make : Token → Lexeme = λ t. lexeme t.kind t.start (spelling text t) in
    ap (option_map make) e ∙ sym (slice_get-map make tokens p)

-- before the first token
pub stands_first : {l : Listing} {source : TokenizedText} → l ≡ record { source = source; position = 0 } → Stands (listed l) source 0
stands_first {source = source} e =
    let P : Listing → Type 0 = λ x. Stands (listed x) source 0 in
    subst P (sym e) (record { text = refl; next = refl; gives = (refl, refl) })
