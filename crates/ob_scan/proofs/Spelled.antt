-- The tokens with which a text begins are spelled within the limits.
use Rattle.std.proofs.Common.{◌≡◌, ℕ, List, [], ◌∷◌, ◌++◌, refl, sym, ◌∙◌, ap, subst, append_assoc}
use Rattle.std.specs.List.{All}
use Rattle.std.proofs.lemmas.List.Elements.{All-nil, All-cons, All-head, All-tail}
use Rattle.ob_scan.specs.declared.token.Token.{Token}
use Rattle.ob_scan.specs.Lexemes.{lexeme, IsSpelled, spelled, lexemes}
use Rattle.ob_scan.specs.Spelling.{Spells}
use Rattle.ob_scan.specs.Tokens.{BeginsWith, stops, blank, comment, token, spelling, place, KeepsLimits, HasTokensBefore}
use Rattle.ob_scan.proofs.TokenFacts.{before_end, spelling_there}

-- the same of what is left of a text
spelled_behind : {whole text rest : List ℕ} {tokens : List Token} (before : List ℕ) → whole ≡ before ++ text →
    BeginsWith whole text tokens rest → All (KeepsLimits whole) tokens → All IsSpelled (lexemes whole tokens)
spelled_behind before e stops k = All-nil IsSpelled
spelled_behind before e (blank {byte = byte} {text = text} b r) k =
    spelled_behind (before ++ byte ∷ []) (e ∙ sym (append_assoc before (byte ∷ []) text)) r k
spelled_behind before e (comment {behind = behind} c r) k =
    let x = before_end c in
    spelled_behind (before ++ (40 ∷ 42 ∷ x.0))
    (e ∙ ap (λ l. before ++ (40 ∷ 42 ∷ l)) x.1 ∙ sym (append_assoc before (40 ∷ 42 ∷ x.0) behind)) r k
spelled_behind {whole = whole} before e (token {text = text} {behind = behind} {tokens = tokens} bytes kind f s l n r) k =
    let t : Token = record { kind = kind; start = place whole text; end = place whole behind } in
    let P : List ℕ → Type 0 = λ b. Spells b kind in
    let limits = All-head (KeepsLimits whole) t tokens k in
    All-cons IsSpelled (lexeme kind t.start (spelling whole t)) (lexemes whole tokens)
    (spelled (subst P (sym (spelling_there before bytes behind whole text e f)) s) limits.0 limits.1)
    (spelled_behind (before ++ bytes) (e ∙ ap (λ b. before ++ b) f ∙ sym (append_assoc before bytes behind)) r
    (All-tail (KeepsLimits whole) t tokens k))

pub before_spelled : {text rest : List ℕ} {tokens : List Token} → HasTokensBefore text tokens rest → All IsSpelled (lexemes text tokens)
before_spelled h = spelled_behind [] refl h.spelled h.limited
