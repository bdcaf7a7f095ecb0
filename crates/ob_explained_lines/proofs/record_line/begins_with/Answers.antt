use Rattle.std.proofs.Common.{◌≡◌, ◌∷◌, Bor, ap, map, refl, rules}
use Rattle.ob_text_words.specs.Words.{Word}
use Rattle.ob_explained_lines.proofs.record_line.begins_with.Goals as goal

pub returns : goal.returns
returns c =
    let parts : c.args.words.now ≡ c.in-Some.first.now ∷ c.in-Some._rest.now = search rules in
    let same : c.in-Some.first.now.now ≡ c.args.letter.now = search rules in
    let rest = map (λ (w : Bor Word). w.now) c.in-Some._rest.now in
    rw parts (λ t. (rest, ap (λ (l : Word). l ∷ rest) same), λ h. refl)
