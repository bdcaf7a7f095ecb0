use Rattle.std.proofs.Common.{◌≡◌, ◌∷◌, codes, rules}
use Rattle.ob_text_reading.proofs.Openers.{count_found}
use Rattle.ob_text_reading.proofs.line_reader.is_count.Goals as goal

pub returns : goal.returns
returns c =
    let parts : c.args.words.now ≡ c.in-Some.first.now ∷ c.in-Some.rest.now = search rules in
    let is : c.in-Some.first.now.now ≡ codes "n" = search rules in
    rw (parts, is, c.is_some.ensures) (count_found _ _ c.only_process.ensures)
