use Rattle.std.proofs.Common.{◌≡◌, ◌∷◌, rules}
use Rattle.ob_explained_lines.proofs.Firsts.{says_here}
use Rattle.ob_explained_lines.proofs.record_line.says_call.Goals as goal

pub returns : goal.returns
returns c =
    let parts : c.args.words.now ≡ c.in-Some.first.now ∷ c.in-Some.behind.now = search rules in
    let more : c.in-Some.behind.now ≡ c.in-Some-split_first.second.now ∷ c.in-Some-split_first._rest.now = search rules in
    let same : c.in-Some.first.now.now ≡ c.args.letter.now = search rules in
    rw (parts, more) (says_here c.args.letter.now c.in-Some.first.now.now c.in-Some-split_first.second.now.now _ c.args.id c.names_call.result same c.names_call.ensures)
