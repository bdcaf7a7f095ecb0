use Rattle.std.proofs.Common.{◌≡◌, codes, rules}
use Rattle.ob_explained_records.proofs.Ends.{end_is}
use Rattle.ob_explained_records.proofs.end_line.says_end.Goals as goal

pub returns : goal.returns
returns c =
    let same : c.in-Some.first.now ≡ codes "E" = search rules in
    rw c.in-Some.ensures.words (end_is c.args.id c.in-Some.first.now _ c.names_first.result same c.names_first.ensures)
