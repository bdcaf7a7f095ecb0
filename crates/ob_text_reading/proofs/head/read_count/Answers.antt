use Rattle.std.proofs.Common.{◌≡◌, ◌∷◌, codes, rules}
use Rattle.ob_text_reading.specs.RecordLines.{count}
use Rattle.ob_text_reading.proofs.head.read_count.Goals as goal

pub returns : goal.returns
returns c =
    let parts : c.args.words.now ≡ c.in-Some.first.now ∷ c.in-Some.rest.now = search rules in
    let is : c.in-Some.first.now.now ≡ codes "n" = search rules in
    let n = c.in_ok-count.ensures in
    rw (parts, is, n.1) (count n.2 n.3 n.4)
